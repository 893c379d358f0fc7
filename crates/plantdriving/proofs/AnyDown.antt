-- One bus more that is down or not.
use Rattle.std.proofs.Common.{◌≡◌, ℕ, ◌+◌, Bool, true, false, List, add-one, refl}
use Rattle.plantevents.specs.declared.event.Event.{Event}
use Rattle.plantevents.specs.Histories.{is_down}
use Rattle.plantdriving.specs.Downs.{has_down}

pub one_down : (bus : ℕ) (h : List Event) → is_down bus h ≡ true → true ≡ has_down (bus + 1) h
one_down bus h down = rw (add-one, down) refl

pub none_down : (bus : ℕ) (h : List Event) (any : Bool) → is_down bus h ≡ false → any ≡ has_down bus h
    → any ≡ has_down (bus + 1) h
none_down bus h any up is = rw (add-one, up) is
