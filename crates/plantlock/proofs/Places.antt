-- The places that are kept back for roles: after an event, and after a place more is kept back.
use Rattle.std.proofs.Common.{◌≡◌, ◌≢◌, ℕ, zero, suc, Bool, true, false, List, [], ◌∷◌, refl, sym, ap}
use Rattle.std.proofs.lemmas.List.{get_or-set_same, get_or-set_other}
use Rattle.std.specs.Prelude.{slice_index_or, slice_set}
use Rattle.plantevents.specs.declared.role.Role.{Role}
use Rattle.plantevents.specs.declared.role.Role.TheVariants.{Worker, Bus, Clock}
use Rattle.plantevents.specs.declared.event.Event.{Event}
use Rattle.plantevents.specs.declared.event.Event.TheVariants.{Tick, Heard, Take, Commit, Hand, Done, Down, Up}
use Rattle.plantevents.specs.Parts.{role_of}
use Rattle.plant.specs.Shown.{Shown, grown, reserving, is_reserved}
use Rattle.plantreceipts.specs.Receipts.{reserved_after}
use Rattle.plantlock.specs.Tied.{HasPlace}

cleared : (bs : List Bool) (b : ℕ) → slice_index_or (slice_set bs b false) b false ≡ false
cleared [] zero = refl
cleared [] (suc b) = refl
cleared (x ∷ bs) zero = refl
cleared (x ∷ bs) (suc b) = cleared bs b

pub reserved_mine : (p : Shown) (e : Event)
    → is_reserved (role_of e) (grown p e) ≡ reserved_after e (is_reserved (role_of e) p)
reserved_mine p (Tick m) = refl
reserved_mine p (Heard b f) = cleared p.reserved.buses b
reserved_mine p (Take w t s) = refl
reserved_mine p (Commit w n r) = refl
reserved_mine p (Hand b s t) = refl
reserved_mine p (Done b n r) = refl
reserved_mine p (Down b) = refl
reserved_mine p (Up b) = refl

pub reserved_other : (p : Shown) (r : Role) (e : Event) → role_of e ≢ r → is_reserved r (grown p e) ≡ is_reserved r p
reserved_other p (Worker w) e apart = refl
reserved_other p Clock (Tick m) apart = absurd (apart refl)
reserved_other p Clock (Heard b f) apart = refl
reserved_other p Clock (Take w t s) apart = refl
reserved_other p Clock (Commit w n r) apart = refl
reserved_other p Clock (Hand b s t) apart = refl
reserved_other p Clock (Done b n r) apart = refl
reserved_other p Clock (Down b) apart = refl
reserved_other p Clock (Up b) apart = refl
reserved_other p (Bus c) (Tick m) apart = refl
reserved_other p (Bus c) (Heard b f) apart =
    get_or-set_other p.reserved.buses b c false false (λ (is : c ≡ b). apart (ap Bus (sym is)))
reserved_other p (Bus c) (Take w t s) apart = refl
reserved_other p (Bus c) (Commit w n r) apart = refl
reserved_other p (Bus c) (Hand b s t) apart = refl
reserved_other p (Bus c) (Done b n r) apart = refl
reserved_other p (Bus c) (Down b) apart = refl
reserved_other p (Bus c) (Up b) apart = refl

pub reserved_now : (r : Role) (p : Shown) → HasPlace r p → is_reserved r (reserving r p) ≡ true
reserved_now Clock p has = refl
reserved_now (Bus b) p has = get_or-set_same p.reserved.buses b true false has
reserved_now (Worker w) p has = absurd has

pub reserved_then : (r q : Role) (p : Shown) → r ≢ q → is_reserved q (reserving r p) ≡ is_reserved q p
reserved_then (Worker v) (Worker w) p apart = refl
reserved_then (Worker v) (Bus c) p apart = refl
reserved_then (Worker v) Clock p apart = refl
reserved_then Clock (Worker w) p apart = refl
reserved_then (Bus b) (Worker w) p apart = refl
reserved_then Clock Clock p apart = absurd (apart refl)
reserved_then Clock (Bus b) p apart = refl
reserved_then (Bus b) Clock p apart = refl
reserved_then (Bus b) (Bus c) p apart =
    get_or-set_other p.reserved.buses b c true false (λ (is : c ≡ b). apart (ap Bus (sym is)))
