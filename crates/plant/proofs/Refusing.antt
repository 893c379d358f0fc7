-- A call that is not refused meets none of its cases.
use Rattle.std.proofs.Common.{◌≡◌, ℕ, ◌+◌, ◌≤◌, Bool, true, false, not, List, ◌∷◌, None, refl, arith}
use Rattle.std.proofs.lemmas.Grind.{common_steps}
use Rattle.std.specs.Prelude.{◌&&◌, if◌then◌else◌, nat_lt}
use Rattle.plant.specs.declared.refusal.CallRefusal.{CallRefusal}
use Rattle.plant.specs.Refusals.{Case, first_refusal}

-- neither the first nor a later one
pub none_holds : (holds : Bool) (refusal : CallRefusal) (more : List Case)
    → first_refusal ((holds, refusal) ∷ more) ≡ None → (holds ≡ false) × (first_refusal more ≡ None)
none_holds true refusal more is = absurd (cc)
none_holds false refusal more is = (refl, is)

pub not_below : (a b : ℕ) → nat_lt a b ≡ false → b ≤ a
not_below a b is = grind (arith, common_steps)

-- a place is kept back, or one is left
pub room_left : (place : Bool) (length kept after limit : ℕ) → (not place && nat_lt limit (length + kept + 2)) ≡ false
    → after + (if place then 1 else 0) ≡ kept → length + kept ≤ limit → length + 1 + after ≤ limit
room_left true length kept after limit free used within = omega arith
room_left false length kept after limit free used within =
    let below = not_below limit (length + kept + 2) free in omega arith

-- as for one more that is kept back
pub room_kept : (place : Bool) (length kept after limit : ℕ) → (not place && nat_lt limit (length + kept + 2)) ≡ false
    → after ≡ kept + (if place then 0 else 1) → length + kept ≤ limit → length + after ≤ limit
room_kept true length kept after limit free used within = omega arith
room_kept false length kept after limit free used within =
    let below = not_below limit (length + kept + 2) free in omega arith
