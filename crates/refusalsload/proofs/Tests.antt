-- Answers of tests.
use Rattle.std.proofs.Common.{◌≡◌, ◌↔◌, [], ◌∷◌, Bool, true, false, IsTrue, zero, suc, refl, arith}
use Rattle.std.specs.List.{All}

-- a test is false where it would say what is not so
pub not_true : (b : Bool) (P : Type 0) → IsTrue b ↔ P → ¬ P → b ≡ false
not_true true P says none = absurd (none (says.0 refl))
not_true false P says none = refl

-- what holds of the only element holds of each
pub one_all : {X : Type 0} (P : X → Type 0) (x : X) → P x → All P (x ∷ [])
one_all P x holds zero d within = holds
one_all P x holds (suc k) d within = absurd (omega (arith, within))
