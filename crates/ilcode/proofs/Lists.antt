-- Lists by their elements.
use Rattle.std.proofs.Common.{◌≡◌, ℕ, zero, suc, ◌<◌, List, [], ◌∷◌, length, Some, refl, arith}
use Rattle.std.specs.Prelude.{slice_get}

pub get : {A : Type 0} (xs : List A) (i : ℕ) → i < length xs → (x : A) × (slice_get xs i ≡ Some x)
get [] i h = absurd (omega arith)
get (x ∷ xs) zero h = (x, refl)
get (x ∷ xs) (suc i) h = get xs i (omega arith)
