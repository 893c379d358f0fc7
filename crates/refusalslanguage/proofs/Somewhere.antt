-- Something of a list.
use Rattle.std.proofs.Common.{List, [], ◌∷◌, inl, inr}
use Rattle.ildeclared.specs.Faults.{SomeOf}

-- where each that has the one property has the other, too
pub some_has : {X : Type 0} (P Q : X → Type 0) (xs : List X) → SomeOf P xs → ((x : X) → P x → Q x) → SomeOf Q xs
some_has P Q [] h each = absurd h
some_has P Q (x ∷ xs) (inl p) each = inl (each x p)
some_has P Q (x ∷ xs) (inr h) each = inr (some_has P Q xs h each)
