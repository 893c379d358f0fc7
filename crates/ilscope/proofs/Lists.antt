-- Numbers and lists: a number below a bound and one more, and the elements that have a property by their places.
use Rattle.std.proofs.Common.{◌≡◌, ℕ, zero, suc, ◌+◌, ◌<◌, List, [], ◌∷◌, refl, ap, sym, arith, subst, ◌⊎◌, inl, inr}
use Rattle.std.specs.Prelude.{Some, slice_get}
use Rattle.ildeclared.specs.Faults.{SomeOf}
use Rattle.ildeclared.proofs.FoundOrder.{or_else}

pub last_or_before : (n bound : ℕ) → n < bound + 1 → (n < bound) ⊎ (n ≡ bound)
last_or_before zero zero h = inr refl
last_or_before zero (suc bound) h = inl (omega arith)
last_or_before (suc n) zero h = absurd (omega (arith, h))
last_or_before (suc n) (suc bound) h =
    or_else (λ l. inl (omega (arith, l))) (λ e. inr (ap suc e)) (last_or_before n bound (omega (arith, h)))

pub some_at : {X : Type 0} (P : X → Type 0) (xs : List X) → SomeOf P xs
    → (i : ℕ) × (x : X) × (slice_get xs i ≡ Some x) × P x
some_at P [] s = absurd s
some_at P (x ∷ xs) (inl p) = (0, x, refl, p)
some_at P (x ∷ xs) (inr s) = let t = some_at P xs s in (suc t.0, t.1, t.2, t.3)

pub at_some : {X : Type 0} (P : X → Type 0) (xs : List X) (i : ℕ) (x : X) → slice_get xs i ≡ Some x → P x → SomeOf P xs
at_some P [] i x e p = absurd cc
at_some P (y ∷ ys) zero x e p = let same : y ≡ x = cc in inl (subst P (sym same) p)
at_some P (y ∷ ys) (suc i) x e p = inr (at_some P ys i x e p)
