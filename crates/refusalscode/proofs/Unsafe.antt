-- A code is not safe where from some store of its types a step is undefined.
use Rattle.std.proofs.Common.{◌≡◌, ◌⊎◌, ℕ, Option, Some, None, IsSome, IsTrue, Bool, true, false, inl, inr, is_some, refl, ap, subst}
use Rattle.ilblocks.specs.Stores.{Store, IsStoreOf}
use Rattle.ilcode.specs.Listings.{Listing, shape_of}
use Rattle.ilcode.specs.Steps.{Configuration, IsSafe, HasEnded, after, start, step}

-- a run from this store comes to a place before the end, and its next step is undefined
pub record GoesWrong (code : Listing) : Type 0 where
  pub store : Store
  pub typed : IsStoreOf (shape_of code) store
  pub steps : ℕ
  pub to : Configuration
  pub runs : after code (start store) steps ≡ Some to
  pub undefined : step code to ≡ None
  pub inside : ¬ HasEnded code to

neither : (code : Listing) (to : Configuration) → ¬ HasEnded code to → step code to ≡ None
    → ¬ (HasEnded code to ⊎ IsSome (step code to))
neither code to inside undefined (inl ended) = inside ended
neither code to inside undefined (inr some) = let none : is_some (step code to) ≡ false = ap is_some undefined in cc

pub not_safe : (code : Listing) → GoesWrong code → ¬ IsSafe code
not_safe code wrong safe =
    neither code wrong.to wrong.inside wrong.undefined
    (safe wrong.store wrong.steps wrong.to wrong.typed (record { is = wrong.runs }))

pub not_true : (b : Bool) → ¬ IsTrue b → b ≡ false
not_true true untrue = absurd (untrue refl)
not_true false untrue = refl

-- so it is not accepted
pub not_accepted : (code given : Listing) (accepted : Bool) → given ≡ code → (IsTrue accepted → IsSafe given)
    → GoesWrong code → accepted ≡ false
not_accepted code given accepted same safe wrong =
    not_true accepted (λ (yes : IsTrue accepted). not_safe code wrong (subst IsSafe same (safe yes)))
