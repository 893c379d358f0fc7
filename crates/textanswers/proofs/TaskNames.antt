-- The task of a name, by the name that the task shows.
use Rattle.std.proofs.Common.{◌≡◌, ℕ, List, map, Option, Some, None, sym}
use Rattle.std.specs.Prelude.{slice_get, option_map, IfSome}
use Rattle.std.specs.Char.{to_ascii_lowercase}
use Rattle.ilplan.specs.Plans.{Planned, PlannedTask}
use Rattle.textanswers.specs.Answered.{IsCalled}

-- the names are the same, without regard to letter case
abbrev IsAlike : List ℕ → List ℕ → Type 0
IsAlike shown name = map to_ascii_lowercase shown ≡ map to_ascii_lowercase name

called_at : (o : Option PlannedTask) (name shown : List ℕ) → option_map (λ (t : PlannedTask). t.name) o ≡ Some shown
    → IsAlike shown name → IfSome o (λ t. IsAlike t.name name)
called_at None name shown e h = absurd (cc)
called_at (Some t) name shown e h = let same : t.name ≡ shown = cc in rw same h

uncalled_at : (o : Option PlannedTask) (name shown : List ℕ)
    → option_map (λ (t : PlannedTask). t.name) o ≡ Some shown → IfSome o (λ t. IsAlike t.name name)
    → IsAlike shown name
uncalled_at None name shown e h = absurd (cc)
uncalled_at (Some t) name shown e h = let same : t.name ≡ shown = cc in rw (sym same) h

module _ (plan : Planned) (name shown : List ℕ) (k : ℕ)
    (is : option_map (λ (t : PlannedTask). t.name) (slice_get plan.tasks k) ≡ Some shown) where
  pub called : IsAlike shown name → IsCalled plan name k
  called h = called_at (slice_get plan.tasks k) name shown is h

  pub uncalled : IsCalled plan name k → IsAlike shown name
  uncalled h = uncalled_at (slice_get plan.tasks k) name shown is h
