-- How often a text wants the time (profile).
use Rattle.std.specs.Prelude.{◌≡◌, ◌⊎◌, ℕ, ◌≤◌, Any}
use Rattle.ilplan.specs.declared.activation.Activation.TheVariants.{Cyclic}
use Rattle.ilplan.specs.Plans.{Planned}

-- the period of a clock where no task is cyclic, and the greatest one, in milliseconds
abbrev pub usual_period : ℕ
usual_period = 100

abbrev pub most_period : ℕ
most_period = 1000

-- a task of this plan is started by the clock every so many milliseconds
abbrev pub HasInterval : Planned → ℕ → Type 0
HasInterval plan interval = Any (λ task. task.activation ≡ Cyclic interval) plan.tasks

-- the least number that is so
pub record IsLeast (P : ℕ → Type 0) (n : ℕ) : Type 0 where
  pub is : P n
  pub least : (other : ℕ) → P other → n ≤ other

-- The period of a clock for this plan, in milliseconds.
pub record IsPeriod (plan : Planned) (period : ℕ) : Type 0 where
  -- Where the plan has cyclic tasks: the least of their intervals and of the greatest period.
  pub cyclic : (interval : ℕ) → HasInterval plan interval
      → IsLeast (λ n. HasInterval plan n ⊎ (n ≡ most_period)) period
  -- Where it has none: the usual one.
  pub other : ((interval : ℕ) → ¬ HasInterval plan interval) → period ≡ usual_period
