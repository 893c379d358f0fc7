-- A task whose code is refused, with the plan that has its name (profile).
use Rattle.std.specs.Prelude.{ℕ}
use Rattle.ilplan.specs.Plans.{Planned}
use Rattle.ilverify.specs.declared.refusal.Refusal.{Refusal}

-- a plan, the number of one of its tasks, and why that task's code is refused
pub record Refused : Type 0 where
  pub plan : Planned
  pub task : ℕ
  pub refusal : Refusal

abbrev pub refused_of : Planned → ℕ → Refusal → Refused
refused_of plan task refusal = record { plan = plan; task = task; refusal = refusal }
