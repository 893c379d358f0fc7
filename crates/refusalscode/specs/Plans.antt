-- Plans whose first task is a worked one.
use Rattle.std.specs.Prelude.{◌≡◌, List, Some, replicate, slice_get}
use Rattle.ilplan.specs.Functions.{PlannedFunction}
use Rattle.ilplan.specs.Plans.{Planned, PlannedTask}

-- the first task of the plan is this one, on two buses; the text has a line feed at each place
pub record HasFirst (plan : Planned) (functions : List PlannedFunction) (task : PlannedTask) : Type 0 where
  pub buses : plan.buses ≡ 2
  pub text : plan.text ≡ replicate 20 10
  pub known : plan.functions ≡ functions
  pub first : slice_get plan.tasks 0 ≡ Some task
