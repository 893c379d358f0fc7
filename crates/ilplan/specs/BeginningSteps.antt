-- What private functions ask of what tasks begin with.
use Rattle.std.specs.Prelude.{◌≡◌, length}
use Rattle.ilblocks.specs.Stores.{Lasting}
use Rattle.ilplan.specs.Plans.{PlannedTask}

-- a value for each slot of the task, and something for each of its block instances
pub record FitsTask (task : PlannedTask) (firsts : Lasting) : Type 0 where
  pub values : length firsts.slots ≡ length task.slots
  pub blocks : length firsts.blocks ≡ length task.states
