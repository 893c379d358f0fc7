-- Why a run ends where a worker cannot go on, and what is said of it.
use Rattle.std.specs.Prelude.{Bool, if◌then◌else◌}
use Rattle.plantturns.specs.Halt.{Halt}
use Rattle.plantturns.specs.Halt.TheVariants as halts
use Rattle.workers.specs.declared.ended.Ended.{Ended}
use Rattle.workers.specs.declared.ended.Ended.TheVariants.{Asked, Limit, NoMemory, NoThread}

-- a worker halts: the plant refuses it a place in the history, or the allocator is out of memory. An observer that fails
-- counts as the latter: a gate never fails.
abbrev pub ended_of : Halt → Ended
ended_of (halts.Refused refusal) = Limit
ended_of halts.Memory = NoMemory
ended_of (halts.Unwritten error) = NoMemory

-- why a run ended where a worker told this: the history is said to be full only where it is
abbrev pub ended_as_told : Bool → Ended → Ended
ended_as_told full Asked = Asked
ended_as_told full Limit = if full then Limit else NoMemory
ended_as_told full NoMemory = NoMemory
ended_as_told full NoThread = NoThread
