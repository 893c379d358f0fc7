-- Scans one after another (IEC 61131-3, 2.7.2).
use Rattle.std.specs.Prelude.{◌≡◌, ℕ, ◌*◌, zero, suc, Some, slice_get, List, [], ◌∷◌, ◌++◌, length}
use Rattle.iltypes.specs.declared.value.Value.{Value}
use Rattle.ilblocks.specs.Calls.{Block}
use Rattle.ilblocks.specs.Stores.{Store, Lasting, lasting_of, store_at, blocks_at_first}
use Rattle.ilplan.specs.Plans.{PlannedTask, first_values, kinds_of}
use Rattle.ilverify.specs.Verdicts.{Accepted}
use Rattle.ilmachine.specs.Scans.{IsScan}
use Rattle.ilcompile.specs.Loaded.{Loaded}
use Rattle.textanswers.specs.Taking.{Taking}

-- a scan of the code from this at this moment leaves that, with its steps and its requests
pub record IsScanAt (code : Accepted) (moment : ℕ) (from : Lasting) (taken : Taking) (to : Lasting) : Type 0 where
  pub after : Store
  pub scan : IsScan code (store_at from moment) taken.steps after
  pub at_moment : taken.moment ≡ moment
  pub requests : taken.requests ≡ after.requests
  pub left : to ≡ lasting_of after

-- this many scans of the code, so many milliseconds apart, each from what the one before left, take this and leave that
abbrev pub ScansTo : Accepted → ℕ → ℕ → Lasting → List Taking → Lasting → Type 0
ScansTo code every zero from each to = (each ≡ []) × (to ≡ from)
ScansTo code every (suc scans) from each to =
    (before : List Taking) × (between : Lasting) × (last : Taking) × ScansTo code every scans from before between
    × IsScanAt code (scans * every) between last to × (each ≡ before ++ last ∷ [])

abbrev pub lasting : List Value → List Block → Lasting
lasting slots blocks = record { slots = slots; blocks = blocks }

-- before the first scan variables have their initial values, but TRUE at an event task's trigger, and block instances
-- are at their start
abbrev pub lasting_at_first : PlannedTask → Lasting
lasting_at_first task = lasting (first_values task) (blocks_at_first (kinds_of task))

-- scans of the task of this number by its code
pub record AreScansOf (setup : Loaded) (number scans every : ℕ) (each : List Taking) (left : Lasting) : Type 0 where
  pub task : PlannedTask
  pub is : slice_get setup.plan.tasks number ≡ Some task
  pub code : Accepted
  pub coded : slice_get setup.codes number ≡ Some code
  pub run : ScansTo code every scans (lasting_at_first task) each left

-- scans of one task of a setup: what each took, and what lasts after the last
pub record Run : Type 0 where
  pub setup : Loaded
  pub task : ℕ
  pub each : List Taking
  pub left : Lasting

abbrev pub run_of : Loaded → ℕ → List Taking → Lasting → Run
run_of setup task each left = record { setup = setup; task = task; each = each; left = left }

-- the task is one of the setup's, with a value for each of its variables
pub record HasTask (run : Run) : Type 0 where
  pub task : PlannedTask
  pub is : slice_get run.setup.plan.tasks run.task ≡ Some task
  pub valued : length run.left.slots ≡ length task.slots
