-- What a text is answered: what stands against running it, or the variables of a task after its scans (IEC 61131-3,
-- 2.7.2 and 3.2, and profile).
use Rattle.std.specs.Prelude.{◌≡◌, ℕ, zero, suc, ◌*◌, ◌<◌, ◌≤◌, List, [], ◌∷◌, ◌++◌, length, map, All, IfSome}
use Rattle.std.specs.Prelude.{Result, Ok, Err, Option, Some, None, slice_get, ⊤}
use Rattle.std.specs.Char.{to_ascii_lowercase}
use Rattle.wordlines.specs.Wirings.{Wiring}
use Rattle.gearcmd.specs.declared.requests.Request.{Request}
use Rattle.ilblocks.specs.Stores.{Store, Lasting, lasting_of, store_at, blocks_at_first}
use Rattle.ilsource.specs.SourceTrees.{Tree}
use Rattle.ilplan.specs.Plans.{Planned, first_values}
use Rattle.plantload.specs.Meaning.{source_scan}
use Rattle.plantload.specs.Resolved.{planned_task}
use Rattle.plantload.specs.Tasks.{SourceTask, tasks_of}
use Rattle.plantload.specs.Variables.{blocks_of}
use Rattle.ilcompile.specs.Loaded.{Loaded}
use Rattle.plantload.specs.Loading.{IsLoadFault, IsPlanOfText, IsSetup}
use Rattle.plantload.specs.declared.fault.LoadFault.{LoadFault}
use Rattle.plantload.specs.declared.fault.LoadFault.TheVariants as load_faults
use Rattle.textanswers.specs.Stepping.{AreScansOf, Run}
use Rattle.textanswers.specs.declared.stop.Stop.{Stop}
use Rattle.textanswers.specs.declared.stop.Stop.TheVariants.{Memory, Binding, Load, NoTask}

-- ---- the task of a name

-- the task of this number has the name, without regard to letter case
abbrev pub IsCalled : Planned → List ℕ → ℕ → Type 0
IsCalled plan name task =
    IfSome (slice_get plan.tasks task) (λ t. map to_ascii_lowercase t.name ≡ map to_ascii_lowercase name)

-- the task of this number is the first of the name
pub record IsFirstCalled (plan : Planned) (name : List ℕ) (task : ℕ) : Type 0 where
  pub within : task < length plan.tasks
  pub is : IsCalled plan name task
  pub first : (k : ℕ) → k < task → ¬ (IsCalled plan name k)

abbrev pub NoneIsCalled : Planned → List ℕ → Type 0
NoneIsCalled plan name = (k : ℕ) → k < length plan.tasks → ¬ (IsCalled plan name k)

-- the task of this number is the one that is meant: the first of the name, or where no name is given the only one
abbrev pub IsMeantTask : Planned → Option (List ℕ) → ℕ → Type 0
IsMeantTask plan (Some name) task = IsFirstCalled plan name task
IsMeantTask plan None task = (task ≡ 0) × (length plan.tasks ≡ 1)

abbrev pub NoneIsMeant : Planned → Option (List ℕ) → Type 0
NoneIsMeant plan (Some name) = NoneIsCalled plan name
NoneIsMeant plan None = ¬ (length plan.tasks ≡ 1)

-- the setup of a text, and the task that is meant
pub record IsFound (wiring : Wiring) (bytes : List ℕ) (name : Option (List ℕ)) (setup : Loaded) (task : ℕ) : Type 0 where
  pub loaded : IsSetup wiring bytes setup
  pub called : IsMeantTask setup.plan name task

-- ---- what stands against a text

-- the allocator is out of memory, which may be at any time, or it is such a stop
abbrev pub IsStopOrMemory : (Stop → Type 0) → Stop → Type 0
IsStopOrMemory Stops Memory = ⊤
IsStopOrMemory Stops (Binding fault) = Stops (Binding fault)
IsStopOrMemory Stops (Load fault) = Stops (Load fault)
IsStopOrMemory Stops (NoTask asked) = Stops (NoTask asked)

-- why a text is not accepted: it is not loaded
abbrev pub IsCheckStop : Wiring → List ℕ → Stop → Type 0
IsCheckStop wiring bytes (Load fault) = IsLoadFault wiring bytes fault
IsCheckStop wiring bytes _ = ⊥

-- a refused code is reported where a task is meant
abbrev pub IsAfterName : Option (List ℕ) → LoadFault → Type 0
IsAfterName name (load_faults.Code refused) = (task : ℕ) × IsMeantTask refused.plan name task
IsAfterName name _ = ⊤

-- why a task of a text is not run: the fault of the text or its names, else that no task is meant, else the first refused
-- code
abbrev pub IsStepStop : Wiring → List ℕ → Option (List ℕ) → Stop → Type 0
IsStepStop wiring bytes name (Load fault) = IsLoadFault wiring bytes fault × IsAfterName name fault
IsStepStop wiring bytes name (NoTask asked) =
    (asked ≡ name) × ((plan : Planned) × IsPlanOfText wiring bytes plan × NoneIsMeant plan name)
IsStepStop wiring bytes name _ = ⊥

-- ---- what scans of a text leave

-- this many scans of a task of the source program on so many buses, so many milliseconds apart, each from what the one
-- before left, make these requests and leave that
abbrev pub ScansMean : Tree → ℕ → SourceTask → ℕ → ℕ → Lasting → List (List Request) → Lasting → Type 0
ScansMean tree buses task every zero from requests to = (requests ≡ []) × (to ≡ from)
ScansMean tree buses task every (suc scans) from requests to =
    (before : List (List Request)) × (between : Lasting) × (after : Store)
    × ScansMean tree buses task every scans from before between
    × (source_scan tree buses task (store_at between (scans * every)) ≡ Some after)
    × (requests ≡ before ++ after.requests ∷ []) × (to ≡ lasting_of after)

-- before the first scan: the first values of the task's slots, and its block instances at their start
abbrev pub at_first : Tree → SourceTask → Lasting
at_first tree task =
    record {
      slots = first_values (planned_task tree task);
      blocks = blocks_at_first (map (λ b. b.kind) (blocks_of task.instances));
    }

-- the variables after this many scans of the text, so many milliseconds apart, from their initial values, with the
-- requests and the steps of each scan, which are those of the task's code and at most its bound
pub record IsStepped (wiring : Wiring) (bytes : List ℕ) (name : Option (List ℕ)) (scans every : ℕ) (made : Run)
    : Type 0 where
  pub loaded : IsSetup wiring bytes made.setup
  pub called : IsMeantTask made.setup.plan name made.task
  pub task : SourceTask
  pub is : slice_get (tasks_of loaded.plan.tree) made.task ≡ Some task
  pub means : ScansMean loaded.plan.tree wiring.buses task every scans (at_first loaded.plan.tree task)
      (map (λ taken. taken.requests) made.each) made.left
  pub many : length made.each ≡ scans
  pub runs : AreScansOf made.setup made.task scans every made.each made.left
  pub few : All (λ taken. taken.steps ≤ runs.code.bound) made.each

-- ---- answers, out of memory aside

abbrev pub IsChecked : Wiring → List ℕ → Result Loaded Stop → Type 0
IsChecked wiring bytes (Ok setup) = IsSetup wiring bytes setup
IsChecked wiring bytes (Err stop) = IsCheckStop wiring bytes stop

abbrev pub IsStep : Wiring → List ℕ → Option (List ℕ) → ℕ → ℕ → Result Run Stop → Type 0
IsStep wiring bytes name scans every (Ok made) = IsStepped wiring bytes name scans every made
IsStep wiring bytes name scans every (Err stop) = IsStepStop wiring bytes name stop
