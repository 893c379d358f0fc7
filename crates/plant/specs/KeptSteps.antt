-- What private fields say of a history.
use Rattle.std.specs.Prelude.{◌≡◌, ℕ, ◌+◌, ◌<◌, ◌≤◌, List, length, slice_index_or}
use Rattle.std.specs.Prelude.{Option}
use Rattle.limits.specs.Limits.{most_total}
use Rattle.wordlines.specs.declared.sources.BoundSource.{BoundSource}
use Rattle.daliframe.specs.declared.schemes.EventScheme.TheVariants.{Instance}
use Rattle.ilplan.specs.declared.global.Global.{Global as GlobalVariable}
use Rattle.ilmachine.specs.Images.{ProcessImage}
use Rattle.plantevents.specs.declared.event.Event.{Event}
use Rattle.plantevents.specs.Plants.{first_count}
use Rattle.plantevents.specs.Histories.{OpenScan, moment, message_count}
use Rattle.plantevents.specs.Legal.{AreLegal}
use Rattle.readytasks.specs.TaskSets.{TaskSet, Follows}
use Rattle.plantbuses.specs.declared.outputs.LevelOutput.{LevelOutput}
use Rattle.plantbuses.specs.declared.owed.OwedLevels.{OwedLevels}
use Rattle.plantbuses.specs.KeptSteps.{KeptBus, BusesFollow, ImageFollows, ScansFollow, TakesFollow}
use Rattle.plantbuses.specs.OutputSteps.{OutputsFollow}
use Rattle.plant.specs.IndexSteps.{FromBus, InputsFollow}
use Rattle.plantbuses.specs.OwedSteps.{OwedFollow}
use Rattle.plant.specs.Shown.{Shown, kept}

-- ---- sources

-- the count of a source, among these global variables
pub record IsCount (globals : List GlobalVariable) (bound : BoundSource) (h : List Event) (count : ℕ) : Type 0 where
  pub counted : count ≡ message_count (first_count globals bound.bus bound.number) bound.bus bound.source h

-- what stands past the end of the list
abbrev pub no_source : BoundSource
no_source = record { bus = 0; number = 0; source = record { scheme = Instance; a = 0; b = 0 } }

abbrev pub source_in : List BoundSource → ℕ → BoundSource
source_in sources i = slice_index_or sources i no_source

-- the count of each source
abbrev pub CountsFollow : List GlobalVariable → List BoundSource → List Event → List ℕ → Type 0
CountsFollow globals sources h counts =
    (length counts ≡ length sources)
    × ((i : ℕ) → i < length sources → IsCount globals (source_in sources i) h (slice_index_or counts i 0))

-- ---- the plant

-- what is kept of a plant beside what it shows
pub record KeptPlant : Type 0 where
  pub tasks : TaskSet
  pub image : ProcessImage
  pub counts : List ℕ
  pub takes : List ℕ
  pub scans : List (Option OpenScan)
  pub buses : List KeptBus
  pub inputs : List FromBus
  pub outputs : List (List (Option LevelOutput))
  pub owed : List OwedLevels
  pub moment : ℕ
  pub length : ℕ
  pub kept : ℕ

-- It is what the history says; the history is legal, and leaves the places that are kept.
pub record Says (p : Shown) (k : KeptPlant) : Type 0 where
  pub most : p.limit ≤ most_total
  pub legal : AreLegal p.plant p.history
  pub each_task : Follows p.plant p.history k.tasks
  pub each_variable : ImageFollows p.plant p.history k.image
  pub each_source : CountsFollow p.plant.plan.globals p.plant.plan.sources p.history k.counts
  pub each_take : TakesFollow p.plant p.history k.takes
  pub each_worker : ScansFollow p.plant p.history k.scans
  pub each_bus : BusesFollow p.plant p.history k.buses
  pub each_input : InputsFollow p.plant.plan k.inputs
  pub each_output : OutputsFollow p.plant k.outputs
  pub each_owed : OwedFollow p.plant p.history k.owed
  pub each_place : length p.reserved.buses ≡ p.plant.plan.buses
  pub clock : k.moment ≡ moment p.history
  pub place : k.length ≡ length p.history
  pub places : k.kept ≡ kept p
  pub within : k.length + k.kept ≤ p.limit
