-- What is kept of the global variables that are located at levels.
use Rattle.std.specs.Prelude.{◌≡◌, ℕ, ◌<◌, ◌==◌, ◌&&◌, Bool, false, List, [], length, slice_index_or}
use Rattle.std.specs.Prelude.{Option, Some, None, option_map, option_and_then, slice_get, if◌then◌else◌}
use Rattle.gearcmd.specs.declared.requests.TaskKind.{TaskKind}
use Rattle.gearcmd.specs.declared.requests.TaskKind.TheVariants.{Cyclic}
use Rattle.ilplan.specs.declared.global.Location.{Location}
use Rattle.ilplan.specs.declared.global.Location.TheVariants.{Level}
use Rattle.ilplan.specs.Plans.{Planned}
use Rattle.ilmachine.specs.declared.external.External.{External}
use Rattle.plantevents.specs.Plants.{Plant, output_at, storing_kind}
use Rattle.plantbuses.specs.declared.outputs.LevelOutput.{LevelOutput}

-- a plant of the plan: what is located where does not hang on the codes and the workers
abbrev pub planned : Planned → Plant
planned plan = record { plan = plan; codes = []; workers = 0 }

-- ---- the level at which a variable is located

abbrev pub place_in : Option Location → Option (ℕ × ℕ)
place_in (Some (Level bus address)) = Some (bus, address)
place_in _ = None

-- the bus and the address of the level at which the global variable of this number is located
abbrev pub level_of : Planned → ℕ → Option (ℕ × ℕ)
level_of plan global = place_in (option_and_then (λ g. g.location) (slice_get plan.globals global))

abbrev pub is_at : ℕ → ℕ → Option (ℕ × ℕ) → Bool
is_at b a (Some place) = place.0 == b && place.1 == a
is_at b a None = false

-- ---- what is located at levels

-- a slot of the global variable, which a program of its task stores to
abbrev pub is_store_of : ℕ → External → Bool
is_store_of global e = e.global == global && e.stored

abbrev pub is_store_in : ℕ → Option External → Bool
is_store_in global (Some e) = is_store_of global e
is_store_in global None = false

-- the number that is there is this one
abbrev pub is_number : ℕ → Option ℕ → Bool
is_number n (Some number) = number == n
is_number n None = false

abbrev pub kind_in : List TaskKind → ℕ → TaskKind
kind_in kinds global = slice_index_or kinds global Cyclic

-- the kind was noted at the numbers that pass the test, and at no others
pub record AreNoted (test : ℕ → Bool) (kind : TaskKind) (before after : List TaskKind) : Type 0 where
  pub many : length after ≡ length before
  pub each : (g : ℕ) → g < length before → kind_in after g ≡ (if test g then kind else kind_in before g)

-- of each global variable the kind of the task that stores to it
pub record AreKinds (p : Plant) (kinds : List TaskKind) : Type 0 where
  pub many : length kinds ≡ length p.plan.globals
  pub each : (g : ℕ) → g < length p.plan.globals → kind_in kinds g ≡ storing_kind p g

-- a global variable with the kind of the task that stores to it
abbrev pub output_for : ℕ → TaskKind → LevelOutput
output_for global kind = record { global = global; kind = kind }

abbrev pub output_of : Plant → ℕ → LevelOutput
output_of p global = output_for global (storing_kind p global)

-- what is located at the level of an address
abbrev pub level_output : Plant → ℕ → ℕ → Option LevelOutput
level_output p b a = option_map (output_of p) (output_at p b a)

-- what is located at the levels of bus b
abbrev pub AreOutputsOf : Plant → ℕ → List (Option LevelOutput) → Type 0
AreOutputsOf p b outputs =
    (length outputs ≡ 81) × ((a : ℕ) → a < 81 → slice_index_or outputs a None ≡ level_output p b a)

abbrev pub outputs_at : List (List (Option LevelOutput)) → ℕ → List (Option LevelOutput)
outputs_at outputs b = slice_index_or outputs b []

-- of each bus
abbrev pub OutputsFollow : Plant → List (List (Option LevelOutput)) → Type 0
OutputsFollow p outputs =
    (length outputs ≡ p.plan.buses) × ((b : ℕ) → b < p.plan.buses → AreOutputsOf p b (outputs_at outputs b))

-- ---- tables that are filled

-- nothing is located at the levels of a bus
abbrev pub AreFree : List (Option LevelOutput) → Type 0
AreFree outputs = (length outputs ≡ 81) × ((a : ℕ) → a < 81 → slice_index_or outputs a None ≡ None)

-- nor at those of so many buses
abbrev pub AreAllFree : ℕ → List (List (Option LevelOutput)) → Type 0
AreAllFree buses outputs = (length outputs ≡ buses) × ((b : ℕ) → b < buses → AreFree (outputs_at outputs b))

-- each of so many buses has 81 levels
abbrev pub HaveLevels : ℕ → List (List (Option LevelOutput)) → Type 0
HaveLevels buses outputs = (length outputs ≡ buses) × ((b : ℕ) → b < buses → length (outputs_at outputs b) ≡ 81)

abbrev pub output_in : List (List (Option LevelOutput)) → ℕ → ℕ → Option LevelOutput
output_in outputs b a = slice_index_or (outputs_at outputs b) a None

-- what is at address a of bus b, once what is located at a place was noted
abbrev pub noted_at : Option (ℕ × ℕ) → LevelOutput → ℕ → ℕ → Option LevelOutput → Option LevelOutput
noted_at place output b a before = if is_at b a place then Some output else before
