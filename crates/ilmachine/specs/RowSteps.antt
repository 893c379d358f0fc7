-- Where global variables stand in rows, and what is written there.
use Rattle.std.specs.Prelude.{◌≡◌, ℕ, ◌<◌, ◌==◌, ◌&&◌, ◌||◌, All, Bool, true, false, List, [], ◌∷◌, ◌++◌, map}
use Rattle.std.specs.Prelude.{length, take, drop, if◌then◌else◌, slice_get, slice_set, slice_index_or, Option, Some}
use Rattle.std.specs.Prelude.{None}
use Rattle.std.specs.Option.{IsSomeAnd}
use Rattle.iltypes.specs.declared.value.IlType.{IlType}
use Rattle.iltypes.specs.declared.value.Value.{Value}
use Rattle.iltypes.specs.declared.value.Value.TheVariants as values
use Rattle.ilverify.specs.Listings.{lasting_types}
use Rattle.ilcells.specs.Cells.{is_number_of}
use Rattle.ilblocks.specs.Calls.{Block}
use Rattle.ilmachine.specs.declared.external.External.{External}
use Rattle.ilmachine.specs.declared.overriding.Override.{Override}
use Rattle.ilmachine.specs.declared.slots.TaskSlot.{TaskSlot}
use Rattle.ilmachine.specs.declared.slots.StoredSlot.{StoredSlot}
use Rattle.ilmachine.specs.Images.{TaskLayout, IsImage}
use Rattle.ilmachine.specs.Snapshots.{MayHave}
use Rattle.ilmachine.specs.TaskRows.{TaskRow, shown_image, AreReady}

-- ---- the slots of a global variable

-- whether the slot of a task is that of a global variable
abbrev pub is_global : ℕ → Option External → Bool
is_global global None = false
is_global global (Some external) = external.global == global

abbrev pub names_in : Option TaskLayout → ℕ → ℕ → Bool
names_in None slot global = false
names_in (Some t) slot global = is_global global (slice_get t.externals slot)

abbrev pub names : List TaskLayout → ℕ → ℕ → ℕ → Bool
names layouts task slot global = names_in (slice_get layouts task) slot global

-- whether the slot of a task is among these
abbrev pub has_slot : List TaskSlot → ℕ → ℕ → Bool
has_slot [] task slot = false
has_slot (one ∷ more) task slot = (one.task == task && one.slot == slot) || has_slot more task slot

-- the slots of a global variable, and its lists of slots as code keeps them
abbrev pub slots_at : List (List TaskSlot) → ℕ → List TaskSlot
slots_at index global = slice_index_or index global []

abbrev pub lists_of : {V : Type 0} → (V → List TaskSlot) → List V → List (List TaskSlot)
lists_of items index = map items index

-- of each global variable the slots in which it stands, and no others
pub record IsIndex (layouts : List TaskLayout) (index : List (List TaskSlot)) : Type 0 where
  pub slots : (global task slot : ℕ) → has_slot (slots_at index global) task slot ≡ names layouts task slot global

abbrev pub layouts_of : List TaskRow → List TaskLayout
layouts_of tasks = map (λ t. t.layout) tasks

-- what the image keeps: it is one, its rows are ready, and there is an index of its tasks
pub record IsKept (types : List IlType) (globals : List Value) (tasks : List TaskRow) (index : List (List TaskSlot)) :
    Type 0 where
  pub image : IsImage (shown_image types globals tasks)
  pub ready : AreReady globals tasks
  pub indexed : IsIndex (layouts_of tasks) index
  pub each : length index ≡ length globals

-- ---- a value that is written into the slots of a global variable

-- a row after a value was written into those of these slots that are the task's
abbrev pub row_with : List TaskSlot → Value → ℕ → List Value → List Value
row_with [] value task row = row
row_with (one ∷ more) value task row =
    row_with more value task (if one.task == task then slice_set row one.slot value else row)

abbrev pub task_with : List TaskSlot → Value → ℕ → TaskRow → TaskRow
task_with slots value task t = record t { row = row_with slots value task t.row }

-- the slot of a task may have the value
abbrev pub MaySlotHave : List TaskLayout → Value → ℕ → ℕ → Type 0
MaySlotHave layouts value task slot =
    IsSomeAnd (slice_get layouts task) (λ t. MayHave (lasting_types t.verified.code) slot value)

-- each slot of a global variable may have the value
abbrev pub MaySlotsHave : List TaskLayout → ℕ → Value → Type 0
MaySlotsHave layouts global value =
    (task slot : ℕ) → names layouts task slot global ≡ true → MaySlotHave layouts value task slot

-- a slot of the row has a value of this one's kind
abbrev pub MaySet : List Value → ℕ → Value → Type 0
MaySet row slot value = IsSomeAnd (slice_get row slot) (λ was. is_number_of was ≡ is_number_of value)

-- a row of a task under overrides
abbrev pub row_under : List (List TaskSlot) → ℕ → List Override → List Value → List Value
row_under index task [] row = row
row_under index task (given ∷ more) row =
    row_under index task more (row_with (slots_at index given.global) given.value task row)

-- ---- what a scan of a task leaves

-- the values of the global variables after the values of these slots were stored
abbrev pub stored_by : List StoredSlot → List Value → List Value → List Value
stored_by [] row globals = globals
stored_by (one ∷ more) row globals =
    stored_by more row (slice_set globals one.global (slice_index_or row one.slot (values.Bool false)))

-- each of these values may be stored
pub record AreStorable (layouts : List TaskLayout) (row : List Value) (globals : ℕ) (slots : List StoredSlot) : Type 0
  where
    pub there : All (λ one. one.slot < length row) slots
    pub known : All (λ one. one.global < globals) slots
    pub fit : All (λ one. MaySlotsHave layouts one.global (slice_index_or row one.slot (values.Bool false))) slots

-- a task that keeps the values of its own variables, and the block instances, that a scan left
abbrev pub kept_task : TaskRow → List Value → List Block → TaskRow
kept_task t row blocks =
    record {
      layout = t.layout;
      row = take (length t.layout.externals) t.row ++ drop (length t.layout.externals) row;
      blocks = blocks;
    }
