-- The process image (IEC 61131-3, 2.4.3.1 and 2.7.2, and profile): a value for each global variable, and for each task
-- the values of its programs' own variables and its block instances.
use Rattle.std.specs.Prelude.{◌≡◌, ℕ, ◌+◌, ◌-◌, ◌==◌, All, List, [], ◌∷◌, map, length, drop, ⊤, if◌then◌else◌}
use Rattle.std.specs.Prelude.{slice_get}
use Rattle.std.specs.Prelude.{Option, Some, None, option_map, option_and_then}
use Rattle.std.specs.List.{AllZip}
use Rattle.iltypes.specs.declared.value.IlType.{IlType}
use Rattle.iltypes.specs.declared.value.Value.{Value}
use Rattle.iltypes.specs.Values.{AreOf}
use Rattle.ilblocks.specs.Calls.{Block, IsBlockOf}
use Rattle.ilblocks.specs.Stores.{Lasting}
use Rattle.ilverify.specs.Listings.{lasting_types}
use Rattle.ilverify.specs.Verdicts.{Accepted}
use Rattle.ilmachine.specs.declared.external.External.{External}
use Rattle.ilmachine.specs.declared.overriding.Override.{Override}
use Rattle.ilmachine.specs.declared.slots.StoredSlot.{StoredSlot}

-- a task as the image knows it: its verified code, whose first slots are these global variables in their order; the
-- programs' slots after them are the task's own variables. The slots of functions are no variables of the image
pub record TaskLayout : Type 0 where
  pub verified : Accepted
  pub externals : List External

-- a task with the values of its own variables and its block instances
pub record TaskImage : Type 0 where
  pub layout : TaskLayout
  pub own : Lasting

-- the types and values of the global variables, and the tasks
pub record ProcessImage : Type 0 where
  pub types : List IlType
  pub globals : List Value
  pub tasks : List TaskImage

abbrev pub image_of : List IlType → List Value → List TaskImage → ProcessImage
image_of types globals tasks = record { types = types; globals = globals; tasks = tasks }

-- what stays of an image: the types of the global variables, and the tasks' layouts
pub record Layout : Type 0 where
  pub types : List IlType
  pub tasks : List TaskLayout

abbrev pub layout_of : ProcessImage → Layout
layout_of image = record { types = image.types; tasks = map (λ t. t.layout) image.tasks }

-- a task before its first scan, with these values of its own variables and these block instances
abbrev pub first_task : Accepted → List External → List Value → List Block → TaskImage
first_task verified externals values blocks =
    record {
      layout = record { verified = verified; externals = externals };
      own = record { slots = values; blocks = blocks };
    }

-- the code of a task, and what it keeps in its block instances
abbrev pub verified_of : Layout → ℕ → Option Accepted
verified_of layout task = option_map (λ t. t.verified) (slice_get layout.tasks task)

abbrev pub blocks_of : ProcessImage → ℕ → Option (List Block)
blocks_of image task = option_map (λ t. t.own.blocks) (slice_get image.tasks task)

-- ---- variables

-- a global variable, or one of a task's own; each by its number among those
pub data ImageVariable : Type 0 where
  Global : ℕ → ImageVariable
  Own : ℕ → ℕ → ImageVariable

abbrev pub value_of : ProcessImage → ImageVariable → Option Value
value_of image (Global number) = slice_get image.globals number
value_of image (Own task number) = option_and_then (λ t. slice_get t.own.slots number) (slice_get image.tasks task)

-- the variable in a slot of a task: the global one that stands there, or the own one of this number
abbrev pub variable_at : ℕ → ℕ → Option External → ImageVariable
variable_at task own (Some external) = Global external.global
variable_at task own None = Own task own

abbrev pub variable_in : Layout → ℕ → ℕ → Option ImageVariable
variable_in layout task slot =
    option_map (λ t. variable_at task (slot - length t.externals) (slice_get t.externals slot))
    (slice_get layout.tasks task)

-- the variable that a scan of a task writes from a slot: a global one that the task stores, or an own one
abbrev pub written_at : ℕ → ℕ → Option External → Option ImageVariable
written_at task own (Some external) = if external.stored then Some (Global external.global) else None
written_at task own None = Some (Own task own)

abbrev pub written_in : Layout → ℕ → ℕ → Option ImageVariable
written_in layout task slot =
    option_and_then (λ t. written_at task (slot - length t.externals) (slice_get t.externals slot))
    (slice_get layout.tasks task)

-- a slot from which a scan stores to a global variable
abbrev pub stored_slot : ℕ → External → StoredSlot
stored_slot slot external = record { slot = slot; global = external.global }

-- of these global variables, which are those from this slot on, the slots of those that the task stores
abbrev pub stored_from : ℕ → List External → List StoredSlot
stored_from slot [] = []
stored_from slot (external ∷ more) =
    if external.stored then stored_slot slot external ∷ stored_from (slot + 1) more else stored_from (slot + 1) more

-- the slots from which a scan stores to these global variables
abbrev pub stored_slots : List External → List StoredSlot
stored_slots externals = stored_from 0 externals

-- ---- overrides

-- the value of the global variable of this number, which without overrides is this one: the last override of it says
-- which
abbrev pub overridden : List Override → ℕ → Option Value → Option Value
overridden [] number value = value
overridden (given ∷ more) number value =
    overridden more number (if given.global == number then Some given.value else value)

-- the value of a variable under overrides of global ones
abbrev pub value_under : List Override → ProcessImage → ImageVariable → Option Value
value_under overrides image (Global number) = overridden overrides number (value_of image (Global number))
value_under overrides image (Own task number) = value_of image (Own task number)

-- ---- lawful layouts

-- the slots begin with those of these globals, each of which is there and has its slot's type
abbrev pub AreTyped : List IlType → List IlType → List External → Type 0
AreTyped types slots [] = ⊤
AreTyped types (slot ∷ slots) (external ∷ more) =
    (slice_get types external.global ≡ Some slot) × AreTyped types slots more
AreTyped types [] (external ∷ more) = ⊥

-- no global stands twice
abbrev pub AreApart : List External → Type 0
AreApart [] = ⊤
AreApart (external ∷ more) = All (λ other. ¬ (other.global ≡ external.global)) more × AreApart more

-- a task among global variables of these types
pub record IsLawfulTask (types : List IlType) (t : TaskLayout) : Type 0 where
  pub typed : AreTyped types (lasting_types t.verified.code) t.externals
  pub apart : AreApart t.externals

pub record IsLawful (layout : Layout) : Type 0 where
  pub tasks : All (IsLawfulTask layout.types) layout.tasks

-- the types of a task's own variables
abbrev pub own_types : TaskLayout → List IlType
own_types t = drop (length t.externals) (lasting_types t.verified.code)

-- each value of the task's own variables is in its type, and each block instance is of its kind
pub record IsTaskImage (t : TaskImage) : Type 0 where
  pub values : AreOf t.own.slots (own_types t.layout)
  pub blocks : AllZip (IsBlockOf t.layout.verified.code.buses) t.own.blocks t.layout.verified.code.kinds

-- each task is lawful among the global variables, and the value of each of these is in its type
pub record IsImage (image : ProcessImage) : Type 0 where
  pub lawful : IsLawful (layout_of image)
  pub globals : AreOf image.globals image.types
