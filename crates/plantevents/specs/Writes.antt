-- How what a scan writes is said of the process image, and which write of a history is the last.
use Rattle.std.specs.Prelude.{◌≡◌, ◌≢◌, ℕ, List, ◌∷◌, ◌++◌, slice_get, Some, None}
use Rattle.iltypes.specs.declared.value.Value.{Value}
use Rattle.ilmachine.specs.Images.{Layout, TaskLayout, ImageVariable, value_of, written_in}
use Rattle.plantevents.specs.declared.event.Event.{Event}
use Rattle.plantevents.specs.Plants.{Plant, opening}
use Rattle.plantevents.specs.Variables.{scan_write, write_of, value}

-- the image says that the variable is written from this slot of task t, and its value is what the scan writes
pub record IsWrittenFrom (layout : Layout) (t : ℕ) (task : TaskLayout) (v : ImageVariable)
    (slots : List Value) : Type 0 where
  pub slot : ℕ
  pub from : written_in layout t slot ≡ Some v
  pub value : scan_write t v slots task ≡ slice_get slots slot

-- the image says that it is written from no slot, and the scan writes nothing to it
pub record IsNotWritten (layout : Layout) (t : ℕ) (task : TaskLayout) (v : ImageVariable)
    (slots : List Value) : Type 0 where
  pub from : (slot : ℕ) → written_in layout t slot ≢ Some v
  pub value : scan_write t v slots task ≡ None

-- ---- the last write of a history; its fronts are the lists front with h ≡ later ++ front

-- no event of h writes to the variable
abbrev pub IsNeverWritten : Plant → ImageVariable → List Event → Type 0
IsNeverWritten p v h = (later front : List Event) (e : Event) → h ≡ later ++ e ∷ front → write_of p v e front ≡ None

-- this event wrote this value to the variable, after this front, and no later one wrote to it
pub record IsLastWrite (p : Plant) (v : ImageVariable) (h : List Event) (x : Value) : Type 0 where
  pub later : List Event
  pub event : Event
  pub front : List Event
  pub stands : h ≡ later ++ event ∷ front
  pub writes : write_of p v event front ≡ Some x
  pub last : (newer between : List Event) (e : Event) → later ≡ newer ++ e ∷ between
      → write_of p v e (between ++ event ∷ front) ≡ None

-- the variable's value is what was written to it last
pub record HasLast (p : Plant) (v : ImageVariable) (h : List Event) : Type 0 where
  pub x : Value
  pub write : IsLastWrite p v h x
  pub is : value p v h ≡ Some x

-- nothing was written to it, and it has its initial value
pub record HasFirst (p : Plant) (v : ImageVariable) (h : List Event) : Type 0 where
  pub never : IsNeverWritten p v h
  pub is : value p v h ≡ value_of (opening p) v
