-- Which slots lines store to, one line after another.
use Rattle.std.specs.Prelude.{◌≡◌, ℕ, ◌<◌, List, length, Bool, false, ◌||◌, get_or, flat_map}
use Rattle.std.specs.Prelude.{Option, None, Some, option_and_then}
use Rattle.std.specs.List.{list_any}
use Rattle.ilsource.specs.declared.instruction.Instruction.{Instruction}
use Rattle.ilsource.specs.declared.instruction.Instruction.TheVariants.{Store, Set, Reset}
use Rattle.ilsource.specs.declared.instruction.Line.{Line}
use Rattle.ilsource.specs.declared.uses.Use.{Use}
use Rattle.ilsource.specs.Uses.{uses_in}
use Rattle.ilplan.specs.declared.place.Place.{Place}
use Rattle.ilplan.specs.declared.place.Place.TheVariants.{Slot}
use Rattle.ilplan.specs.Plans.{PlannedInstance, all_lines, writes_slot}

-- the number of a variable's slot
abbrev pub slot_of : Place → Option ℕ
slot_of (Slot number) = Some number
slot_of place = None

-- the slot that a line stores to, sets or resets
abbrev pub stored_by : Instruction Place ℕ → Option ℕ
stored_by (Store negated place) = slot_of place
stored_by (Set place) = slot_of place
stored_by (Reset place) = slot_of place
stored_by _ = None

abbrev pub stored_in : Line Place ℕ → Option ℕ
stored_in line = option_and_then stored_by line.instruction

-- the slots that the uses write are added
pub record Adds (uses : List (Use Place)) (before after : List Bool) : Type 0 where
  pub many : length after ≡ length before
  pub each : (slot : ℕ) → slot < length before
      → get_or after slot false ≡ (get_or before slot false || list_any (writes_slot slot) uses)

-- for each of so many slots whether some line writes it
pub record AreStored (instances : List PlannedInstance) (slots : ℕ) (stored : List Bool) : Type 0 where
  pub many : length stored ≡ slots
  pub each : (slot : ℕ) → slot < slots
      → get_or stored slot false ≡ list_any (writes_slot slot) (flat_map uses_in (all_lines instances))
