-- Which slots uses read, one use after another.
use Rattle.std.specs.Prelude.{◌≡◌, ◌<◌, ◌||◌, ℕ, Bool, false, List, Option, None, Some, get_or, length}
use Rattle.std.specs.List.{list_any}
use Rattle.ilsource.specs.declared.operand.Operand.{Operand}
use Rattle.ilsource.specs.declared.operand.Operand.TheVariants.{Name as Named}
use Rattle.ilsource.specs.declared.uses.Purpose.{Purpose}
use Rattle.ilsource.specs.declared.uses.Purpose.TheVariants.{Read}
use Rattle.ilsource.specs.declared.uses.Use.{Use}
use Rattle.ilplan.specs.declared.place.Place.{Place}
use Rattle.ilplan.specs.declared.place.Place.TheVariants.{Slot}
use Rattle.ilnotes.specs.Planned.{reads_slot}

-- the slot that a use reads
abbrev pub slot_read : Purpose → Operand Place → Option ℕ
slot_read Read (Named (Slot number)) = Some number
slot_read purpose operand = None

-- the slot that the use reads is marked, where there is one
abbrev pub Marks : Use Place → List Bool → List Bool → Type 0
Marks used before after =
    (length after ≡ length before)
    × ((slot : ℕ) → slot < length before → get_or after slot false ≡ (get_or before slot false || reads_slot slot used))

-- for each of so many slots whether one of the uses reads it
abbrev pub AreReads : List (Use Place) → ℕ → List Bool → Type 0
AreReads uses slots read =
    (length read ≡ slots)
    × ((slot : ℕ) → slot < slots → get_or read slot false ≡ list_any (reads_slot slot) uses)
