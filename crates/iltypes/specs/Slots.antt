-- Variables by their numbers: a list of values, one of its type for each (IEC 61131-3, 2.4.3).
use Rattle.std.specs.Prelude.{ℕ, int_le, Bool, true, false, ◌&&◌, if◌then◌else◌, List, Option, Some, None}
use Rattle.std.specs.Prelude.{slice_get, slice_set}
use Rattle.iltypes.specs.declared.value.IlType.{IlType}
use Rattle.iltypes.specs.declared.value.IlType.TheVariants as types
use Rattle.iltypes.specs.declared.value.Value.{Value}
use Rattle.iltypes.specs.declared.value.Value.TheVariants as values

-- whether a variable of this type may have the value
abbrev pub is_of : IlType → Value → Bool
is_of types.Bool (values.Bool truth) = true
is_of (types.Int range) (values.Int number) = int_le range.lo number && int_le number range.hi
is_of _ _ = false

-- the values with another one in the slot of this number and type; none where there is no such slot, or the value is
-- not of its type
abbrev pub stored : List Value → ℕ → Value → Option IlType → Option (List Value)
stored slots slot value None = None
stored slots slot value (Some type) = if is_of type value then Some (slice_set slots slot value) else None

-- the same, with slots of these types
abbrev pub written : List IlType → List Value → ℕ → Value → Option (List Value)
written types slots slot value = stored slots slot value (slice_get types slot)
