-- Values in their types (IEC 61131-3, 2.3.1).
use Rattle.std.specs.Prelude.{List, [], ◌∷◌, ⊤}
use Rattle.iltypes.specs.declared.value.IlType.{IlType}
use Rattle.iltypes.specs.declared.value.IlType.TheVariants as types
use Rattle.iltypes.specs.declared.value.Value.{Value}
use Rattle.iltypes.specs.declared.value.Value.TheVariants as values
use Rattle.iltypes.specs.Ranges.{Holds}

-- a truth value is of BOOL, a whole number of each interval that holds it
abbrev pub IsOf : Value → IlType → Type 0
IsOf (values.Bool b) types.Bool = ⊤
IsOf (values.Int number) (types.Int range) = Holds range number
IsOf _ _ = ⊥

-- one value of its type for each
abbrev pub AreOf : List Value → List IlType → Type 0
AreOf [] [] = ⊤
AreOf (value ∷ more) (type ∷ others) = IsOf value type × AreOf more others
AreOf _ _ = ⊥
