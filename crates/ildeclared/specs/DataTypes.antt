-- What types mean as they are written: the values of a variable, and the one that it has at first (IEC 61131-3, 2.3.1
-- and 2.3.3; TIME is a range of milliseconds by the profile).
use Rattle.std.specs.Prelude.{ℤ, pos, ◌≤ℤ◌, int_le, List, [], ◌∷◌, Bool, true, false, ◌&&◌, T, bytes_eq, if◌then◌else◌}
use Rattle.std.specs.Prelude.{ℕ, Option, Some, None, option_map, option_and_then, unwrap_or}
use Rattle.std.specs.Option.{option_or}
use Rattle.std.specs.Ordering.{int_eq}
use Rattle.iltypes.specs.declared.range.Range.{Range}
use Rattle.iltypes.specs.declared.value.IlType.{IlType}
use Rattle.iltypes.specs.declared.value.IlType.TheVariants as types
use Rattle.iltypes.specs.declared.value.Value.{Value}
use Rattle.iltypes.specs.declared.value.Value.TheVariants as values
use Rattle.iltypes.specs.Functions.{least_of, greatest_of}
use Rattle.ilsource.specs.declared.declaration.Constant.{Constant}
use Rattle.ilsource.specs.declared.declaration.Constant.TheVariants as constants
use Rattle.ilsource.specs.declared.declaration.Specification.{Specification}
use Rattle.ilsource.specs.declared.declaration.Specification.TheVariants as specifications
use Rattle.ilsource.specs.declared.declaration.TypeDeclaration.{TypeDeclaration}
use Rattle.ilsource.specs.declared.name.Name.{Name}
use Rattle.ildeclared.specs.declared.data_type.DataType.{DataType}

-- BOOL, whose variables are FALSE at first
abbrev pub truth_values : DataType
truth_values = record { value_type = types.Bool; initial = values.Bool false }

-- a range is ordered, so there is one where a test shows that
abbrev pub range_if : (low high : ℤ) (is : Bool) → (T is → low ≤ℤ high) → Option Range
range_if low high true ordered = Some (record { lo = low; hi = high; ordered = ordered tt })
range_if low high false ordered = None

-- the whole numbers from low to high, of which a variable has this one at first; none where low is above high
abbrev pub whole_numbers : ℤ → ℤ → ℤ → Option DataType
whole_numbers low high first =
    option_map
    (λ range. record { value_type = types.Int range; initial = values.Int first })
    (range_if low high (int_le low high) (λ is. record { le = is }))

-- what names mean as those of types: none where no type has the name, and no data type where the type is at fault
abbrev pub TypeNames : Type 0
TypeNames = Name → Option (Option DataType)

-- what a specification means: variables begin with FALSE or 0, those of a subrange with its lower limit; none where a
-- subrange is empty or is not within its base, and where a name means no data type
abbrev pub data_type : TypeNames → Specification → Option DataType
data_type types_above specifications.Bool = Some truth_values
data_type types_above specifications.Time = whole_numbers (pos 0) (pos 4294967295) (pos 0)
data_type types_above (specifications.Integer base) = whole_numbers (least_of base) (greatest_of base) (pos 0)
data_type types_above (specifications.Subrange base low high) =
    if int_le (least_of base) low && int_le high (greatest_of base) then whole_numbers low high low else None
data_type types_above (specifications.Named name) = unwrap_or (types_above name) None

-- to BOOL the numbers 0 and 1 are FALSE and TRUE
abbrev pub truth_of : ℤ → Option Value
truth_of number =
    if int_eq number (pos 0) then Some (values.Bool false)
    else if int_eq number (pos 1) then Some (values.Bool true) else None

-- the number, where it lies in the range
abbrev pub number_in : Range → ℤ → Option Value
number_in range number = if int_le range.lo number && int_le number range.hi then Some (values.Int number) else None

-- what a constant means where it is given to a variable of the type; none where the type does not have it
abbrev pub value_in : IlType → Constant → Option Value
value_in types.Bool (constants.Bool truth) = Some (values.Bool truth)
value_in types.Bool (constants.Number number) = truth_of number
value_in types.Bool (constants.Time milliseconds) = None
value_in (types.Int range) (constants.Bool truth) = None
value_in (types.Int range) (constants.Number number) = number_in range number
value_in (types.Int range) (constants.Time milliseconds) = number_in range (pos milliseconds)

-- the type with the initial value that is written, if one is
abbrev pub with_initial : Option Constant → DataType → Option DataType
with_initial None type = Some type
with_initial (Some constant) type =
    option_map (λ value. record { value_type = type.value_type; initial = value }) (value_in type.value_type constant)

-- what a declaration of this type and initial value means; none where it is at fault, or its type is
abbrev pub declared_type : TypeNames → Specification → Option Constant → Option DataType
declared_type types_above specification initial =
    option_and_then (with_initial initial) (data_type types_above specification)

-- what names mean below these types, of which the nearest stands first: what the first type of that name means below
-- the types above it; `spelled` is how names are compared
abbrev pub types_below : (Name → List ℕ) → List TypeDeclaration → TypeNames
types_below spelled [] name = None
types_below spelled (type ∷ above) name =
    option_or
    (types_below spelled above name)
    (if bytes_eq (spelled name) (spelled type.name)
    then Some (declared_type (types_below spelled above) type.specification type.initial) else None)
