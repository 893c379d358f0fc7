-- The different constants of lines.
use Rattle.std.specs.Prelude.{◌≡◌, ℕ, List, [], ◌∷◌, ◌++◌, filter, filter_map, flat_map, Option, Some, None, IfSome, ⊤}
use Rattle.std.specs.Prelude.{Bool, true, false, not, if◌then◌else◌}
use Rattle.std.specs.Bool.{beq}
use Rattle.std.specs.List.{list_any, position}
use Rattle.std.specs.Ordering.{int_eq}
use Rattle.iltypes.specs.declared.value.Value.{Value}
use Rattle.iltypes.specs.declared.value.Value.TheVariants as values
use Rattle.ilsource.specs.declared.instruction.Line.{Line}
use Rattle.ilsource.specs.declared.operand.Operand.{Operand}
use Rattle.ilsource.specs.declared.operand.Operand.TheVariants.{Name, Constant}
use Rattle.ilsource.specs.declared.uses.Use.{Use}
use Rattle.ilsource.specs.Uses.{uses_in}

-- both are one value: a truth value is no number
abbrev pub same_value : Value → Value → Bool
same_value (values.Bool truth) (values.Bool other) = beq truth other
same_value (values.Int number) (values.Int other) = int_eq number other
same_value _ _ = false

-- the values with one more, which goes last where it is new
abbrev pub with_constant : List Value → Value → List Value
with_constant known value = if list_any (same_value value) known then known else known ++ value ∷ []

-- each value is told its number among those that are known, and no other has one
abbrev pub AreNumbers : (Value → Option ℕ) → List Value → Type 0
AreNumbers number_of known = (value : Value) → number_of value ≡ position (same_value value) known

-- each of the values once, where it stands first: the first one, and of the others those that are not the same
abbrev pub each_once : List Value → List Value
each_once [] = []
each_once (value ∷ values) = value ∷ filter (λ other. not (same_value value other)) (each_once values)

abbrev pub constant_in : {N : Type 0} → Operand N → Option Value
constant_in (Name name) = None
constant_in (Constant value) = Some value

-- the constants of some uses
abbrev pub constants_used : {N : Type 0} → List (Use N) → List Value
constants_used uses = filter_map (λ u. constant_in u.operand) uses

-- the constants of lines, in order of use
abbrev pub constants_in : {N L : Type 0} → List (Line N L) → List Value
constants_in lines = constants_used (flat_map uses_in lines)

-- the different constants of lines, in order of first use
abbrev pub different_constants : {N L : Type 0} → List (Line N L) → List Value
different_constants lines = each_once (constants_in lines)

-- the constants of the uses are among the values
abbrev pub AreAmong : {N : Type 0} → List Value → List (Use N) → Type 0
AreAmong values [] = ⊤
AreAmong values (u ∷ uses) =
    IfSome (constant_in u.operand) (λ value. list_any (same_value value) values ≡ true) × AreAmong values uses
