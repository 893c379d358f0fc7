-- Each variable's initial value is one of its type.
use Rattle.std.proofs.Common.{◌≡◌, ℕ, zero, suc, ℤ, pos, ◌≤ℤ◌, List, [], ◌∷◌, length, map, Bool, true, false, refl}
use Rattle.std.proofs.Common.{arith}
use Rattle.std.proofs.Math.Dec.{T}
use Rattle.std.proofs.lemmas.Int.{ints}
use Rattle.std.proofs.lemmas.List.Elements.{All-append, All-map, All-nil}
use Rattle.std.specs.Prelude.{Option, Some, None, IfSome, All, bytes_eq, int_le, ◌&&◌, filter_map, flat_map, reverse}
use Rattle.std.specs.Prelude.{option_and_then, option_map, unwrap_or, if◌then◌else◌}
use Rattle.std.specs.Option.{option_or}
use Rattle.std.specs.Ordering.{int_eq}
use Rattle.iltypes.specs.Values.{AreOf, IsOf}
use Rattle.iltypes.specs.declared.range.Range.{Range}
use Rattle.iltypes.specs.declared.value.IlType.{IlType}
use Rattle.iltypes.specs.declared.value.IlType.TheVariants as types
use Rattle.iltypes.specs.declared.value.Value.{Value}
use Rattle.iltypes.specs.declared.value.Value.TheVariants as values
use Rattle.iltypes.specs.Functions.{least_of, greatest_of}
use Rattle.iltypes.specs.declared.function.IntegerType.{IntegerType}
use Rattle.iltypes.specs.declared.function.IntegerType.TheVariants as integers
use Rattle.ilsource.specs.Names.{folded}
use Rattle.ilsource.specs.Programs.{DeclaredNames, WrittenFunction}
use Rattle.ilsource.specs.Configurations.{DeclaredGlobals}
use Rattle.ilsource.specs.SourceTrees.{Tree, functions_of, types_of}
use Rattle.ilsource.specs.declared.address.DirectAddress.{DirectAddress}
use Rattle.ilsource.specs.declared.declaration.Constant.{Constant}
use Rattle.ilsource.specs.declared.declaration.Constant.TheVariants as constants
use Rattle.ilsource.specs.declared.declaration.Declared.{Declared}
use Rattle.ilsource.specs.declared.declaration.Declared.TheVariants as declared_as
use Rattle.ilsource.specs.declared.declaration.Specification.{Specification}
use Rattle.ilsource.specs.declared.declaration.Specification.TheVariants as specifications
use Rattle.ilsource.specs.declared.declaration.TypeDeclaration.{TypeDeclaration}
use Rattle.ilsource.specs.declared.name.Name.{Name}
use Rattle.ilsource.specs.declared.source.Element.{Element}
use Rattle.ilsource.specs.declared.source.Element.TheVariants.{DerivedType, Function, Program}
use Rattle.ildeclared.specs.DataTypes.{TypeNames, data_type, declared_type, number_in, range_if, truth_of, types_below}
use Rattle.ildeclared.specs.DataTypes.{value_in, whole_numbers, with_initial}
use Rattle.ildeclared.specs.Declarations.{own_variables_of, result_variable, type_of, variable, variables_among}
use Rattle.ildeclared.specs.Declarations.{variables_in}
use Rattle.ildeclared.specs.Globals.{global, global_type, globals_in, initial_at, located_type}
use Rattle.ildeclared.specs.declared.data_type.DataType.{DataType}
use Rattle.ildeclared.specs.declared.global.DeclaredGlobal.{DeclaredGlobal}
use Rattle.ildeclared.specs.declared.variable.DeclaredVariable.{DeclaredVariable}
use Rattle.ildeclared.proofs.Subranges.{le_from}
use Rattle.ilscope.specs.Configured.{declared_globals_of, globals_of, types_of_text}
use Rattle.ilscope.specs.Declarations.{DeclaredFunction, DeclaredProgram, declared_function, declared_functions}
use Rattle.ilscope.specs.Declarations.{declared_program, declared_programs, standing, with_declared, with_inputs}

abbrev IsTyped : DataType → Type 0
IsTyped type = IsOf type.initial type.value_type

abbrev pub IsTypedVariable : DeclaredVariable → Type 0
IsTypedVariable variable = IsOf variable.initial variable.value_type

numbers_typed : (low high first : ℤ) → (low ≤ℤ high → (low ≤ℤ first) × (first ≤ℤ high))
    → IfSome (whole_numbers low high first) IsTyped
numbers_typed low high first between = typed (int_le low high) (λ is. record { le = is })
  where
    typed : (is : Bool) (ordered : T is → low ≤ℤ high) →
        IfSome (option_map (λ range. record { value_type = types.Int range; initial = values.Int first })
        (range_if low high is ordered)) IsTyped
    typed true ordered = let h = between (ordered tt) in record { low = h.0; high = h.1 }
    typed false ordered = tt

pub has_zero : (base : IntegerType) → (least_of base ≤ℤ pos 0) × (pos 0 ≤ℤ greatest_of base)
has_zero integers.Sint = (record { le = tt }, record { le = tt })
has_zero integers.Int = (record { le = tt }, record { le = tt })
has_zero integers.Dint = (record { le = tt }, record { le = tt })
has_zero integers.Usint = (record { le = tt }, record { le = tt })
has_zero integers.Uint = (record { le = tt }, record { le = tt })
has_zero integers.Udint = (record { le = tt }, record { le = tt })

if_typed : (b : Bool) (o : Option DataType) → IfSome o IsTyped → IfSome (if b then o else None) IsTyped
if_typed true o h = h
if_typed false o h = tt

AreTyped : TypeNames → Type 0
AreTyped above = (name : Name) → IfSome (unwrap_or (above name) None) IsTyped

data_type_typed : (above : TypeNames) → AreTyped above → (specification : Specification)
    → IfSome (data_type above specification) IsTyped
unfolding AreTyped
data_type_typed above h specifications.Bool = tt
data_type_typed above h specifications.Time =
    numbers_typed (pos 0) (pos 4294967295) (pos 0) (λ o. (record { le = tt }, record { le = tt }))
data_type_typed above h (specifications.Integer base) =
    numbers_typed (least_of base) (greatest_of base) (pos 0) (λ o. has_zero base)
data_type_typed above h (specifications.Subrange base low high) =
    if_typed (int_le (least_of base) low && int_le high (greatest_of base)) (whole_numbers low high low)
    (numbers_typed low high low (λ o. (omega (arith, ints), o)))
data_type_typed above h (specifications.Named name) = h name

truth_typed : (number : ℤ) → IfSome (truth_of number) (λ v. IsOf v types.Bool)
truth_typed number = typed (int_eq number (pos 0)) (int_eq number (pos 1))
  where
    typed : (a b : Bool)
        → IfSome (if a then Some (values.Bool false) else if b then Some (values.Bool true) else None)
        (λ v. IsOf v types.Bool)
    typed true b = tt
    typed false true = tt
    typed false false = tt

number_typed : (range : Range) (number : ℤ) → IfSome (number_in range number) (λ v. IsOf v (types.Int range))
number_typed range number = typed (int_le range.lo number) (int_le number range.hi) refl refl
  where
    typed : (a b : Bool) → int_le range.lo number ≡ a → int_le number range.hi ≡ b →
        IfSome (if a && b then Some (values.Int number) else None) (λ v. IsOf v (types.Int range))
    typed true true e f = record { low = le_from range.lo number e; high = le_from number range.hi f }
    typed true false e f = tt
    typed false b e f = tt

value_typed : (type : IlType) (constant : Constant) → IfSome (value_in type constant) (λ v. IsOf v type)
value_typed types.Bool (constants.Bool truth) = tt
value_typed types.Bool (constants.Number number) = truth_typed number
value_typed types.Bool (constants.Time milliseconds) = tt
value_typed (types.Int range) (constants.Bool truth) = tt
value_typed (types.Int range) (constants.Number number) = number_typed range number
value_typed (types.Int range) (constants.Time milliseconds) = number_typed range (pos milliseconds)

with_typed : (initial : Option Constant) (type : DataType) → IsTyped type → IfSome (with_initial initial type) IsTyped
with_typed None type h = h
with_typed (Some constant) type h = typed (value_in type.value_type constant) (value_typed type.value_type constant)
  where
    typed : (o : Option Value) → IfSome o (λ v. IsOf v type.value_type) →
        IfSome (option_map (λ value. record { value_type = type.value_type; initial = value }) o) IsTyped
    typed None k = tt
    typed (Some value) k = k

declared_typed : (above : TypeNames) → AreTyped above → (specification : Specification) (initial : Option Constant)
    → IfSome (declared_type above specification initial) IsTyped
declared_typed above h specification initial =
    typed (data_type above specification) (data_type_typed above h specification)
  where
    typed : (o : Option DataType) → IfSome o IsTyped → IfSome (option_and_then (with_initial initial) o) IsTyped
    typed None k = tt
    typed (Some type) k = with_typed initial type k

below_typed : (spelled : Name → List ℕ) (above : List TypeDeclaration) → AreTyped (types_below spelled above)
unfolding AreTyped
below_typed spelled [] name = tt
below_typed spelled (type ∷ above) name =
    typed (types_below spelled above name) (below_typed spelled above name)
    (bytes_eq (spelled name) (spelled type.name))
    (declared_type (types_below spelled above) type.specification type.initial)
    (declared_typed (types_below spelled above) (below_typed spelled above) type.specification type.initial)
  where
    typed : (o : Option (Option DataType)) → IfSome (unwrap_or o None) IsTyped → (b : Bool) (p : Option DataType)
        → IfSome p IsTyped →
        IfSome (unwrap_or (option_or o (if b then Some p else None)) None) IsTyped
    typed (Some m) h b p k = h
    typed None h true p k = k
    typed None h false p k = tt

type_typed : (above : TypeNames) → AreTyped above → (specification : Specification) (initial : Option Constant)
    → IsTyped (type_of above specification initial)
type_typed above h specification initial =
    typed (declared_type above specification initial) (declared_typed above h specification initial)
  where
    typed : (o : Option DataType) → IfSome o IsTyped
        → IsTyped (unwrap_or o (record { value_type = types.Bool; initial = values.Bool false }))
    typed None k = tt
    typed (Some type) k = k

each : (type : DataType) → IsTyped type → (names : List Name) → All IsTypedVariable (map (variable type) names)
each type h names = All-map IsTypedVariable (variable type) names (λ k d below. h)

among_typed : (above : TypeNames) → AreTyped above → (names : List Name) (declared : Declared)
    → All IsTypedVariable (variables_among above names declared)
among_typed above h names (declared_as.Variables specification initial) =
    each (type_of above specification initial) (type_typed above h specification initial) names
among_typed above h names (declared_as.Blocks kind) = All-nil IsTypedVariable
among_typed above h names (declared_as.External specification) = All-nil IsTypedVariable

variables_typed : (above : TypeNames) → AreTyped above → (declarations : List DeclaredNames)
    → All IsTypedVariable (flat_map (variables_in above) declarations)
variables_typed above h [] = All-nil IsTypedVariable
variables_typed above h (d ∷ ds) =
    All-append IsTypedVariable (variables_in above d) (flat_map (variables_in above) ds)
    (among_typed above h d.names d.declared) (variables_typed above h ds)

all_one : {X : Type 0} (P : X → Type 0) (x : X) → P x → All P (x ∷ [])
all_one P x h zero d below = h
all_one P x h (suc k) d below = absurd (omega arith)

programs_typed : (spelled : Name → List ℕ) (above all : List Element) →
    All (λ p. All IsTypedVariable p.variables) (filter_map (declared_program spelled) (standing above all))
programs_typed spelled above [] = All-nil (λ (p : DeclaredProgram). All IsTypedVariable p.variables)
programs_typed spelled above (DerivedType type ∷ more) = programs_typed spelled (DerivedType type ∷ above) more
programs_typed spelled above (Function f ∷ more) = programs_typed spelled (Function f ∷ above) more
programs_typed spelled above (Program p ∷ more) =
    let types = types_below spelled (types_of above) in
    let one = with_declared types (length (functions_of above)) p in
    All-append (λ (q : DeclaredProgram). All IsTypedVariable q.variables) (one ∷ [])
    (filter_map (declared_program spelled) (standing (Program p ∷ above) more))
    (all_one (λ (q : DeclaredProgram). All IsTypedVariable q.variables) one
    (variables_typed types (below_typed spelled (types_of above)) p.declarations))
    (programs_typed spelled (Program p ∷ above) more)

-- each initial value is one of its variable's type
pub declared_typed_programs : (tree : Tree) → All (λ p. All IsTypedVariable p.variables) (declared_programs tree)
declared_typed_programs tree = programs_typed (folded tree.text) [] tree.elements

own_typed : (above : TypeNames) → AreTyped above → (f : WrittenFunction)
    → All IsTypedVariable (own_variables_of above f)
own_typed above h f =
    All-append IsTypedVariable (result_variable above f ∷ []) (flat_map (variables_in above) f.variables)
    (all_one IsTypedVariable (result_variable above f) (type_typed above h f.result_type None))
    (variables_typed above h f.variables)

functions_typed : (spelled : Name → List ℕ) (above all : List Element) →
    All (λ f. All IsTypedVariable f.variables) (filter_map (declared_function spelled) (standing above all))
functions_typed spelled above [] = All-nil (λ (f : DeclaredFunction). All IsTypedVariable f.variables)
functions_typed spelled above (DerivedType type ∷ more) = functions_typed spelled (DerivedType type ∷ above) more
functions_typed spelled above (Program p ∷ more) = functions_typed spelled (Program p ∷ above) more
functions_typed spelled above (Function f ∷ more) =
    let types = types_below spelled (types_of above) in
    let one = with_inputs types (length (functions_of above)) f in
    All-append (λ (g : DeclaredFunction). All IsTypedVariable g.variables) (one ∷ [])
    (filter_map (declared_function spelled) (standing (Function f ∷ above) more))
    (all_one (λ (g : DeclaredFunction). All IsTypedVariable g.variables) one
    (own_typed types (below_typed spelled (types_of above)) f))
    (functions_typed spelled (Function f ∷ above) more)

pub declared_typed_functions : (tree : Tree) → All (λ f. All IsTypedVariable f.variables) (declared_functions tree)
declared_typed_functions tree = functions_typed (folded tree.text) [] tree.elements

-- the same of a global variable
abbrev pub IsTypedGlobal : DeclaredGlobal → Type 0
IsTypedGlobal global = IsOf global.initial global.value_type

located_typed : (address : Option DirectAddress) (type : DataType) → IsTyped type → IsTyped (located_type address type)
located_typed address type h = typed (with_initial (initial_at address) type) (with_typed (initial_at address) type h)
  where
    typed : (o : Option DataType) → IfSome o IsTyped → IsTyped (unwrap_or o type)
    typed None k = h
    typed (Some its) k = k

globals_typed : (above : TypeNames) → AreTyped above → (declarations : List DeclaredGlobals)
    → All IsTypedGlobal (flat_map (globals_in above) declarations)
globals_typed above h [] = All-nil IsTypedGlobal
globals_typed above h (d ∷ ds) =
    All-append IsTypedGlobal (globals_in above d) (flat_map (globals_in above) ds)
    (All-map IsTypedGlobal (global d.address (global_type above d)) d.names
    (λ k n below. located_typed d.address (type_of above d.specification d.initial)
    (type_typed above h d.specification d.initial)))
    (globals_typed above h ds)

pub declared_typed_globals : (tree : Tree) → All IsTypedGlobal (globals_of tree)
declared_typed_globals tree =
    globals_typed (types_of_text tree) (below_typed (folded tree.text) (reverse (types_of tree.elements)))
    (declared_globals_of tree)

-- so the initial values of some variables are of their types, one for each
pub initials_are_of : (variables : List DeclaredVariable) → All IsTypedVariable variables
    → AreOf (map (λ v. v.initial) variables) (map (λ v. v.value_type) variables)
initials_are_of [] h = tt
initials_are_of (v ∷ vs) h = (h 0 v (omega arith), initials_are_of vs (λ k d below. h (suc k) d (omega arith)))
