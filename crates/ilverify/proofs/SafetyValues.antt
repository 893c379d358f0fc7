-- Values are as is known of them: those of operands, and what modifiers, operators and functions make of them.
use Rattle.std.proofs.Common.{◌≡◌, ℕ, zero, suc, Bool, true, false, List, [], ◌∷◌}
use Rattle.std.proofs.Common.{Option, Some, None, refl, subst, arith}
use Rattle.std.specs.Prelude.{slice_get, ⊤}
use Rattle.std.specs.List.{AllZip}
use Rattle.std.specs.Option.{option_map, option_and_then}
use Rattle.std.proofs.lemmas.Int.{ints}
use Rattle.iltypes.specs.declared.value.IlType.{IlType}
use Rattle.iltypes.specs.declared.value.Value.{Value}
use Rattle.iltypes.specs.declared.value.Value.TheVariants as values
use Rattle.iltypes.specs.Values.{IsOf}
use Rattle.ilcode.specs.Stores.{Shape, Store, IsStoreOf, port_value, type_of_port}
use Rattle.ilcode.proofs.Stores.{port_value_typed, port_value_has_type}
use Rattle.iltypes.specs.declared.function.Function.{Function}
use Rattle.iltypes.specs.declared.function.Function.TheVariants as functions
use Rattle.iltypes.specs.declared.operator.Operator.{Operator}
use Rattle.iltypes.specs.Functions.{modified, value_of_function}
use Rattle.iltypes.specs.Operators.{both, value_of_operator}
use Rattle.ilcode.specs.declared.word.WordOperand.{WordOperand}
use Rattle.ilcode.specs.declared.word.WordOperand.TheVariants as operands
use Rattle.ilcode.specs.Listings.{Listing, shape_of}
use Rattle.ilcode.specs.Steps.{Configuration, value_of}
use Rattle.ilverify.specs.declared.entry.Entry.{Entry}
use Rattle.ilverify.specs.declared.known.Known.{Known}
use Rattle.ilverify.specs.Operands.{known_of}
use Rattle.ilverify.specs.Fits.{IsResultKnown, Fits}
use Rattle.ilverify.specs.Functions.{IsAfterFunction}
use Rattle.ilverify.specs.Knowns.{IsKnown, known_of_type, known_of_value}
use Rattle.ilverify.specs.Results.{IsAfter}
use Rattle.ilverify.specs.Rules.{IsModified, IsLoaded, IsApplied, IsTransformed}
use Rattle.ilverify.proofs.Knowns.{of_known}
use Rattle.ilverify.proofs.OrderOperators.{given}

-- ---- values that are known

-- a value that is known so
pub record Has (value : Option Value) (known : Known) : Type 0 where
  pub v : Value
  pub is : value ≡ Some v
  pub lies : IsKnown v known

-- where the one is there, the other is, and it is known so
abbrev pub IsOperandKnown : Option Value → Option Known → Type 0
IsOperandKnown None None = ⊤
IsOperandKnown None (Some known) = ⊥
IsOperandKnown (Some value) None = ⊥
IsOperandKnown (Some value) (Some known) = IsKnown value known

slot_known : (slots : List Value) (knowns : List Known) (slot : ℕ) → AllZip IsKnown slots knowns
    → IsOperandKnown (slice_get slots slot) (slice_get knowns slot)
slot_known [] [] slot h = tt
slot_known [] (k ∷ ks) slot h = absurd h
slot_known (v ∷ vs) [] slot h = absurd h
slot_known (v ∷ vs) (k ∷ ks) zero h = h.0
slot_known (v ∷ vs) (k ∷ ks) (suc slot) h = slot_known vs ks slot h.1

constant_known : (constant : Option Value) → IsOperandKnown constant (option_map known_of_value constant)
constant_known None = tt
constant_known (Some (values.Bool truth)) = tt
constant_known (Some (values.Int number)) = record { low = omega (arith, ints); high = omega (arith, ints) }

-- of a port its type is known
port_known : (shape : Shape) (s : Store) (block port : ℕ) (value : Option Value) (type : Option IlType)
    → IsStoreOf shape s → port_value s block port ≡ value → type_of_port shape block port ≡ type
    → IsOperandKnown value (option_map known_of_type type)
port_known shape s block port None None h e f = tt
port_known shape s block port None (Some type) h e f =
    let p = (port_value_typed shape s block port type h f).is in absurd (cc)
port_known shape s block port (Some value) None h e f =
    let p = (port_value_has_type shape s block port value h e).is in absurd (cc)
port_known shape s block port (Some value) (Some type) h e f =
    let v = port_value_typed shape s block port type h f in
    let p = v.is in
    let q : v.value ≡ value = cc in
    of_known value type (subst (λ (x : Value). IsOf x type) q v.typed)

pub operand_known : (code : Listing) (entry : Entry) (c : Configuration) (operand : WordOperand) → Fits code entry c
    → IsOperandKnown (value_of code c.store operand) (known_of code entry operand)
operand_known code entry c (operands.Slot slot) f = slot_known c.store.slots entry.slots slot f.slots
operand_known code entry c (operands.Constant constant) f = constant_known (slice_get code.constants constant)
operand_known code entry c (operands.Port port block) f =
    port_known (shape_of code) c.store block port (port_value c.store block port)
    (type_of_port (shape_of code) block port) f.typed refl refl

-- ---- what words give

function_has : (function : Function) (x : Value) (operand known : Known) → IsKnown x operand
    → IsAfterFunction function operand known → Has (value_of_function function x) known
function_has function x operand known k h =
    let g = given (value_of_function function x) (h.some x k) in
    record { v = g.0; is = g.1; lies = h.each g.0 (record { x = x; of_operand = k; is = g.1 }) }

pub modified_has : (negated : Bool) (x : Value) (operand known : Known) → IsKnown x operand
    → IsModified negated operand known → Has (modified negated x) known
modified_has true x operand known k h = function_has functions.Not x operand known k h
modified_has false x operand known k h = record { v = x; is = refl; lies = subst (IsKnown x) h k }

pub loaded_has : (negated : Bool) (value : Option Value) (operand : Option Known) (known : Known)
    → IsOperandKnown value operand → IsLoaded negated operand known
    → Has (option_and_then (modified negated) value) known
loaded_has negated None None known k h = absurd h
loaded_has negated None (Some operand) known k h = absurd k
loaded_has negated (Some x) None known k h = absurd k
loaded_has negated (Some x) (Some operand) known k h = modified_has negated x operand known k h

operator_has : (operator : Operator) (x y : Value) (left right known : Known) → IsKnown x left → IsKnown y right
    → IsAfter operator left right known → Has (value_of_operator operator x y) known
operator_has operator x y left right known p q h =
    let g = given (value_of_operator operator x y) (h.some x y p q) in
    record { v = g.0; is = g.1; lies = h.each g.0 (record { x = x; y = y; of_left = p; of_right = q; is = g.1 }) }

pub applied_has : (operator : Operator) (x y : Option Value) (left right : Option Known) (known : Known)
    → IsResultKnown x left → IsResultKnown y right → IsApplied operator left right known
    → Has (both operator x y) known
applied_has operator x y None right known p q h = absurd h
applied_has operator x y (Some l) None known p q h = absurd h
applied_has operator None y (Some l) (Some r) known p q h = absurd p
applied_has operator (Some x) None (Some l) (Some r) known p q h = absurd q
applied_has operator (Some x) (Some y) (Some l) (Some r) known p q h = operator_has operator x y l r known p q h

pub result_of_operand : (value : Option Value) (known : Option Known) → IsOperandKnown value known
    → IsResultKnown value known
result_of_operand value None h = tt
result_of_operand None (Some known) h = absurd h
result_of_operand (Some value) (Some known) h = h

pub transformed_has : (function : Function) (x : Option Value) (operand : Option Known) (known : Known)
    → IsResultKnown x operand → IsTransformed function operand known
    → Has (option_and_then (value_of_function function) x) known
transformed_has function x None known p h = absurd h
transformed_has function None (Some operand) known p h = absurd p
transformed_has function (Some x) (Some operand) known p h = function_has function x operand known p h
