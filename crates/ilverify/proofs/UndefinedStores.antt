-- Runs that stand as an entry says, where a value may be chosen.
use Rattle.std.proofs.Common.{◌≡◌, ℕ, zero, suc, List, [], ◌∷◌, true, Option, Some, None}
use Rattle.std.proofs.Common.{refl, sym, ap, ◌∙◌, subst, arith}
use Rattle.std.specs.Prelude.{map, slice_get, slice_set, ⊤, IsNone, is_some, IsTrue}
use Rattle.std.specs.List.{AllZip}
use Rattle.std.specs.Option.{option_map, option_and_then}
use Rattle.std.proofs.lemmas.Int.{ints}
use Rattle.std.proofs.lemmas.List.Elements.{All-nil}
use Rattle.iltypes.specs.declared.value.IlType.{IlType}
use Rattle.iltypes.specs.declared.value.IlType.TheVariants as types
use Rattle.iltypes.specs.declared.value.Value.{Value}
use Rattle.iltypes.specs.declared.value.Value.TheVariants as values
use Rattle.iltypes.specs.Values.{IsOf, AreOf}
use Rattle.iltypes.proofs.Limits.{holds_low}
use Rattle.ilcode.specs.BlockKind.{BlockKind}
use Rattle.ilcode.specs.Calls.{Block, at_first, IsBlockOf}
use Rattle.ilcode.specs.Ports.{port_type, types_of_ports, input_type}
use Rattle.ilcode.specs.Stores.{Store, IsStoreOf, blocks_at_first, type_of_port, type_of_input}
use Rattle.ilcode.proofs.Blocks.{at_first_typed, set_typed}
use Rattle.ilcode.proofs.Inputs.{input_is_port}
use Rattle.ilcode.proofs.Stores.{map_made, and_then_made, set_zip, partner_at, item_at, at_first_are}
use Rattle.ilcode.proofs.Stores.{with_value, with_slot_is, with_port_is, port_value_has_type, port_of_type}
use Rattle.ilcode.specs.declared.nesting.Opened.{Opened}
use Rattle.ilcode.specs.declared.word.WordOperand.{WordOperand}
use Rattle.ilcode.specs.declared.word.WordOperand.TheVariants as operands
use Rattle.ilcode.specs.declared.word.Target.{Target}
use Rattle.ilcode.specs.declared.word.Target.TheVariants as variables
use Rattle.ilcode.specs.declared.word.Word.{Word}
use Rattle.ilcode.specs.Listings.{Listing, shape_of, body_at}
use Rattle.ilcode.specs.Steps.{OpenCall, open_call, Configuration, at, opened, body_of, value_of, stored_at, effect}
use Rattle.ilverify.specs.declared.entry.Entry.{Entry}
use Rattle.ilverify.specs.declared.known.Known.{Known}
use Rattle.ilverify.specs.declared.known.Known.TheVariants as knowns
use Rattle.ilverify.specs.declared.nesting.KnownOpened.{KnownOpened}
use Rattle.ilverify.specs.CauseLaws.{IsUndefined, IsTyped}
use Rattle.ilverify.specs.Fits.{IsResultKnown, IsOpenedKnown}
use Rattle.ilverify.specs.Knowns.{IsKnown, IsOfKind, IsKnownWithin, known_of_type, known_of_value}
use Rattle.ilverify.specs.Operands.{known_of, type_of_variable}
use Rattle.ilverify.proofs.Knowns.{known_wider}

pub none_if : {A : Type 0} (o : Option A) → ((x : A) → o ≡ Some x → ⊥) → o ≡ None
none_if None h = refl
none_if (Some x) h = absurd (h x refl)

pub none_of : {A : Type 0} (o : Option A) → IsNone o → o ≡ None
none_of None h = refl
none_of (Some x) h = absurd (cc)

-- ---- values that are known so

abbrev pub some_of : Known → Value
some_of knowns.Bool = values.Bool true
some_of (knowns.Int range) = values.Int range.lo

pub some_known : (known : Known) → IsKnown (some_of known) known
some_known knowns.Bool = tt
some_known (knowns.Int range) = holds_low range

-- two values of which an operator makes a value or none alike
abbrev pub IsAlike : Value → Value → Type 0
IsAlike (values.Bool a) (values.Bool b) = ⊤
IsAlike (values.Int m) (values.Int n) = m ≡ n
IsAlike _ _ = ⊥

pub alike_self : (v : Value) → IsAlike v v
alike_self (values.Bool b) = tt
alike_self (values.Int n) = refl

pub alike_kind : (v w : Value) (known : Known) → IsAlike v w → IsOfKind v known → IsOfKind w known
alike_kind (values.Bool a) (values.Bool b) knowns.Bool h k = tt
alike_kind (values.Bool a) (values.Bool b) (knowns.Int range) h k = absurd k
alike_kind (values.Bool a) (values.Int n) known h k = absurd h
alike_kind (values.Int m) (values.Bool b) known h k = absurd h
alike_kind (values.Int m) (values.Int n) knowns.Bool h k = absurd k
alike_kind (values.Int m) (values.Int n) (knowns.Int range) h k = tt

-- ---- stores

abbrev chosen : List Known → List Value
chosen [] = []
chosen (known ∷ more) = some_of known ∷ chosen more

chosen_known : (slots : List Known) → AllZip IsKnown (chosen slots) slots
chosen_known [] = tt
chosen_known (known ∷ more) = (some_known known, chosen_known more)

abbrev chosen_at : List Known → ℕ → Value → List Value
chosen_at [] slot value = []
chosen_at (known ∷ more) zero value = value ∷ chosen more
chosen_at (known ∷ more) (suc slot) value = some_of known ∷ chosen_at more slot value

at_known : (slots : List Known) (slot : ℕ) (known : Known) (value : Value) → slice_get slots slot ≡ Some known
    → IsKnown value known → AllZip IsKnown (chosen_at slots slot value) slots
at_known [] slot known value e h = tt
at_known (first ∷ more) zero known value e h =
    let same : known ≡ first = cc in (subst (IsKnown value) same h, chosen_known more)
at_known (first ∷ more) (suc slot) known value e h = (some_known first, at_known more slot known value e h)

at_there : (slots : List Known) (slot : ℕ) (known : Known) (value : Value) → slice_get slots slot ≡ Some known
    → slice_get (chosen_at slots slot value) slot ≡ Some value
at_there [] slot known value e = absurd (cc)
at_there (first ∷ more) zero known value e = refl
at_there (first ∷ more) (suc slot) known value e = at_there more slot known value e

of_type : (value : Value) (type : IlType) → IsKnown value (known_of_type type) → IsOf value type
of_type (values.Bool b) types.Bool h = tt
of_type (values.Bool b) (types.Int range) h = absurd h
of_type (values.Int n) types.Bool h = absurd h
of_type (values.Int n) (types.Int range) h = h

typed_values : (slots : List Value) (knowns : List Known) (types : List IlType) → AllZip IsKnown slots knowns
    → AllZip IsKnownWithin knowns (map known_of_type types) → AreOf slots types
typed_values [] [] [] h w = tt
typed_values [] [] (type ∷ types) h w = absurd w
typed_values [] (known ∷ knowns) types h w = absurd h
typed_values (value ∷ slots) [] types h w = absurd h
typed_values (value ∷ slots) (known ∷ knowns) [] h w = absurd w
typed_values (value ∷ slots) (known ∷ knowns) (type ∷ types) h w = (
  of_type value type (known_wider value known (known_of_type type) w.0 h.0),
  typed_values slots knowns types h.1 w.1,
)

abbrev store_of : List Value → List Block → Store
store_of slots blocks = record { slots = slots; blocks = blocks; requests = []; moment = 0 }

-- a store that is as the entry says
pub record IsChosen (code : Listing) (entry : Entry) (s : Store) : Type 0 where
  pub typed : IsStoreOf (shape_of code) s
  pub slots : AllZip IsKnown s.slots entry.slots

choose : (code : Listing) (entry : Entry) (slots : List Value) (blocks : List Block) → IsTyped code entry
    → AllZip IsKnown slots entry.slots → AllZip (IsBlockOf code.buses) blocks code.kinds
    → IsChosen code entry (store_of slots blocks)
choose code entry slots blocks t h b = record {
  typed = record {
    slots = typed_values slots entry.slots code.slots h t;
    blocks = b;
    requests = All-nil _;
  };
  slots = h;
}

abbrev pub base : Listing → Entry → Store
base code entry = store_of (chosen entry.slots) (blocks_at_first code.kinds)

pub base_chosen : (code : Listing) (entry : Entry) → IsTyped code entry → IsChosen code entry (base code entry)
base_chosen code entry t =
    choose code entry (chosen entry.slots) (blocks_at_first code.kinds) t (chosen_known entry.slots)
    (at_first_are code.buses code.kinds)

-- ---- an operand with a value that may be chosen, but of a constant, which is alike

pub record Giving (code : Listing) (entry : Entry) (operand : WordOperand) (value : Value) : Type 0 where
  pub store : Store
  pub is_chosen : IsChosen code entry store
  pub given : Value
  pub is : value_of code store operand ≡ Some given
  pub alike : IsAlike value given

only_alike : (value constant : Value) → IsKnown value (known_of_value constant) → IsAlike value constant
only_alike (values.Bool a) (values.Bool b) h = tt
only_alike (values.Bool a) (values.Int n) h = absurd h
only_alike (values.Int m) (values.Bool b) h = absurd h
only_alike (values.Int m) (values.Int n) h = let low = h.low in let high = h.high in omega (arith, ints, low, high)

set_there : {A : Type 0} (xs : List A) (i : ℕ) (x y : A) → slice_get xs i ≡ Some y
    → slice_get (slice_set xs i x) i ≡ Some x
set_there [] i x y e = absurd (cc)
set_there (a ∷ xs) zero x y e = refl
set_there (a ∷ xs) (suc i) x y e = set_there xs i x y e

port_giving : (code : Listing) (entry : Entry) (port block : ℕ) (kind : BlockKind) (type : IlType) (value : Value)
    → IsTyped code entry → slice_get code.kinds block ≡ Some kind → port_type code.buses kind port ≡ Some type
    → IsOf value type → Giving code entry (operands.Port port block) value
port_giving code entry port block kind type value t k p h =
    let first = at_first kind in
    let blocks = blocks_at_first code.kinds in
    let item = item_at (IsBlockOf code.buses) blocks code.kinds block kind (at_first_are code.buses code.kinds) k in
    let changed = with_value first port value in
    let typed = set_typed first.ports (types_of_ports code.buses kind) port value type
    (at_first_typed code.buses kind) p h in
    let was = port_of_type code.buses kind first port type (at_first_typed code.buses kind) p in
    record {
      store = store_of (chosen entry.slots) (slice_set blocks block changed);
      is_chosen =
          choose code entry (chosen entry.slots) (slice_set blocks block changed) t (chosen_known entry.slots)
          (set_zip (IsBlockOf code.buses) blocks code.kinds block changed kind (at_first_are code.buses code.kinds) k
          typed);
      given = value;
      is =
          ap (option_and_then (λ (b : Block). slice_get b.ports port))
          (set_there blocks block changed item.item item.is)
          ∙ set_there first.ports port value was.value was.is;
      alike = alike_self value;
    }

pub giving : (code : Listing) (entry : Entry) (operand : WordOperand) (known : Known) (value : Value)
    → IsTyped code entry → known_of code entry operand ≡ Some known → IsKnown value known
    → Giving code entry operand value
giving code entry (operands.Slot slot) known value t e h = record {
  store = store_of (chosen_at entry.slots slot value) (blocks_at_first code.kinds);
  is_chosen =
      choose code entry (chosen_at entry.slots slot value) (blocks_at_first code.kinds) t
      (at_known entry.slots slot known value e h) (at_first_are code.buses code.kinds);
  given = value;
  is = at_there entry.slots slot known value e;
  alike = alike_self value;
}
giving code entry (operands.Constant constant) known value t e h =
    let m = map_made known_of_value (slice_get code.constants constant) known e in
    record {
      store = base code entry;
      is_chosen = base_chosen code entry t;
      given = m.of;
      is = m.is;
      alike = only_alike value m.of (subst (IsKnown value) (sym m.makes) h);
    }
giving code entry (operands.Port port block) known value t e h =
    let m = map_made known_of_type (type_of_port (shape_of code) block port) known e in
    let k = and_then_made (λ kind. port_type code.buses kind port) (slice_get code.kinds block) m.of m.is in
    port_giving code entry port block k.of m.of value t k.is k.makes
    (of_type value m.of (subst (IsKnown value) (sym m.makes) h))

map_none : {A B : Type 0} (f : A → B) (o : Option A) → option_map f o ≡ None → o ≡ None
map_none f None e = refl
map_none f (Some x) e = absurd (cc)

-- an operand that is not in its table has no value
pub missing : (code : Listing) (entry : Entry) (s : Store) (operand : WordOperand) → IsChosen code entry s
    → known_of code entry operand ≡ None → value_of code s operand ≡ None
missing code entry s (operands.Slot slot) h e =
    none_if (slice_get s.slots slot)
    (λ v is. let p = partner_at IsKnown s.slots entry.slots slot v h.slots is in let q = p.is in absurd (cc))
missing code entry s (operands.Constant constant) h e = map_none known_of_value (slice_get code.constants constant) e
missing code entry s (operands.Port port block) h e =
    none_if (value_of code s (operands.Port port block))
    (λ v is.
    let p = port_value_has_type (shape_of code) s block port v h.typed is in
    let q = p.is in
    let none = map_none known_of_type (type_of_port (shape_of code) block port) e in
    absurd (cc))

-- ---- what cannot be stored

pub not_stored : (code : Listing) (s : Store) (variable : Target) (value : Value)
    → ((type : IlType) → type_of_variable code variable ≡ Some type → ¬ IsOf value type)
    → stored_at code s variable value ≡ None
not_stored code s (variables.Slot slot) value h =
    none_if (stored_at code s (variables.Slot slot) value)
    (λ t e. let w = with_slot_is (shape_of code) s slot value t e in h w.type w.of_slot w.typed)
not_stored code s (variables.Port port block) value h =
    none_if (stored_at code s (variables.Port port block) value)
    (λ t e.
    let w = with_port_is (shape_of code) s block port value t e in
    h w.type
    (ap (option_and_then (λ (kind : BlockKind). port_type code.buses kind port)) w.of_kind
    ∙ input_is_port code.buses w.kind port w.type w.of_input)
    w.typed)

-- nothing is stored to an output
pub no_input : (code : Listing) (s : Store) (port block : ℕ) (value : Value)
    → ¬ IsTrue (is_some (type_of_input (shape_of code) block port))
    → stored_at code s (variables.Port port block) value ≡ None
no_input code s port block value h =
    none_if (stored_at code s (variables.Port port block) value)
    (λ t e.
    let w = with_port_is (shape_of code) s block port value t e in
    let is = ap (option_and_then (λ (kind : BlockKind). input_type code.buses kind port)) w.of_kind ∙ w.of_input in
    h (ap is_some is))

-- ---- the current result and what is open

abbrev pub result_of : Option Known → Option Value
result_of None = None
result_of (Some known) = Some (some_of known)

pub result_known : (known : Option Known) → IsResultKnown (result_of known) known
result_known None = tt
result_known (Some known) = some_known known

abbrev pub nesting_of : List KnownOpened → List Opened
nesting_of [] = []
nesting_of (innermost ∷ nesting) = opened innermost.operator (some_of innermost.saved) ∷ nesting_of nesting

pub nesting_known : (nesting : List KnownOpened) → AllZip IsOpenedKnown (nesting_of nesting) nesting
nesting_known [] = tt
nesting_known (innermost ∷ nesting) =
    (record { operator = refl; saved = some_known innermost.saved }, nesting_known nesting)

-- ---- runs

abbrev calls_in : ℕ → List OpenCall
calls_in zero = []
calls_in (suc function) = open_call function 0 [] ∷ []

in_body : (body : ℕ) → body_of (calls_in body) ≡ body
in_body zero = refl
in_body (suc function) = omega arith

-- a run that stands before the word, in its body
abbrev pub stands : Listing → ℕ → Store → Option Value → List Opened → Configuration
stands code place s result nesting = at place s result nesting (calls_in (body_at code place))

pub undefined_from : (code : Listing) (place : ℕ) (entry : Entry) (word : Word) (s : Store) (result : Option Value)
    (nesting : List Opened) → IsChosen code entry s → IsResultKnown result entry.result
    → AllZip IsOpenedKnown nesting entry.nesting → effect code (stands code place s result nesting) word ≡ None
    → IsUndefined code place entry word
undefined_from code place entry word s result nesting h r n e = record {
  at = stands code place s result nesting;
  there = refl;
  body = in_body (body_at code place);
  fits = record { typed = h.typed; slots = h.slots; result = r; mark = tt; nesting = n };
  none = e;
}

-- with a result that may be chosen, and with the usual one
pub undefined_with : (code : Listing) (place : ℕ) (entry : Entry) (word : Word) (s : Store) (result : Option Value)
    → IsChosen code entry s → IsResultKnown result entry.result
    → effect code (stands code place s result (nesting_of entry.nesting)) word ≡ None
    → IsUndefined code place entry word
undefined_with code place entry word s result h r e =
    undefined_from code place entry word s result (nesting_of entry.nesting) h r (nesting_known entry.nesting) e
