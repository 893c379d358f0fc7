-- Words that store to a variable or call a block are defined where they have a rule, and leave what it says: other
-- variables stay, and all is in its type.
use Rattle.std.proofs.Common.{◌≡◌, ℕ, zero, suc, ◌+◌, Bool, true, false, List, [], ◌∷◌, Option, Some, None, refl, sym}
use Rattle.std.proofs.Common.{ap, ◌∙◌, subst, inl, inr}
use Rattle.std.specs.Prelude.{◌≤◌, ◌&&◌, ◌||◌, IsTrue, IsSome, slice_get, slice_set}
use Rattle.std.specs.List.{AllZip, list_any}
use Rattle.std.specs.Option.{option_and_then}
use Rattle.iltypes.specs.declared.value.IlType.{IlType}
use Rattle.iltypes.specs.declared.value.IlType.TheVariants as types
use Rattle.iltypes.specs.declared.value.Value.{Value}
use Rattle.iltypes.specs.declared.value.Value.TheVariants as values
use Rattle.iltypes.specs.Values.{IsOf, AreOf}
use Rattle.ilcode.specs.Stores.{type_of_port, called, Shape, Store, IsStoreOf, type_of_input, with_port}
use Rattle.ilcode.proofs.Blocks.{set_typed}
use Rattle.ilcode.proofs.Stores.{is_with_slot, and_then_made, with_port_is, with_port_typed, input_is_stored}
use Rattle.ilcode.proofs.Stores.{called_is, kind_is_called, called_typed}
use Rattle.iltypes.specs.Functions.{modified}
use Rattle.ilcode.specs.declared.word.WordOperand.{WordOperand}
use Rattle.ilcode.specs.declared.word.Target.{Target}
use Rattle.ilcode.specs.declared.word.Target.TheVariants as variables
use Rattle.ilcode.specs.declared.word.Word.TheVariants as words
use Rattle.ilcode.specs.Listings.{Listing, shape_of, body_at}
use Rattle.ilcode.specs.Steps.{Configuration, at, value_of, stored_at, with_store, sets, calls, effect}
use Rattle.ilcode.specs.BlockKind.{BlockKind}
use Rattle.ilcode.specs.Ports.{port_type, input_type}
use Rattle.ilcode.proofs.Inputs.{input_is_port}
use Rattle.ilverify.specs.declared.entry.Entry.{Entry}
use Rattle.ilverify.specs.declared.known.Known.{Known}
use Rattle.ilverify.specs.declared.known.Known.TheVariants as knowns
use Rattle.ilverify.specs.declared.mark.ResultMark.{ResultMark}
use Rattle.ilverify.specs.Operands.{known_of, type_of_variable, is_own, is_input, is_before}
use Rattle.ilverify.specs.Operands.{may_set, may_store, may_write}
use Rattle.ilverify.specs.Fits.{IsResultKnown, Fits}
use Rattle.ilverify.specs.Knowns.{IsKnown}
use Rattle.ilverify.specs.Marks.{IsMarked}
use Rattle.ilverify.specs.Rules.{IsStored, MaySet, with_stored, Writes, Passes, GivesSlot}
use Rattle.ilverify.specs.Safety.{AreKept}
use Rattle.ilverify.proofs.SafetyValues.{operand_known, modified_has, result_of_operand}
use Rattle.ilverify.proofs.SafetyMarks.{store_marked, truth_marked}

-- ---- inputs and block instances

second_of : (a b : Bool) → IsTrue (a && b) → IsTrue b
second_of true b h = h
second_of false b h = let k : ⊥ = cc in absurd k

there : {A : Type 0} (o : Option A) → IsSome o → (x : A) × (o ≡ Some x)
there None h = absurd (cc)
there (Some x) h = (x, refl)

-- an input has the type of the port
input_typed : (shape : Shape) (block port : ℕ) (type : IlType) → IsSome (type_of_input shape block port)
    → type_of_port shape block port ≡ Some type → type_of_input shape block port ≡ Some type
input_typed shape block port type w e =
    let i = there (type_of_input shape block port) w in
    let k = and_then_made (λ kind. input_type shape.buses kind port) (slice_get shape.kinds block) i.0 i.1 in
    let p = ap (option_and_then (λ (kind : BlockKind). port_type shape.buses kind port)) k.is
    ∙ input_is_port shape.buses k.of port i.0 k.makes in
    let q : i.0 ≡ type = cc in
    i.1 ∙ ap Some q

-- there is another store of the shape, with the same variables
pub record Keeps (shape : Shape) (s : Store) (o : Option Store) : Type 0 where
  pub to : Store
  pub is : o ≡ Some to
  pub slots : to.slots ≡ s.slots
  pub typed : IsStoreOf shape to

-- an input takes each value of the port's type
pub port_keeps : (shape : Shape) (s : Store) (block port : ℕ) (value : Value) (type : IlType) → IsStoreOf shape s
    → IsSome (type_of_input shape block port) → type_of_port shape block port ≡ Some type → IsOf value type
    → Keeps shape s (with_port shape s block port value)
port_keeps shape s block port value type h w e o =
    let t = input_is_stored shape s block port value type h (input_typed shape block port type w e) o in
    record {
      to = t.0;
      is = t.1;
      slots = ap (λ (t : Store). t.slots) (sym (with_port_is shape s block port value t.0 t.1).is);
      typed = with_port_typed shape s block port value t.0 h t.1;
    }

-- each instance that is there may be called
pub call_keeps : (shape : Shape) (s : Store) (block : ℕ) → 1 ≤ shape.buses → IsStoreOf shape s
    → IsSome (slice_get shape.kinds block) → Keeps shape s (called shape s block)
call_keeps shape s block le h i =
    let k = there (slice_get shape.kinds block) i in
    let t = kind_is_called shape s block k.0 h k.1 in
    record {
      to = t.0;
      is = t.1;
      slots = ap (λ (t : Store). t.slots) (sym (called_is shape s block t.0 t.1).is);
      typed = called_typed shape s block t.0 le h t.1;
    }

-- ---- what a word leaves

-- the effect is defined, at the next place of the body, is as the entry says, and writes no slot but one that it may
pub record Leaves (code : Listing) (c : Configuration) (effect : Option Configuration) (after : Entry) : Type 0 where
  pub to : Configuration
  pub is : effect ≡ Some to
  pub leads : to.place ≡ c.place + 1
  pub calls : to.calls ≡ c.calls
  pub kept : AreKept code c.place c.store.slots to.store.slots
  pub fits : Fits code after to

-- ---- words that store to a variable

set_known : (slots : List Value) (knowns : List Known) (slot : ℕ) (value : Value) (known : Known)
    → AllZip IsKnown slots knowns → IsKnown value known
    → AllZip IsKnown (slice_set slots slot value) (slice_set knowns slot known)
set_known [] [] slot value known h k = tt
set_known [] (x ∷ xs) slot value known h k = absurd h
set_known (v ∷ vs) [] slot value known h k = absurd h
set_known (v ∷ vs) (x ∷ xs) zero value known h k = (k, h.1)
set_known (v ∷ vs) (x ∷ xs) (suc slot) value known h k = (h.0, set_known vs xs slot value known h.1 k)

-- a value of its type is stored to a slot, of which this is known then
slot_leaves : (code : Listing) (entry after : Entry) (c : Configuration) (slot : ℕ) (value : Value) (type : IlType)
    (slots : List Known) (mark : Option ResultMark) → Fits code entry c
    → IsTrue (may_write code c.place (variables.Slot slot)) → slice_get code.slots slot ≡ Some type → IsOf value type
    → AllZip IsKnown (slice_set c.store.slots slot value) slots
    → IsMarked (slice_set c.store.slots slot value) c.result mark → after ≡ record entry { slots = slots; mark = mark }
    → Leaves code c (with_store c (stored_at code c.store (variables.Slot slot) value)) after
slot_leaves code entry after c slot value type slots mark f w e o k m p =
    let store = record c.store { slots = slice_set c.store.slots slot value } in
    let to = at (c.place + 1) store c.result c.nesting c.calls in
    record {
      to = to;
      is = ap (with_store c) (is_with_slot (shape_of code) c.store slot value type e o);
      leads = refl;
      calls = refl;
      kept = inr (record { slot = slot; value = value; may = w; is = refl });
      fits = subst (λ (e : Entry). Fits code e to) (sym p) (record {
        typed = record {
          slots = set_typed c.store.slots code.slots slot value type f.typed.slots e o;
          blocks = f.typed.blocks;
          requests = f.typed.requests;
        };
        slots = k;
        result = f.result;
        mark = m;
        nesting = f.nesting;
      });
    }

-- a value of its type is stored to an input, of which no more is known then
port_leaves : (code : Listing) (entry after : Entry) (c : Configuration) (block port : ℕ) (value : Value)
    (type : IlType) (mark : Option ResultMark) → Fits code entry c
    → IsTrue (may_write code c.place (variables.Port port block))
    → type_of_port (shape_of code) block port ≡ Some type → IsOf value type → IsMarked c.store.slots c.result mark
    → after ≡ record entry { mark = mark }
    → Leaves code c (with_store c (stored_at code c.store (variables.Port port block) value)) after
port_leaves code entry after c block port value type mark f w e o m p =
    let t = port_keeps (shape_of code) c.store block port value type f.typed (second_of _ _ w) e o in
    let to = at (c.place + 1) t.to c.result c.nesting c.calls in
    record {
      to = to;
      is = ap (with_store c) t.is;
      leads = refl;
      calls = refl;
      kept = inl t.slots;
      fits = subst (λ (e : Entry). Fits code e to) (sym p) (record {
        typed = t.typed;
        slots = subst (λ (slots : List Value). AllZip IsKnown slots entry.slots) (sym t.slots) f.slots;
        result = f.result;
        mark = subst (λ (slots : List Value). IsMarked slots c.result mark) (sym t.slots) m;
        nesting = f.nesting;
      });
    }

-- a store of a value that is known so and of the variable's type
record Stores (code : Listing) (variable : Target) (value : Option Value) (known : Known) : Type 0 where
  pub v : Value
  pub is : value ≡ Some v
  pub lies : IsKnown v known
  pub type : IlType
  pub declared : type_of_variable code variable ≡ Some type
  pub of : IsOf v type

stored_has : (code : Listing) (variable : Target) (negated : Bool) (x : Option Value) (result : Option Known)
    (type : Option IlType) (known : Known) → type_of_variable code variable ≡ type → IsResultKnown x result
    → IsStored negated result type known → Stores code variable (option_and_then (modified negated) x) known
stored_has code variable negated x None type known e p h = absurd h
stored_has code variable negated x (Some result) None known e p h = absurd h
stored_has code variable negated None (Some result) (Some type) known e p h = absurd p
stored_has code variable negated (Some x) (Some result) (Some type) known e p h =
    let m = modified_has negated x result known p h.0 in
    record { v = m.v; is = m.is; lies = m.lies; type = type; declared = e; of = h.1 m.v m.lies }

writes_value : (code : Listing) (entry after : Entry) (c : Configuration) (variable : Target) (negated : Bool)
    (value : Value) (type : IlType) (known : Known) → Fits code entry c → IsTrue (may_write code c.place variable)
    → type_of_variable code variable ≡ Some type → IsOf value type → IsKnown value known
    → option_and_then (modified negated) c.result ≡ Some value → after ≡ with_stored entry variable known
    → Leaves code c (with_store c (stored_at code c.store variable value)) after
writes_value code entry after c (variables.Slot slot) negated value type known f w e o k h p =
    slot_leaves code entry after c slot value type (slice_set entry.slots slot known) entry.mark f w e o
    (set_known c.store.slots entry.slots slot value known f.slots k)
    (store_marked c.store.slots code.slots c.result entry.mark slot negated value type f.typed.slots e o h f.mark) p
writes_value code entry after c (variables.Port port block) negated value type known f w e o k h p =
    port_leaves code entry after c block port value type entry.mark f w e o f.mark p

-- where the value is there
on_value : (code : Listing) (after : Entry) (c : Configuration) (variable : Target) (value : Option Value)
    (v : Value) → value ≡ Some v → Leaves code c (with_store c (stored_at code c.store variable v)) after
    → Leaves code c (with_store c (option_and_then (stored_at code c.store variable) value)) after
on_value code after c variable value v e l =
    subst
    (λ (x : Option Value). Leaves code c (with_store c (option_and_then (stored_at code c.store variable) x)) after)
    (sym e) l

-- what may be set or stored may be written
or_left : (a b : Bool) → IsTrue a → IsTrue (a || b)
or_left true b h = refl
or_left false b h = absurd (cc)

may_write_set : (code : Listing) (place : ℕ) (variable : Target) → IsTrue (may_set code place variable)
    → IsTrue (may_write code place variable)
may_write_set code place (variables.Slot slot) h =
    or_left (is_own code (body_at code place) slot)
    (is_before code (body_at code place) slot && list_any (is_input slot) code.functions) h
may_write_set code place (variables.Port port block) h = h

may_write_stored : (negated : Bool) (code : Listing) (place : ℕ) (variable : Target)
    → IsTrue (may_store negated code place variable) → IsTrue (may_write code place variable)
may_write_stored false code place variable h = h
may_write_stored true code place variable h = may_write_set code place variable h

pub writes : (code : Listing) (entry after : Entry) (c : Configuration) (variable : Target) (negated : Bool)
    → Fits code entry c → IsTrue (may_store negated code c.place variable)
    → Writes entry variable (IsStored negated entry.result (type_of_variable code variable)) after
    → Leaves code c (effect code c (words.Store negated variable)) after
writes code entry after c variable negated f w g =
    let h = stored_has code variable negated c.result entry.result (type_of_variable code variable) g.stored refl
    f.result g.written in
    on_value code after c variable _ h.v h.is
    (writes_value code entry after c variable negated h.v h.type g.stored f
    (may_write_stored negated code c.place variable w) h.declared h.of h.lies h.is g.is)

-- ---- arguments, GIVE and calls of blocks

unmodified : (x : Option Value) → option_and_then (modified false) x ≡ x
unmodified None = refl
unmodified (Some x) = refl

pub passes : (code : Listing) (entry after : Entry) (c : Configuration) (operand : WordOperand) (block port : ℕ)
    → Fits code entry c → IsTrue (may_write code c.place (variables.Port port block))
    → Passes entry (IsStored false (known_of code entry operand) (type_of_port (shape_of code) block port)) after
    → Leaves code c (effect code c (words.Pass port block operand)) after
passes code entry after c operand block port f w g =
    let input = variables.Port port block in
    let value = value_of code c.store operand in
    let h = stored_has code input false value (known_of code entry operand) (type_of_variable code input) g.stored refl
    (result_of_operand _ _ (operand_known code entry c operand f)) g.passed in
    on_value code after c input value h.v (sym (unmodified value) ∙ h.is)
    (port_leaves code entry after c block port h.v h.type None f w h.declared h.of tt g.is)

pub gives_slot : (code : Listing) (entry after : Entry) (c : Configuration) (operand : WordOperand) (slot : ℕ)
    → Fits code entry c → IsTrue (may_write code c.place (variables.Slot slot))
    → GivesSlot entry slot (IsStored false (known_of code entry operand) (slice_get code.slots slot)) after
    → Leaves code c (effect code c (words.Give operand slot)) after
gives_slot code entry after c operand slot f w g =
    let given = variables.Slot slot in
    let value = value_of code c.store operand in
    let h = stored_has code given false value (known_of code entry operand) (type_of_variable code given) g.stored refl
    (result_of_operand _ _ (operand_known code entry c operand f)) g.given in
    on_value code after c given value h.v (sym (unmodified value) ∙ h.is)
    (slot_leaves code entry after c slot h.v h.type (slice_set entry.slots slot g.stored) None f w h.declared h.of
    (set_known c.store.slots entry.slots slot h.v g.stored f.slots h.lies) tt g.is)

pub calls_by : (code : Listing) (entry after : Entry) (c : Configuration) (block : ℕ) → 1 ≤ code.buses
    → Fits code entry c → IsSome (slice_get code.kinds block) → after ≡ record entry { result = None; mark = None }
    → Leaves code c (calls c (called (shape_of code) c.store block)) after
calls_by code entry after c block le f i p =
    let t = call_keeps (shape_of code) c.store block le f.typed i in
    let to = at (c.place + 1) t.to None c.nesting c.calls in
    record {
      to = to;
      is = ap (calls c) t.is;
      leads = refl;
      calls = refl;
      kept = inl t.slots;
      fits = subst (λ (e : Entry). Fits code e to) (sym p) (record {
        typed = t.typed;
        slots = subst (λ (slots : List Value). AllZip IsKnown slots entry.slots) (sym t.slots) f.slots;
        result = tt;
        mark = tt;
        nesting = f.nesting;
      });
    }

-- ---- S and R

truth_of : (v : Option Value) (known : Option Known) (type : Option IlType) → IsResultKnown v known
    → MaySet known type → (b : Bool) × (v ≡ Some (values.Bool b))
truth_of v None type r h = absurd h
truth_of v (Some (knowns.Int range)) type r h = absurd h
truth_of v (Some knowns.Bool) None r h = absurd h
truth_of v (Some knowns.Bool) (Some (types.Int range)) r h = absurd h
truth_of None (Some knowns.Bool) (Some types.Bool) r h = absurd r
truth_of (Some (values.Bool b)) (Some knowns.Bool) (Some types.Bool) r h = (b, refl)
truth_of (Some (values.Int n)) (Some knowns.Bool) (Some types.Bool) r h = absurd r

bool_slot : (known : Option Known) (type : Option IlType) → MaySet known type → type ≡ Some types.Bool
bool_slot None type h = absurd h
bool_slot (Some (knowns.Int range)) type h = absurd h
bool_slot (Some knowns.Bool) None h = absurd h
bool_slot (Some knowns.Bool) (Some (types.Int range)) h = absurd h
bool_slot (Some knowns.Bool) (Some types.Bool) h = refl

-- another truth value is known as one is
other_truth : (v : Value) (known : Known) (b : Bool) → IsOf v types.Bool → IsKnown v known
    → IsKnown (values.Bool b) known
other_truth (values.Int n) known b o k = absurd o
other_truth (values.Bool a) knowns.Bool b o k = tt
other_truth (values.Bool a) (knowns.Int range) b o k = absurd k

truth_known : (slots : List Value) (declared : List IlType) (knowns : List Known) (slot : ℕ) (b : Bool)
    → AreOf slots declared → slice_get declared slot ≡ Some types.Bool → AllZip IsKnown slots knowns
    → AllZip IsKnown (slice_set slots slot (values.Bool b)) knowns
truth_known [] declared [] slot b a e h = tt
truth_known [] declared (k ∷ ks) slot b a e h = absurd h
truth_known (v ∷ vs) declared [] slot b a e h = absurd h
truth_known (v ∷ vs) [] (k ∷ ks) slot b a e h = absurd a
truth_known (v ∷ vs) (t ∷ ts) (k ∷ ks) zero b a e h =
    let q : t ≡ types.Bool = cc in
    (other_truth v k b (subst (IsOf v) q a.0) h.0, h.1)
truth_known (v ∷ vs) (t ∷ ts) (k ∷ ks) (suc slot) b a e h = (h.0, truth_known vs ts ks slot b a.1 e h.1)

sets_by : (code : Listing) (entry after : Entry) (c : Configuration) (variable : Target) (truth b outcome : Bool)
    → Fits code entry c → IsTrue (may_write code c.place variable) → c.result ≡ Some (values.Bool outcome)
    → type_of_variable code variable ≡ Some types.Bool → after ≡ entry
    → Leaves code c (sets code c variable truth (Some (values.Bool b))) after
sets_by code entry after c variable truth false outcome f w r e p = record {
  to = at (c.place + 1) c.store c.result c.nesting c.calls;
  is = refl;
  leads = refl;
  calls = refl;
  kept = inl refl;
  fits = subst (λ (e : Entry). Fits code e (at (c.place + 1) c.store c.result c.nesting c.calls)) (sym p)
      (record { typed = f.typed; slots = f.slots; result = f.result; mark = f.mark; nesting = f.nesting });
}
sets_by code entry after c (variables.Slot slot) truth true outcome f w r e p =
    slot_leaves code entry after c slot (values.Bool truth) types.Bool entry.slots entry.mark f w e tt
    (truth_known c.store.slots code.slots entry.slots slot truth f.typed.slots e f.slots)
    (truth_marked c.store.slots code.slots c.result entry.mark slot truth outcome f.typed.slots e r f.mark) p
sets_by code entry after c (variables.Port port block) truth true outcome f w r e p =
    port_leaves code entry after c block port (values.Bool truth) types.Bool entry.mark f w e tt f.mark p

pub sets_all : (code : Listing) (entry after : Entry) (c : Configuration) (variable : Target) (truth : Bool)
    → Fits code entry c → IsTrue (may_set code c.place variable)
    → MaySet entry.result (type_of_variable code variable) → after ≡ entry
    → Leaves code c (sets code c variable truth c.result) after
sets_all code entry after c variable truth f w h p =
    let type = type_of_variable code variable in
    let t = truth_of c.result entry.result type f.result h in
    subst (λ (v : Option Value). Leaves code c (sets code c variable truth v) after) (sym t.1)
    (sets_by code entry after c variable truth t.0 t.0 f (may_write_set code c.place variable w) t.1
    (bool_slot entry.result type h) p)
