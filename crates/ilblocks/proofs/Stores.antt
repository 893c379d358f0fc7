-- What stores to variables and ports and calls of blocks leave of a store: the types of all that it has, its moment and
-- how much it has. A call makes one request at most.
use Rattle.std.proofs.Common.{◌≡◌, ℕ, zero, suc, ◌+◌, ◌≤◌, ◌<◌, length, List, [], ◌∷◌, ◌++◌, Bool, true, false}
use Rattle.std.proofs.Common.{Option, Some, None, IfSome, refl, ap, subst, arith, ◌∙◌}
use Rattle.std.proofs.Math.ListN.{length-set, length-append}
use Rattle.std.proofs.lemmas.List.{append-nil}
use Rattle.std.proofs.lemmas.List.Elements.{All-append, All-cons, All-nil}
use Rattle.std.specs.List.{AllZip, All}
use Rattle.std.specs.Prelude.{option_map, option_and_then, slice_get, slice_set}
use Rattle.iltypes.specs.declared.value.IlType.{IlType}
use Rattle.iltypes.specs.declared.value.Value.{Value}
use Rattle.iltypes.specs.Slots.{is_of, stored}
use Rattle.iltypes.specs.Values.{IsOf, AreOf}
use Rattle.iltypes.proofs.TypeTests.{test_holds, holds_test}
use Rattle.gearcmd.specs.declared.requests.Request.{Request}
use Rattle.ilblocks.specs.declared.kind.BlockKind.{BlockKind}
use Rattle.ilblocks.specs.Calls.{Block, IsBlockOf, after_call, requested}
use Rattle.ilblocks.specs.Ports.{types_of_ports, port_type, input_type, makes_requests}
use Rattle.ilblocks.specs.Stores.{Shape, Store, IsStoreOf, blocks_at_first, slot_value, with_slot, port_value}
use Rattle.ilblocks.specs.Stores.{type_of_port, type_of_input, with_input, with_port, listed, after_block, called}
use Rattle.ilblocks.proofs.Blocks.{at_first_typed, set_typed, HasValue, value_at, call_typed, requested_bus}
use Rattle.ilblocks.proofs.Inputs.{input_is_port, no_request}

-- ---- options and lists

-- what an option that has a value was made from
pub record IsMade {A B : Type 0} (f : A → Option B) (o : Option A) (y : B) : Type 0 where
  pub of : A
  pub is : o ≡ Some of
  pub makes : f of ≡ Some y

pub and_then_made : {A B : Type 0} (f : A → Option B) (o : Option A) (y : B) → option_and_then f o ≡ Some y
    → IsMade f o y
and_then_made f None y e = absurd (cc)
and_then_made f (Some x) y e = record { of = x; is = refl; makes = e }

pub record IsMapped {A B : Type 0} (f : A → B) (o : Option A) (y : B) : Type 0 where
  pub of : A
  pub is : o ≡ Some of
  pub makes : f of ≡ y

pub map_made : {A B : Type 0} (f : A → B) (o : Option A) (y : B) → option_map f o ≡ Some y → IsMapped f o y
map_made f None y e = absurd (cc)
map_made f (Some x) y e = record { of = x; is = refl; makes = cc }

pub length_zip : {A B : Type 0} (R : A → B → Type 0) (xs : List A) (ys : List B) → AllZip R xs ys
    → length xs ≡ length ys
length_zip R [] [] h = refl
length_zip R [] (y ∷ ys) h = absurd h
length_zip R (x ∷ xs) [] h = absurd h
length_zip R (x ∷ xs) (y ∷ ys) h = ap suc (length_zip R xs ys h.1)

pub set_zip : {A B : Type 0} (R : A → B → Type 0) (xs : List A) (ys : List B) (place : ℕ) (x : A) (y : B)
    → AllZip R xs ys → slice_get ys place ≡ Some y → R x y → AllZip R (slice_set xs place x) ys
set_zip R [] [] place x y h e r = tt
set_zip R [] (b ∷ ys) place x y h e r = absurd h
set_zip R (a ∷ xs) [] place x y h e r = absurd h
set_zip R (a ∷ xs) (b ∷ ys) zero x y h e r = let q : y ≡ b = cc in (subst (R x) q r, h.1)
set_zip R (a ∷ xs) (b ∷ ys) (suc place) x y h e r = (h.0, set_zip R xs ys place x y h.1 e r)

-- the item of the first list beside one of the second
pub record HasItem {A B : Type 0} (R : A → B → Type 0) (xs : List A) (place : ℕ) (y : B) : Type 0 where
  pub item : A
  pub is : slice_get xs place ≡ Some item
  pub relates : R item y

pub item_at : {A B : Type 0} (R : A → B → Type 0) (xs : List A) (ys : List B) (place : ℕ) (y : B)
    → AllZip R xs ys → slice_get ys place ≡ Some y → HasItem R xs place y
item_at R [] [] place y h e = absurd (cc)
item_at R [] (b ∷ ys) place y h e = absurd h
item_at R (a ∷ xs) [] place y h e = absurd h
item_at R (a ∷ xs) (b ∷ ys) zero y h e =
    let q : b ≡ y = cc in record { item = a; is = refl; relates = subst (R a) q h.0 }
item_at R (a ∷ xs) (b ∷ ys) (suc place) y h e =
    let i = item_at R xs ys place y h.1 e in record { item = i.item; is = i.is; relates = i.relates }

-- the item of the second list beside one of the first
pub record HasPartner {A B : Type 0} (R : A → B → Type 0) (x : A) (ys : List B) (place : ℕ) : Type 0 where
  pub item : B
  pub is : slice_get ys place ≡ Some item
  pub relates : R x item

pub partner_at : {A B : Type 0} (R : A → B → Type 0) (xs : List A) (ys : List B) (place : ℕ) (x : A)
    → AllZip R xs ys → slice_get xs place ≡ Some x → HasPartner R x ys place
partner_at R [] [] place x h e = absurd (cc)
partner_at R [] (b ∷ ys) place x h e = absurd h
partner_at R (a ∷ xs) [] place x h e = absurd h
partner_at R (a ∷ xs) (b ∷ ys) zero x h e =
    let q : a ≡ x = cc in record { item = b; is = refl; relates = subst (λ (c : _). R c b) q h.0 }
partner_at R (a ∷ xs) (b ∷ ys) (suc place) x h e =
    let i = partner_at R xs ys place x h.1 e in record { item = i.item; is = i.is; relates = i.relates }

-- where a typed list has a value, its type
pub record HasType (ts : List IlType) (place : ℕ) (value : Value) : Type 0 where
  pub type : IlType
  pub is : slice_get ts place ≡ Some type
  pub typed : IsOf value type

pub type_at : (vs : List Value) (ts : List IlType) (place : ℕ) (value : Value) → AreOf vs ts
    → slice_get vs place ≡ Some value → HasType ts place value
type_at [] [] place value h e = absurd (cc)
type_at [] (t ∷ ts) place value h e = absurd h
type_at (v ∷ vs) [] place value h e = absurd h
type_at (v ∷ vs) (t ∷ ts) zero value h e =
    let q : v ≡ value = cc in record { type = t; is = refl; typed = subst (λ (w : Value). IsOf w t) q h.0 }
type_at (v ∷ vs) (t ∷ ts) (suc place) value h e =
    let i = type_at vs ts place value h.1 e in record { type = i.type; is = i.is; typed = i.typed }

-- ---- a value that is stored

pub record IsStored (slots : List Value) (slot : ℕ) (value : Value) (o : Option IlType) (to : List Value) : Type 0 where
  pub type : IlType
  pub is : o ≡ Some type
  pub typed : IsOf value type
  pub makes : slice_set slots slot value ≡ to

by_test : (slots : List Value) (slot : ℕ) (value : Value) (type : IlType) (after : List Value) (t : Bool)
    → is_of type value ≡ t → stored slots slot value (Some type) ≡ Some after
    → IsStored slots slot value (Some type) after
by_test slots slot value type after true e h =
    record { type = type; is = refl; typed = holds_test type value e; makes = cc }
by_test slots slot value type after false e h = absurd (cc)

pub stored_is : (slots : List Value) (slot : ℕ) (value : Value) (o : Option IlType) (after : List Value)
    → stored slots slot value o ≡ Some after → IsStored slots slot value o after
stored_is slots slot value None after h = absurd (cc)
stored_is slots slot value (Some type) after h = by_test slots slot value type after (is_of type value) refl h

pub is_stored : (slots : List Value) (slot : ℕ) (value : Value) (type : IlType) → IsOf value type
    → stored slots slot value (Some type) ≡ Some (slice_set slots slot value)
is_stored slots slot value type h = rw (test_holds type value h)

-- ---- a store to a variable

pub record IsWithSlot (shape : Shape) (s : Store) (slot : ℕ) (value : Value) (t : Store) : Type 0 where
  pub type : IlType
  pub of_slot : slice_get shape.slots slot ≡ Some type
  pub typed : IsOf value type
  pub is : record s { slots = slice_set s.slots slot value } ≡ t

pub with_slot_is : (shape : Shape) (s : Store) (slot : ℕ) (value : Value) (t : Store)
    → with_slot shape s slot value ≡ Some t → IsWithSlot shape s slot value t
with_slot_is shape s slot value t e =
    let m = map_made {B = Store} (λ (slots : List Value). record s { slots = slots })
    (stored s.slots slot value (slice_get shape.slots slot)) t e in
    let h = stored_is s.slots slot value (slice_get shape.slots slot) m.of m.is in
    record {
      type = h.type;
      of_slot = h.is;
      typed = h.typed;
      is = ap {B = Store} (λ (slots : List Value). record s { slots = slots }) h.makes ∙ m.makes;
    }

-- a value of the variable's type can be stored
pub is_with_slot : (shape : Shape) (s : Store) (slot : ℕ) (value : Value) (type : IlType)
    → slice_get shape.slots slot ≡ Some type → IsOf value type
    → with_slot shape s slot value ≡ Some (record s { slots = slice_set s.slots slot value })
is_with_slot shape s slot value type e h = rw (e, is_stored s.slots slot value type h)

pub with_slot_typed : (shape : Shape) (s : Store) (slot : ℕ) (value : Value) (t : Store) → IsStoreOf shape s
    → with_slot shape s slot value ≡ Some t → IsStoreOf shape t
with_slot_typed shape s slot value t h e =
    let w = with_slot_is shape s slot value t e in
    subst (IsStoreOf shape) w.is
    (record {
      slots = set_typed s.slots shape.slots slot value w.type h.slots w.of_slot w.typed;
      blocks = h.blocks;
      requests = h.requests;
    })

-- a variable has a value exactly where it is declared, and one of its type
pub slot_of_type : (shape : Shape) (s : Store) (slot : ℕ) (type : IlType) → IsStoreOf shape s
    → slice_get shape.slots slot ≡ Some type → HasValue s.slots slot type
slot_of_type shape s slot type h e = value_at s.slots shape.slots slot type h.slots e

pub slot_has_type : (shape : Shape) (s : Store) (slot : ℕ) (value : Value) → IsStoreOf shape s
    → slot_value s slot ≡ Some value → HasType shape.slots slot value
slot_has_type shape s slot value h e = type_at s.slots shape.slots slot value h.slots e

-- ---- ports

-- an instance stands exactly where its kind does
pub block_of_kind : (shape : Shape) (s : Store) (block : ℕ) (kind : BlockKind) → IsStoreOf shape s
    → slice_get shape.kinds block ≡ Some kind → HasItem (IsBlockOf shape.buses) s.blocks block kind
block_of_kind shape s block kind h e = item_at (IsBlockOf shape.buses) s.blocks shape.kinds block kind h.blocks e

-- a port has a value exactly where the kind has the port, and one of its type
pub port_of_type : (buses : ℕ) (kind : BlockKind) (b : Block) (port : ℕ) (type : IlType) → IsBlockOf buses b kind
    → port_type buses kind port ≡ Some type → HasValue b.ports port type
port_of_type buses kind b port type h e = value_at b.ports (types_of_ports buses kind) port type h e

pub port_has_type : (buses : ℕ) (kind : BlockKind) (b : Block) (port : ℕ) (value : Value) → IsBlockOf buses b kind
    → slice_get b.ports port ≡ Some value → HasType (types_of_ports buses kind) port value
port_has_type buses kind b port value h e = type_at b.ports (types_of_ports buses kind) port value h e

pub kind_of_block : (shape : Shape) (s : Store) (block : ℕ) (b : Block) → IsStoreOf shape s
    → slice_get s.blocks block ≡ Some b → HasPartner (IsBlockOf shape.buses) b shape.kinds block
kind_of_block shape s block b h e = partner_at (IsBlockOf shape.buses) s.blocks shape.kinds block b h.blocks e

-- the value of a port of an instance
pub record HasPortValue (s : Store) (block port : ℕ) (type : IlType) : Type 0 where
  pub value : Value
  pub is : port_value s block port ≡ Some value
  pub typed : IsOf value type

pub port_value_typed : (shape : Shape) (s : Store) (block port : ℕ) (type : IlType) → IsStoreOf shape s
    → type_of_port shape block port ≡ Some type → HasPortValue s block port type
port_value_typed shape s block port type h e =
    let k = and_then_made (λ kind. port_type shape.buses kind port) (slice_get shape.kinds block) type e in
    let b = block_of_kind shape s block k.of h k.is in
    let v = port_of_type shape.buses k.of b.item port type b.relates k.makes in
    record {
      value = v.value;
      is = ap (option_and_then (λ (b : Block). slice_get b.ports port)) b.is ∙ v.is;
      typed = v.typed;
    }

-- the type of a port of an instance
pub record HasPortType (shape : Shape) (block port : ℕ) (value : Value) : Type 0 where
  pub type : IlType
  pub is : type_of_port shape block port ≡ Some type
  pub typed : IsOf value type

pub port_value_has_type : (shape : Shape) (s : Store) (block port : ℕ) (value : Value) → IsStoreOf shape s
    → port_value s block port ≡ Some value → HasPortType shape block port value
port_value_has_type shape s block port value h e =
    let b = and_then_made (λ b. slice_get b.ports port) (slice_get s.blocks block) value e in
    let k = kind_of_block shape s block b.of h b.is in
    let t = port_has_type shape.buses k.item b.of port value k.relates b.makes in
    record {
      type = t.type;
      is = ap (option_and_then (λ (kind : BlockKind). port_type shape.buses kind port)) k.is ∙ t.is;
      typed = t.typed;
    }

-- ---- instances before their first call

pub at_first_are : (buses : ℕ) (kinds : List BlockKind) → AllZip (IsBlockOf buses) (blocks_at_first kinds) kinds
at_first_are buses [] = tt
at_first_are buses (kind ∷ more) = (at_first_typed buses kind, at_first_are buses more)

-- ---- a store to a port

-- the instance with another value at a port
abbrev pub with_value : Block → ℕ → Value → Block
with_value b port value = record b { ports = slice_set b.ports port value }

pub record IsWithPort (shape : Shape) (s : Store) (block port : ℕ) (value : Value) (t : Store) : Type 0 where
  pub instance : Block
  pub of_block : slice_get s.blocks block ≡ Some instance
  pub kind : BlockKind
  pub of_kind : slice_get shape.kinds block ≡ Some kind
  pub type : IlType
  pub of_input : input_type shape.buses kind port ≡ Some type
  pub typed : IsOf value type
  pub is : record s { blocks = slice_set s.blocks block (with_value instance port value) } ≡ t

pub with_port_is : (shape : Shape) (s : Store) (block port : ℕ) (value : Value) (t : Store)
    → with_port shape s block port value ≡ Some t → IsWithPort shape s block port value t
with_port_is shape s block port value t e =
    let m = map_made {B = Store} (λ (b : Block). record s { blocks = slice_set s.blocks block b })
    (option_and_then (λ b. with_input b port value (type_of_input shape block port)) (slice_get s.blocks block))
    t e in
    let b = and_then_made (λ (b : Block). with_input b port value (type_of_input shape block port))
    (slice_get s.blocks block) m.of m.is in
    let p = map_made {B = Block} (λ (ports : List Value). record b.of { ports = ports })
    (stored b.of.ports port value (type_of_input shape block port)) m.of b.makes in
    let h = stored_is b.of.ports port value (type_of_input shape block port) p.of p.is in
    let k = and_then_made (λ kind. input_type shape.buses kind port) (slice_get shape.kinds block) h.type h.is in
    let with_ports : List Value → Block = λ ports. record b.of { ports = ports } in
    let with_block : Block → Store = λ b. record s { blocks = slice_set s.blocks block b } in
    record {
      instance = b.of;
      of_block = b.is;
      kind = k.of;
      of_kind = k.is;
      type = h.type;
      of_input = k.makes;
      typed = h.typed;
      is = ap with_block (ap with_ports h.makes ∙ p.makes) ∙ m.makes;
    }

pub with_port_typed : (shape : Shape) (s : Store) (block port : ℕ) (value : Value) (t : Store) → IsStoreOf shape s
    → with_port shape s block port value ≡ Some t → IsStoreOf shape t
with_port_typed shape s block port value t h e =
    let w = with_port_is shape s block port value t e in
    let i = block_of_kind shape s block w.kind h w.of_kind in
    let q : i.item ≡ w.instance = let a = i.is in let b = w.of_block in cc in
    let typed : AreOf w.instance.ports (types_of_ports shape.buses w.kind) =
    subst (λ (b : Block). IsBlockOf shape.buses b w.kind) q i.relates in
    let p = input_is_port shape.buses w.kind port w.type w.of_input in
    subst (IsStoreOf shape) w.is
    (record {
      slots = h.slots;
      blocks = set_zip (IsBlockOf shape.buses) s.blocks shape.kinds block
          (with_value w.instance port value) w.kind h.blocks w.of_kind
          (set_typed w.instance.ports (types_of_ports shape.buses w.kind) port value w.type typed p w.typed);
      requests = h.requests;
    })

-- a value of the input's type can be stored
pub is_with_port : (shape : Shape) (s : Store) (block port : ℕ) (value : Value) (b : Block) (type : IlType)
    → slice_get s.blocks block ≡ Some b → type_of_input shape block port ≡ Some type → IsOf value type
    → with_port shape s block port value
    ≡ Some (record s { blocks = slice_set s.blocks block (with_value b port value) })
is_with_port shape s block port value b type e f h = rw (e, f, is_stored b.ports port value type h)

pub input_is_stored : (shape : Shape) (s : Store) (block port : ℕ) (value : Value) (type : IlType) → IsStoreOf shape s
    → type_of_input shape block port ≡ Some type → IsOf value type
    → (t : Store) × (with_port shape s block port value ≡ Some t)
input_is_stored shape s block port value type h e p =
    let k = and_then_made (λ kind. input_type shape.buses kind port) (slice_get shape.kinds block) type e in
    let b = block_of_kind shape s block k.of h k.is in (
      record s { blocks = slice_set s.blocks block (with_value b.item port value) },
      is_with_port shape s block port value b.item type b.is e p,
    )

-- ---- a call

pub record IsCalled (shape : Shape) (s : Store) (block : ℕ) (t : Store) : Type 0 where
  pub kind : BlockKind
  pub of_kind : slice_get shape.kinds block ≡ Some kind
  pub instance : Block
  pub of_block : slice_get s.blocks block ≡ Some instance
  pub is : after_block kind s block instance ≡ t

pub called_is : (shape : Shape) (s : Store) (block : ℕ) (t : Store) → called shape s block ≡ Some t
    → IsCalled shape s block t
called_is shape s block t e =
    let k = and_then_made (λ kind. option_map (after_block kind s block) (slice_get s.blocks block))
    (slice_get shape.kinds block) t e in
    let b = map_made (after_block k.of s block) (slice_get s.blocks block) t k.makes in
    record { kind = k.of; of_kind = k.is; instance = b.of; of_block = b.is; is = b.makes }

-- a call is there exactly where the kind is
pub is_called : (shape : Shape) (s : Store) (block : ℕ) (kind : BlockKind) (b : Block)
    → slice_get shape.kinds block ≡ Some kind → slice_get s.blocks block ≡ Some b
    → called shape s block ≡ Some (after_block kind s block b)
is_called shape s block kind b e f = rw (e, f)

pub kind_is_called : (shape : Shape) (s : Store) (block : ℕ) (kind : BlockKind) → IsStoreOf shape s
    → slice_get shape.kinds block ≡ Some kind → (t : Store) × (called shape s block ≡ Some t)
kind_is_called shape s block kind h e =
    let b = block_of_kind shape s block kind h e in
    (after_block kind s block b.item, is_called shape s block kind b.item e b.is)

all_listed : (P : Request → Type 0) (o : Option Request) → IfSome o P → All P (listed o)
all_listed P None h = All-nil P
all_listed P (Some r) h = All-cons P r [] h (All-nil P)

pub called_typed : (shape : Shape) (s : Store) (block : ℕ) (t : Store) → 1 ≤ shape.buses → IsStoreOf shape s
    → called shape s block ≡ Some t → IsStoreOf shape t
called_typed shape s block t le h e =
    let w = called_is shape s block t e in
    let i = block_of_kind shape s block w.kind h w.of_kind in
    let q : i.item ≡ w.instance = let a = i.is in let b = w.of_block in cc in
    let typed = subst (λ (b : Block). IsBlockOf shape.buses b w.kind) q i.relates in
    let P : Request → Type 0 = λ request. request.bus < shape.buses in
    subst (IsStoreOf shape) w.is
    (record {
      slots = h.slots;
      blocks = set_zip (IsBlockOf shape.buses) s.blocks shape.kinds block (after_call w.kind s.moment w.instance) w.kind
          h.blocks w.of_kind (call_typed shape.buses w.kind s.moment w.instance typed);
      requests = All-append P s.requests (listed (requested w.kind w.instance)) h.requests
          (all_listed P (requested w.kind w.instance) (requested_bus shape.buses w.kind w.instance le typed));
    })

-- ---- what stays

-- the moment, and how many variables and instances there are
pub record KeepsSize (s t : Store) : Type 0 where
  pub moment : t.moment ≡ s.moment
  pub slots : length t.slots ≡ length s.slots
  pub blocks : length t.blocks ≡ length s.blocks

pub with_slot_size : (shape : Shape) (s : Store) (slot : ℕ) (value : Value) (t : Store)
    → with_slot shape s slot value ≡ Some t → KeepsSize s t
with_slot_size shape s slot value t e =
    subst (KeepsSize s) (with_slot_is shape s slot value t e).is
    (record { moment = refl; slots = length-set s.slots slot value; blocks = refl })

pub with_slot_requests : (shape : Shape) (s : Store) (slot : ℕ) (value : Value) (t : Store)
    → with_slot shape s slot value ≡ Some t → t.requests ≡ s.requests
with_slot_requests shape s slot value t e =
    subst (λ (t : Store). t.requests ≡ s.requests) (with_slot_is shape s slot value t e).is refl

pub with_port_size : (shape : Shape) (s : Store) (block port : ℕ) (value : Value) (t : Store)
    → with_port shape s block port value ≡ Some t → KeepsSize s t
with_port_size shape s block port value t e =
    subst (KeepsSize s) (with_port_is shape s block port value t e).is
    (record { moment = refl; slots = refl; blocks = length-set s.blocks block _ })

pub with_port_requests : (shape : Shape) (s : Store) (block port : ℕ) (value : Value) (t : Store)
    → with_port shape s block port value ≡ Some t → t.requests ≡ s.requests
with_port_requests shape s block port value t e =
    subst (λ (t : Store). t.requests ≡ s.requests) (with_port_is shape s block port value t e).is refl

pub called_size : (shape : Shape) (s : Store) (block : ℕ) (t : Store) → called shape s block ≡ Some t → KeepsSize s t
called_size shape s block t e =
    subst (KeepsSize s) (called_is shape s block t e).is
    (record { moment = refl; slots = refl; blocks = length-set s.blocks block _ })

-- ---- requests of a call

one_listed : (o : Option Request) → length (listed o) ≤ 1
one_listed None = omega arith
one_listed (Some r) = omega arith

pub called_requests : (shape : Shape) (s : Store) (block : ℕ) (t : Store) → called shape s block ≡ Some t
    → (length s.requests ≤ length t.requests) × (length t.requests ≤ length s.requests + 1)
called_requests shape s block t e =
    let w = called_is shape s block t e in
    let l = length-append s.requests (listed (requested w.kind w.instance)) in
    let o = one_listed (requested w.kind w.instance) in
    subst (λ (t : Store). (length s.requests ≤ length t.requests) × (length t.requests ≤ length s.requests + 1)) w.is
    (omega (arith, l, o), omega (arith, l, o))

pub called_no_request : (shape : Shape) (s : Store) (block : ℕ) (kind : BlockKind) (t : Store)
    → slice_get shape.kinds block ≡ Some kind → makes_requests kind ≡ false → called shape s block ≡ Some t
    → t.requests ≡ s.requests
called_no_request shape s block kind t k n e =
    let w = called_is shape s block t e in
    let q : kind ≡ w.kind = let a = w.of_kind in cc in
    let m : makes_requests w.kind ≡ false = subst (λ (k : BlockKind). makes_requests k ≡ false) q n in
    subst (λ (t : Store). t.requests ≡ s.requests) w.is
    (ap (λ o. s.requests ++ listed o) (no_request w.kind w.instance m) ∙ append-nil s.requests)
