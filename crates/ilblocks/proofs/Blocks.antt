-- The values of a block's ports are in their types, and a call keeps them there.
use Rattle.std.proofs.Common.{◌≡◌, ℕ, zero, suc, ◌+◌, ◌-◌, ◌≤◌, ◌<◌, min, length, ℤ, pos, negsuc, ◌+ℤ◌, ◌≤ℤ◌, ◌<ℤ◌}
use Rattle.std.proofs.Common.{List, [], ◌∷◌, map, Bool, true, false, T, cond, Option, Some, None, IfSome}
use Rattle.std.proofs.Common.{refl, sym, ap, subst, arith}
use Rattle.std.specs.Prelude.{◌&&◌, int_lt, int_le, ◌==◌, option_map, slice_get, slice_set}
use Rattle.std.proofs.lemmas.Int.{ints}
use Rattle.iltypes.specs.declared.value.IlType.{IlType}
use Rattle.iltypes.specs.declared.value.IlType.TheVariants as types
use Rattle.iltypes.specs.declared.value.Value.{Value}
use Rattle.iltypes.specs.declared.value.Value.TheVariants as values
use Rattle.iltypes.specs.Values.{IsOf, AreOf}
use Rattle.gearcmd.specs.declared.requests.Command.{Command}
use Rattle.gearcmd.specs.declared.requests.Request.{Request}
use Rattle.ilblocks.specs.declared.kind.BlockKind.{BlockKind}
use Rattle.ilblocks.specs.declared.kind.BlockKind.TheVariants as kinds
use Rattle.ilblocks.specs.declared.port.Port.{Port}
use Rattle.ilblocks.specs.declared.port.PortValues.{PortValues}
use Rattle.ilblocks.specs.declared.port.PortValues.TheVariants.{Truth, Int, UpTo, Bus}
use Rattle.ilblocks.specs.Ports.{ports_of, types_of_ports, port_type, numbers, type_of, first_of}
use Rattle.ilblocks.specs.Calls.{Block, at_first, IsBlockOf, number_or_zero, natural_of, number, natural, truth}
use Rattle.ilblocks.specs.Calls.{rises, count, elapsed, start_of, ports_after, after_call, command_of, requested}
use Rattle.ilblocks.proofs.Ports.{value_within, number_in}

-- ---- lists of typed values

pub as_long : (vs : List Value) (ts : List IlType) → AreOf vs ts → length vs ≡ length ts
as_long [] [] h = refl
as_long [] (t ∷ ts) h = absurd h
as_long (v ∷ vs) [] h = absurd h
as_long (v ∷ vs) (t ∷ ts) h = ap suc (as_long vs ts h.1)

pub set_typed : (vs : List Value) (ts : List IlType) (place : ℕ) (value : Value) (type : IlType) → AreOf vs ts
    → slice_get ts place ≡ Some type → IsOf value type → AreOf (slice_set vs place value) ts
set_typed [] [] place value type a e h = tt
set_typed [] (t ∷ ts) place value type a e h = absurd a
set_typed (v ∷ vs) [] place value type a e h = absurd a
set_typed (v ∷ vs) (t ∷ ts) zero value type a e h = let q : type ≡ t = cc in (subst (IsOf value) q h, a.1)
set_typed (v ∷ vs) (t ∷ ts) (suc place) value type a e h = (a.0, set_typed vs ts place value type a.1 e h)

-- the value of a type at a place
pub record HasValue (vs : List Value) (place : ℕ) (type : IlType) : Type 0 where
  pub value : Value
  pub is : slice_get vs place ≡ Some value
  pub typed : IsOf value type

pub value_at : (vs : List Value) (ts : List IlType) (place : ℕ) (type : IlType) → AreOf vs ts
    → slice_get ts place ≡ Some type → HasValue vs place type
value_at [] [] place type a e = absurd (cc)
value_at [] (t ∷ ts) place type a e = absurd a
value_at (v ∷ vs) [] place type a e = absurd a
value_at (v ∷ vs) (t ∷ ts) zero type a e =
    let q : t ≡ type = cc in record { value = v; is = refl; typed = subst (IsOf v) q a.0 }
value_at (v ∷ vs) (t ∷ ts) (suc place) type a e =
    let h = value_at vs ts place type a.1 e in record { value = h.value; is = h.is; typed = h.typed }

-- ---- ports

pub ports_of_kind : (buses : ℕ) (kind k : BlockKind) (b : Block) → kind ≡ k → IsBlockOf buses b kind
    → length b.ports ≡ length (types_of_ports buses k)
ports_of_kind buses kind k b e h =
    as_long b.ports (types_of_ports buses k) (subst (λ (k : BlockKind). IsBlockOf buses b k) e h)

-- a port of numbers has one of them
pub number_within : (buses : ℕ) (kind : BlockKind) (b : Block) (port : ℕ) (low high : ℤ) → low ≤ℤ high
    → IsBlockOf buses b kind → port_type buses kind port ≡ Some (numbers low high)
    → (low ≤ℤ number b port) × (number b port ≤ℤ high)
number_within buses kind b port low high o h e =
    let a = value_at b.ports (types_of_ports buses kind) port (numbers low high) h e in
    let w = value_within a.value low high o a.typed in
    let f : slice_get b.ports port ≡ Some (values.Int w.number) = cc in
    let q : w.number ≡ number b port = ap number_or_zero (sym f) in
    (subst (λ (n : ℤ). low ≤ℤ n) q w.low, subst (λ (n : ℤ). n ≤ℤ high) q w.high)

natural_most : (n : ℤ) (most : ℕ) → n ≤ℤ pos most → natural_of n ≤ most
natural_most (pos n) most h = omega (arith, ints)
natural_most (negsuc n) most h = omega arith

-- a port of the numbers up to `most` has one of them
pub natural_within : (buses : ℕ) (kind : BlockKind) (b : Block) (port most : ℕ) → IsBlockOf buses b kind
    → port_type buses kind port ≡ Some (numbers (pos 0) (pos most)) → natural b port < most + 1
natural_within buses kind b port most h e =
    let w = number_within buses kind b port (pos 0) (pos most) (omega (arith, ints)) h e in
    let n = natural_most (number b port) most w.1 in omega arith

-- ---- before the first call

zero_in : (most : ℕ) → IsOf (values.Int (pos 0)) (numbers (pos 0) (pos most))
zero_in most = number_in (pos 0) (pos most) (pos 0) (omega (arith, ints)) (omega (arith, ints)) (omega (arith, ints))

first_typed : (buses : ℕ) (port : PortValues) → IsOf (first_of port) (type_of buses port)
first_typed buses Truth = tt
first_typed buses Int = record { low = omega (arith, ints); high = omega (arith, ints) }
first_typed buses (UpTo greatest) = zero_in greatest
first_typed buses Bus = zero_in (buses - 1)

firsts_typed : (buses : ℕ) (ports : List Port)
    → AreOf (map (λ port. first_of port.values) ports) (map (λ port. type_of buses port.values) ports)
firsts_typed buses [] = tt
firsts_typed buses (port ∷ more) = (first_typed buses port.values, firsts_typed buses more)

pub at_first_typed : (buses : ℕ) (kind : BlockKind) → IsBlockOf buses (at_first kind) kind
at_first_typed buses kind = firsts_typed buses (ports_of kind)

-- ---- a call

count_within : (clears counts : Bool) (n : ℤ) → pos 0 ≤ℤ n → n ≤ℤ pos 32767
    → (pos 0 ≤ℤ cond clears (pos 0) (cond (counts && int_lt n (pos 32767)) (n +ℤ pos 1) n))
    × (cond clears (pos 0) (cond (counts && int_lt n (pos 32767)) (n +ℤ pos 1) n) ≤ℤ pos 32767)
count_within true counts n p q = (omega (arith, ints), omega (arith, ints))
count_within false false n p q = (p, q)
count_within false true n p q = by_test (int_lt n (pos 32767)) refl
  where
    by_test : (t : Bool) → int_lt n (pos 32767) ≡ t
        → (pos 0 ≤ℤ cond t (n +ℤ pos 1) n) × (cond t (n +ℤ pos 1) n ≤ℤ pos 32767)
    by_test true e =
        let l : n <ℤ pos 32767 = record { lt = subst T (sym e) tt } in (omega (arith, ints, l), omega (arith, ints, l))
    by_test false e = (p, q)

elapsed_within : (t : Bool) (a most : ℕ) → cond t (min a most) 0 ≤ most
elapsed_within true a most = omega arith
elapsed_within false a most = omega arith

-- ports stay in their types
pub ports_typed : (buses : ℕ) (kind : BlockKind) (moment : ℕ) (b : Block) → IsBlockOf buses b kind
    → AreOf (ports_after kind moment b) (types_of_ports buses kind)
ports_typed buses kinds.RTrig moment b h =
    set_typed b.ports (types_of_ports buses kinds.RTrig) 1 (values.Bool (rises b)) types.Bool h refl tt
ports_typed buses kinds.Ctu moment b h =
    let w = number_within buses kinds.Ctu b 4 (pos 0) (pos 32767) (omega (arith, ints)) h refl in
    let n = count_within (truth b 1) (rises b) (number b 4) w.0 w.1 in
    let ts = types_of_ports buses kinds.Ctu in
    set_typed (slice_set b.ports 3 (values.Bool (int_le (number b 2) (count b)))) ts 4 (values.Int (count b))
    (numbers (pos 0) (pos 32767))
    (set_typed b.ports ts 3 (values.Bool (int_le (number b 2) (count b))) types.Bool h refl tt) refl
    (record { low = n.0; high = n.1 })
ports_typed buses kinds.Ton moment b h =
    let w = natural_within buses kinds.Ton b 1 4294967295 h refl in
    let n = elapsed_within (truth b 0) (moment - start_of moment b) (natural b 1) in
    let q = values.Bool (truth b 0 && elapsed moment b == natural b 1) in
    let ts = types_of_ports buses kinds.Ton in
    set_typed (slice_set b.ports 2 q) ts 3 (values.Int (pos (elapsed moment b))) (numbers (pos 0) (pos 4294967295))
    (set_typed b.ports ts 2 q types.Bool h refl tt) refl
    (record { low = omega (arith, ints); high = omega (arith, ints, n, w) })
ports_typed buses kinds.GearLevel moment b h = h
ports_typed buses kinds.GearDo moment b h = h
ports_typed buses kinds.GearSet moment b h = h
ports_typed buses kinds.GearPair moment b h = h
ports_typed buses kinds.GearAsk moment b h = h
ports_typed buses kinds.GearRead moment b h = h
ports_typed buses kinds.DevDo moment b h = h
ports_typed buses kinds.DevScheme moment b h = h
ports_typed buses kinds.DevAsk moment b h = h

pub call_typed : (buses : ℕ) (kind : BlockKind) (moment : ℕ) (b : Block) → IsBlockOf buses b kind
    → IsBlockOf buses (after_call kind moment b) kind
call_typed buses kind moment b h = ports_typed buses kind moment b h

-- ---- requests

bus_below : (buses : ℕ) (kind : BlockKind) (b : Block) → 1 ≤ buses → IsBlockOf buses b kind
    → port_type buses kind 1 ≡ Some (numbers (pos 0) (pos (buses - 1))) → natural b 1 < buses
bus_below buses kind b le h e = let n = natural_within buses kind b 1 (buses - 1) h e in omega arith

-- where a block asks for something, its port BUS is the number of a bus
pub asked_bus : (buses : ℕ) (kind : BlockKind) (b : Block) (c : Command) → 1 ≤ buses → IsBlockOf buses b kind
    → command_of kind b ≡ Some c → natural b 1 < buses
asked_bus buses kinds.RTrig b c le h e = absurd (cc)
asked_bus buses kinds.Ctu b c le h e = absurd (cc)
asked_bus buses kinds.Ton b c le h e = absurd (cc)
asked_bus buses kinds.GearLevel b c le h e = bus_below buses kinds.GearLevel b le h refl
asked_bus buses kinds.GearDo b c le h e = bus_below buses kinds.GearDo b le h refl
asked_bus buses kinds.GearSet b c le h e = bus_below buses kinds.GearSet b le h refl
asked_bus buses kinds.GearPair b c le h e = bus_below buses kinds.GearPair b le h refl
asked_bus buses kinds.GearAsk b c le h e = bus_below buses kinds.GearAsk b le h refl
asked_bus buses kinds.GearRead b c le h e = bus_below buses kinds.GearRead b le h refl
asked_bus buses kinds.DevDo b c le h e = bus_below buses kinds.DevDo b le h refl
asked_bus buses kinds.DevScheme b c le h e = bus_below buses kinds.DevScheme b le h refl
asked_bus buses kinds.DevAsk b c le h e = bus_below buses kinds.DevAsk b le h refl

bus_of : (t : Bool) (o : Option Command) (bus buses : ℕ) → ((c : Command) → o ≡ Some c → bus < buses)
    → IfSome (cond t (option_map (λ c. record { bus = bus; command = c }) o) None) (λ (r : Request). r.bus < buses)
bus_of true (Some c) bus buses h = h c refl
bus_of true None bus buses h = tt
bus_of false o bus buses h = tt

pub requested_bus : (buses : ℕ) (kind : BlockKind) (b : Block) → 1 ≤ buses → IsBlockOf buses b kind
    → IfSome (requested kind b) (λ r. r.bus < buses)
requested_bus buses kind b le h =
    bus_of (rises b) (command_of kind b) (natural b 1) buses (λ c e. asked_bus buses kind b c le h e)
