-- An input is a port; more buses take in the ports of fewer; some kinds of blocks make no requests.
use Rattle.std.proofs.Common.{◌≡◌, ℕ, ◌-◌, ◌≤◌, List, [], ◌∷◌, map, Bool, true, false, Option, Some, None}
use Rattle.std.proofs.Common.{refl, sym, ap, subst, arith, ◌∙◌, pos, cond}
use Rattle.std.proofs.lemmas.Int.{ints}
use Rattle.std.specs.Prelude.{option_map, option_and_then, slice_get}
use Rattle.std.proofs.lemmas.Option.{slice_get-map}
use Rattle.iltypes.specs.declared.value.IlType.{IlType}
use Rattle.iltypes.specs.declared.value.Value.{Value}
use Rattle.iltypes.specs.Values.{IsOf, AreOf}
use Rattle.gearcmd.specs.declared.requests.Request.{Request}
use Rattle.ilblocks.specs.declared.kind.BlockKind.{BlockKind}
use Rattle.ilblocks.specs.declared.kind.BlockKind.TheVariants as kinds
use Rattle.ilblocks.specs.declared.port.Direction.{Direction}
use Rattle.ilblocks.specs.declared.port.Direction.TheVariants.{Input, Output}
use Rattle.ilblocks.specs.declared.port.Port.{Port}
use Rattle.ilblocks.specs.declared.port.PortValues.{PortValues}
use Rattle.ilblocks.specs.declared.port.PortValues.TheVariants.{Truth, Int, UpTo, Bus}
use Rattle.ilblocks.specs.Calls.{Block, IsBlockOf, requested, rises}
use Rattle.ilblocks.specs.Ports.{ports_of, port_type, input_type, type_if_input, type_of}
use Rattle.ilblocks.specs.Ports.{makes_requests}
use Rattle.ilblocks.proofs.Ports.{value_within, number_in}

-- ---- inputs

if_input : (buses : ℕ) (direction : Direction) (port : PortValues) (type : IlType)
    → type_if_input buses direction port ≡ Some type → type_of buses port ≡ type
if_input buses Input port type e = cc
if_input buses Output port type e = absurd (cc)

input_port : (buses : ℕ) (o : Option Port) (type : IlType)
    → option_and_then (λ p. type_if_input buses p.direction p.values) o ≡ Some type
    → option_map (λ p. type_of buses p.values) o ≡ Some type
input_port buses None type e = absurd (cc)
input_port buses (Some p) type e = ap Some (if_input buses p.direction p.values type e)

-- an input has the type of the port
pub input_is_port : (buses : ℕ) (kind : BlockKind) (port : ℕ) (type : IlType) → input_type buses kind port ≡ Some type
    → port_type buses kind port ≡ Some type
input_is_port buses kind port type e =
    slice_get-map (λ (p : Port). type_of buses p.values) (ports_of kind) port
    ∙ input_port buses (slice_get (ports_of kind) port) type e

-- ---- more buses

wider_bus : (fewer more : ℕ) (value : Value) → fewer ≤ more → IsOf value (type_of fewer Bus)
    → IsOf value (type_of more Bus)
wider_bus fewer more value le h =
    let w = value_within value (pos 0) (pos (fewer - 1)) (omega (arith, ints)) h in
    subst (λ (v : Value). IsOf v (type_of more Bus)) (sym w.is)
    (number_in (pos 0) (pos (more - 1)) w.number (omega (arith, ints)) w.low (omega (arith, ints, w.high)))

wider_port : (fewer more : ℕ) (value : Value) (port : PortValues) → fewer ≤ more → IsOf value (type_of fewer port)
    → IsOf value (type_of more port)
wider_port fewer more value Truth le h = h
wider_port fewer more value Int le h = h
wider_port fewer more value (UpTo greatest) le h = h
wider_port fewer more value Bus le h = wider_bus fewer more value le h

wider_ports : (fewer more : ℕ) (vs : List Value) (ports : List Port) → fewer ≤ more
    → AreOf vs (map (λ port. type_of fewer port.values) ports) → AreOf vs (map (λ port. type_of more port.values) ports)
wider_ports fewer more [] [] le h = tt
wider_ports fewer more [] (port ∷ ports) le h = absurd h
wider_ports fewer more (v ∷ vs) [] le h = absurd h
wider_ports fewer more (v ∷ vs) (port ∷ ports) le h =
    (wider_port fewer more v port.values le h.0, wider_ports fewer more vs ports le h.1)

-- a block on fewer buses is one on more
pub on_more_buses : (fewer more : ℕ) (kind : BlockKind) (b : Block) → fewer ≤ more → IsBlockOf fewer b kind
    → IsBlockOf more b kind
on_more_buses fewer more kind b le h = wider_ports fewer more b.ports (ports_of kind) le h

-- ---- kinds that make no requests

none_asked : (t : Bool) → cond {A = Option Request} t None None ≡ None
none_asked true = refl
none_asked false = refl

pub no_request : (kind : BlockKind) (b : Block) → makes_requests kind ≡ false → requested kind b ≡ None
no_request kinds.RTrig b e = none_asked (rises b)
no_request kinds.Ctu b e = none_asked (rises b)
no_request kinds.Ton b e = none_asked (rises b)
no_request kinds.GearLevel b e = absurd (cc)
no_request kinds.GearDo b e = absurd (cc)
no_request kinds.GearSet b e = absurd (cc)
no_request kinds.GearPair b e = absurd (cc)
no_request kinds.GearAsk b e = absurd (cc)
no_request kinds.GearRead b e = absurd (cc)
no_request kinds.DevDo b e = absurd (cc)
no_request kinds.DevScheme b e = absurd (cc)
no_request kinds.DevAsk b e = absurd (cc)
