-- The ports of function blocks (IEC 61131-3, 2.5.2.3; profile for request blocks).
use Rattle.std.specs.Prelude.{ℕ, ℤ, pos, negsuc, ◌-◌, ◌≤ℤ◌, int_le, List, [], ◌∷◌, map, Bool, true, false, T}
use Rattle.std.specs.Prelude.{Option, Some, None, slice_get, codes, option_and_then}
use Rattle.std.specs.List.{position}
use Rattle.std.specs.Str.{str_eq_ignore_ascii_case}
use Rattle.iltypes.specs.declared.value.IlType.{IlType}
use Rattle.iltypes.specs.declared.value.IlType.TheVariants as types
use Rattle.iltypes.specs.declared.value.Value.{Value}
use Rattle.iltypes.specs.declared.value.Value.TheVariants as values
use Rattle.ilblocks.specs.declared.kind.BlockKind.{BlockKind}
use Rattle.ilblocks.specs.declared.kind.BlockKind.TheVariants as kinds
use Rattle.ilblocks.specs.declared.port.Direction.{Direction}
use Rattle.ilblocks.specs.declared.port.Direction.TheVariants.{Input, Output}
use Rattle.ilblocks.specs.declared.port.Port.{Port}
use Rattle.ilblocks.specs.declared.port.PortName.{PortName}
use Rattle.ilblocks.specs.declared.port.PortName.TheVariants as names
use Rattle.ilblocks.specs.declared.port.PortValues.{PortValues}
use Rattle.ilblocks.specs.declared.port.PortValues.TheVariants.{Truth, Int, UpTo, Bus}

-- a port that programs store to, and one that the block stores to
abbrev pub input : PortName → PortValues → Port
input name values = record { name = name; direction = Input; values = values }

abbrev pub output : PortName → PortValues → Port
output name values = record { name = name; direction = Output; values = values }

-- the ports of a kind, in the order of their numbers: R_TRIG, CTU and TON (IEC 61131-3, tables 35 to 37), then the
-- request blocks (profile); a time is in milliseconds, ADR the number of an address, CMD the index of a command
abbrev pub ports_of : BlockKind → List Port
ports_of kinds.RTrig =
    input names.Clk Truth
    ∷ output names.Q Truth
    ∷ []
ports_of kinds.Ctu =
    input names.Cu Truth
    ∷ input names.R Truth
    ∷ input names.Pv Int
    ∷ output names.Q Truth
    ∷ output names.Cv (UpTo 32767)
    ∷ []
ports_of kinds.Ton =
    input names.In Truth
    ∷ input names.Pt (UpTo 4294967295)
    ∷ output names.Q Truth
    ∷ output names.Et (UpTo 4294967295)
    ∷ []
ports_of kinds.GearLevel =
    input names.Req Truth
    ∷ input names.Bus Bus
    ∷ input names.Adr (UpTo 80)
    ∷ input names.Level (UpTo 255)
    ∷ []
ports_of kinds.GearDo =
    input names.Req Truth
    ∷ input names.Bus Bus
    ∷ input names.Adr (UpTo 80)
    ∷ input names.Cmd (UpTo 25)
    ∷ []
ports_of kinds.GearSet =
    input names.Req Truth
    ∷ input names.Bus Bus
    ∷ input names.Adr (UpTo 80)
    ∷ input names.Cmd (UpTo 22)
    ∷ input names.Data (UpTo 255)
    ∷ []
ports_of kinds.GearPair =
    input names.Req Truth
    ∷ input names.Bus Bus
    ∷ input names.Adr (UpTo 80)
    ∷ input names.Cmd (UpTo 49)
    ∷ []
ports_of kinds.GearAsk =
    input names.Req Truth
    ∷ input names.Bus Bus
    ∷ input names.Adr (UpTo 63)
    ∷ input names.Cmd (UpTo 42)
    ∷ []
ports_of kinds.GearRead =
    input names.Req Truth
    ∷ input names.Bus Bus
    ∷ input names.Adr (UpTo 63)
    ∷ input names.Bank (UpTo 255)
    ∷ input names.Offset (UpTo 255)
    ∷ []
ports_of kinds.DevDo =
    input names.Req Truth
    ∷ input names.Bus Bus
    ∷ input names.Adr (UpTo 63)
    ∷ input names.Inst (UpTo 31)
    ∷ input names.Cmd (UpTo 1)
    ∷ []
ports_of kinds.DevScheme =
    input names.Req Truth
    ∷ input names.Bus Bus
    ∷ input names.Adr (UpTo 63)
    ∷ input names.Inst (UpTo 31)
    ∷ input names.Scheme (UpTo 4)
    ∷ []
ports_of kinds.DevAsk =
    input names.Req Truth
    ∷ input names.Bus Bus
    ∷ input names.Adr (UpTo 63)
    ∷ input names.Inst (UpTo 31)
    ∷ input names.Cmd (UpTo 2)
    ∷ []

-- whether a call may make a request
abbrev pub makes_requests : BlockKind → Bool
makes_requests kinds.RTrig = false
makes_requests kinds.Ctu = false
makes_requests kinds.Ton = false
makes_requests kinds.GearLevel = true
makes_requests kinds.GearDo = true
makes_requests kinds.GearSet = true
makes_requests kinds.GearPair = true
makes_requests kinds.GearAsk = true
makes_requests kinds.GearRead = true
makes_requests kinds.DevDo = true
makes_requests kinds.DevScheme = true
makes_requests kinds.DevAsk = true

-- whether an instance keeps the moment at which its first input became TRUE
abbrev pub keeps_start : BlockKind → Bool
keeps_start kinds.RTrig = false
keeps_start kinds.Ctu = false
keeps_start kinds.Ton = true
keeps_start kinds.GearLevel = false
keeps_start kinds.GearDo = false
keeps_start kinds.GearSet = false
keeps_start kinds.GearPair = false
keeps_start kinds.GearAsk = false
keeps_start kinds.GearRead = false
keeps_start kinds.DevDo = false
keeps_start kinds.DevScheme = false
keeps_start kinds.DevAsk = false

-- a range is ordered, so there is one where a test shows that
abbrev pub range_if : (low high : ℤ) (is : Bool) → (T is → low ≤ℤ high) → IlType
range_if low high true ordered = types.Int (record { lo = low; hi = high; ordered = ordered tt })
range_if low high false ordered = types.Bool

-- the whole numbers from low to high
abbrev pub numbers : ℤ → ℤ → IlType
numbers low high = range_if low high (int_le low high) (λ is. record { le = is })

-- the type of a port, on so many buses
abbrev pub type_of : ℕ → PortValues → IlType
type_of buses Truth = types.Bool
type_of buses Int = numbers (negsuc 32767) (pos 32767)
type_of buses (UpTo greatest) = numbers (pos 0) (pos greatest)
type_of buses Bus = numbers (pos 0) (pos (buses - 1))

abbrev pub types_of_ports : ℕ → BlockKind → List IlType
types_of_ports buses kind = map (λ port. type_of buses port.values) (ports_of kind)

-- the type of the port of this number, where the kind has it
abbrev pub port_type : ℕ → BlockKind → ℕ → Option IlType
port_type buses kind port = slice_get (types_of_ports buses kind) port

-- the type of a port that programs store to
abbrev pub type_if_input : ℕ → Direction → PortValues → Option IlType
type_if_input buses Input port = Some (type_of buses port)
type_if_input buses Output port = None

-- the type of the input of this number; none where the kind has none, or an output there
abbrev pub input_type : ℕ → BlockKind → ℕ → Option IlType
input_type buses kind port =
    option_and_then (λ p. type_if_input buses p.direction p.values) (slice_get (ports_of kind) port)

-- how a port's name is written
abbrev pub spelling : PortName → List ℕ
spelling names.Clk = codes "CLK"
spelling names.Q = codes "Q"
spelling names.Cu = codes "CU"
spelling names.R = codes "R"
spelling names.Pv = codes "PV"
spelling names.Cv = codes "CV"
spelling names.In = codes "IN"
spelling names.Pt = codes "PT"
spelling names.Et = codes "ET"
spelling names.Req = codes "REQ"
spelling names.Bus = codes "BUS"
spelling names.Adr = codes "ADR"
spelling names.Level = codes "LEVEL"
spelling names.Cmd = codes "CMD"
spelling names.Data = codes "DATA"
spelling names.Bank = codes "BANK"
spelling names.Offset = codes "OFFSET"
spelling names.Inst = codes "INST"
spelling names.Scheme = codes "SCHEME"

-- the name is that of the port, in any letter case (IEC 61131-3, 2.1.2)
abbrev pub is_named : List ℕ → Port → Bool
is_named name port = str_eq_ignore_ascii_case (spelling port.name) name

-- the number of the first port with the name
abbrev pub port_named : BlockKind → List ℕ → Option ℕ
port_named kind name = position (is_named name) (ports_of kind)

-- each port has FALSE or 0 at first
abbrev pub first_of : PortValues → Value
first_of Truth = values.Bool false
first_of _ = values.Int (pos 0)

-- no kind has more ports
abbrev pub most_ports : ℕ
most_ports = 5
