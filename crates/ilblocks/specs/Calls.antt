-- What a call of a block instance does at a moment in milliseconds (IEC 61131-3, 2.5.2.3; profile): each port and what
-- is kept, after the call, by what they were before it. `:=` is read as 'becomes'.
use Rattle.std.specs.Prelude.{ℕ, ℤ, pos, negsuc, ◌+ℤ◌, ◌-◌, ◌==◌, ◌&&◌, not, nat_lt, min, int_lt, int_le}
use Rattle.std.specs.Prelude.{List, [], ◌∷◌, map, Bool, false, if◌then◌else◌}
use Rattle.std.specs.Prelude.{Option, Some, None, option_map, slice_get, slice_set}
use Rattle.iltypes.specs.declared.value.Value.{Value}
use Rattle.iltypes.specs.declared.value.Value.TheVariants as values
use Rattle.iltypes.specs.Values.{AreOf}
use Rattle.gearcmd.specs.Address.{Address}
use Rattle.gearcmd.specs.Address.TheVariants.{Short, Group, Broadcast}
use Rattle.gearcmd.specs.EventScheme.{EventScheme}
use Rattle.gearcmd.specs.EventScheme.TheVariants as schemes
use Rattle.gearcmd.specs.declared.requests.Command.{Command}
use Rattle.gearcmd.specs.declared.requests.Command.TheVariants as commands
use Rattle.gearcmd.specs.declared.requests.Request.{Request}
use Rattle.ilblocks.specs.declared.kind.BlockKind.{BlockKind}
use Rattle.ilblocks.specs.declared.kind.BlockKind.TheVariants as kinds
use Rattle.ilblocks.specs.Ports.{ports_of, types_of_ports, first_of, keeps_start}

-- what an instance keeps from call to call: the value of each port; its first input (CLK, CU, IN, REQ) as it was at the
-- last call; and of a kind that keeps it (TON) the moment at which that input became TRUE
pub record Block : Type 0 where
  pub ports : List Value
  pub before : Bool
  pub start : ℕ

-- before its first call
abbrev pub at_first : BlockKind → Block
at_first kind = record { ports = map (λ port. first_of port.values) (ports_of kind); before = false; start = 0 }

-- each port has a value of its type, on so many buses
abbrev pub IsBlockOf : ℕ → Block → BlockKind → Type 0
IsBlockOf buses block kind = AreOf block.ports (types_of_ports buses kind)

-- ---- ports by their numbers

abbrev pub truth_of : Option Value → Bool
truth_of (Some (values.Bool truth)) = truth
truth_of _ = false

abbrev pub number_or_zero : Option Value → ℤ
number_or_zero (Some (values.Int number)) = number
number_or_zero _ = pos 0

abbrev pub natural_of : ℤ → ℕ
natural_of (pos number) = number
natural_of (negsuc number) = 0

abbrev pub truth : Block → ℕ → Bool
truth b port = truth_of (slice_get b.ports port)

abbrev pub number : Block → ℕ → ℤ
number b port = number_or_zero (slice_get b.ports port)

abbrev pub natural : Block → ℕ → ℕ
natural b port = natural_of (number b port)

-- the first input is TRUE, and was FALSE at the last call
abbrev pub rises : Block → Bool
rises b = truth b 0 && not b.before

-- ---- R_TRIG (table 35): Q := CLK AND NOT M; M := CLK

abbrev pub ports_of_trigger : Block → List Value
ports_of_trigger b = slice_set b.ports 1 (values.Bool (rises b))

-- ---- CTU (table 36): IF R THEN CV := 0 ELSIF a rising edge of CU AND CV < 32767 THEN CV := CV + 1; Q := CV >= PV

abbrev pub count : Block → ℤ
count b =
    if truth b 1 then pos 0
    else if rises b && int_lt (number b 4) (pos 32767) then number b 4 +ℤ pos 1 else number b 4

abbrev pub ports_of_counter : Block → List Value
ports_of_counter b =
    slice_set (slice_set b.ports 3 (values.Bool (int_le (number b 2) (count b)))) 4 (values.Int (count b))

-- ---- TON (table 37): where IN is TRUE, ET := min(now - start, PT), and Q := (ET = PT); else ET := 0 and Q := FALSE

-- the moment at which IN became TRUE
abbrev pub start_of : ℕ → Block → ℕ
start_of moment b = if rises b then moment else b.start

-- 0 where the start is later
abbrev pub elapsed : ℕ → Block → ℕ
elapsed moment b = if truth b 0 then min (moment - start_of moment b) (natural b 1) else 0

abbrev pub ports_of_timer : ℕ → Block → List Value
ports_of_timer moment b =
    slice_set (slice_set b.ports 2 (values.Bool (truth b 0 && elapsed moment b == natural b 1)))
    3 (values.Int (pos (elapsed moment b)))

-- ---- a call

-- the ports after a call; a request block has inputs alone
abbrev pub ports_after : BlockKind → ℕ → Block → List Value
ports_after kinds.RTrig moment b = ports_of_trigger b
ports_after kinds.Ctu moment b = ports_of_counter b
ports_after kinds.Ton moment b = ports_of_timer moment b
ports_after kinds.GearLevel moment b = b.ports
ports_after kinds.GearDo moment b = b.ports
ports_after kinds.GearSet moment b = b.ports
ports_after kinds.GearPair moment b = b.ports
ports_after kinds.GearAsk moment b = b.ports
ports_after kinds.GearRead moment b = b.ports
ports_after kinds.DevDo moment b = b.ports
ports_after kinds.DevScheme moment b = b.ports
ports_after kinds.DevAsk moment b = b.ports

abbrev pub start_after : BlockKind → ℕ → Block → ℕ
start_after kind moment b = if keeps_start kind then start_of moment b else b.start

-- what the instance keeps after a call
abbrev pub after_call : BlockKind → ℕ → Block → Block
after_call kind moment b =
    record { ports = ports_after kind moment b; before = truth b 0; start = start_after kind moment b }

-- ---- requests

-- the address of a number ADR: short addresses, then groups, then broadcast
abbrev pub address_of : ℕ → Option Address
address_of number =
    if nat_lt number 64 then Some (Short number)
    else if nat_lt number 80 then Some (Group (number - 64))
    else if number == 80 then Some Broadcast else None

-- the event scheme of a number
abbrev pub scheme_of : ℕ → Option EventScheme
scheme_of number =
    slice_get
    (schemes.Instance ∷ schemes.Device ∷ schemes.DeviceInstance ∷ schemes.DeviceGroup ∷ schemes.InstanceGroup ∷ [])
    number

-- what a request block asks for by its ports after REQ and BUS, in their order
abbrev pub command_of : BlockKind → Block → Option Command
command_of kinds.GearLevel b = option_map (λ a. commands.GearLevel a (natural b 3)) (address_of (natural b 2))
command_of kinds.GearDo b = option_map (λ a. commands.GearDo a (natural b 3)) (address_of (natural b 2))
command_of kinds.GearSet b =
    option_map (λ a. commands.GearSet a (natural b 3) (natural b 4)) (address_of (natural b 2))
command_of kinds.GearPair b = option_map (λ a. commands.GearPair a (natural b 3)) (address_of (natural b 2))
command_of kinds.GearAsk b = Some (commands.GearAsk (natural b 2) (natural b 3))
command_of kinds.GearRead b = Some (commands.GearRead (natural b 2) (natural b 3) (natural b 4))
command_of kinds.DevDo b = Some (commands.DevDo (natural b 2) (natural b 3) (natural b 4))
command_of kinds.DevScheme b =
    option_map (λ s. commands.DevScheme (natural b 2) (natural b 3) s) (scheme_of (natural b 4))
command_of kinds.DevAsk b = Some (commands.DevAsk (natural b 2) (natural b 3) (natural b 4))
command_of _ b = None

-- the request of the ports' values
abbrev pub request_of : BlockKind → Block → Option Request
request_of kind b = option_map (λ c. record { bus = natural b 1; command = c }) (command_of kind b)

-- the request that a call makes: one at a rising edge of REQ, else none
abbrev pub requested : BlockKind → Block → Option Request
requested kind b = if rises b then request_of kind b else None
