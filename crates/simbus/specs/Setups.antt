-- What the statements of a scenario say of one bus.
use Rattle.std.specs.Prelude.{ℕ, ◌==◌, Bool, false, ◌&&◌, if◌then◌else◌, Option, Some, None, List}
use Rattle.std.specs.List.{list_any}
use Rattle.wordlines.specs.declared.statements.GearStart.{GearStart}
use Rattle.wordlines.specs.declared.statements.Statement.{Statement}
use Rattle.wordlines.specs.declared.statements.Statement.TheVariants as statement
use Rattle.simbus.specs.declared.gears.Gear.{Gear}
use Rattle.simbus.specs.declared.gears.MemoryByte.{MemoryByte}
use Rattle.simbus.specs.declared.instances.InputInstance.{InputInstance}
use Rattle.simbus.specs.declared.scripts.ScriptedReply.{ScriptedReply}
use Rattle.buslink.specs.declared.arrivals.Arrival.{Arrival}
use Rattle.buslink.specs.declared.arrivals.Arrival.TheVariants as arrival

-- whether it says that the lamp of this gear failed
abbrev pub has_lamp_failure : ℕ → ℕ → Statement → Bool
has_lamp_failure bus gear (statement.LampFailure on short) = on == bus && short == gear
has_lamp_failure bus gear _ = false

-- gear at a short address that begins so, whose lamp failed where one of these statements says so
abbrev pub gear_with_lamp : ℕ → List Statement → ℕ → GearStart → Gear
gear_with_lamp bus statements address start =
    record { address = address; lamp_failure = list_any (has_lamp_failure bus address) statements; start = start }

-- what a statement, one of these, says of this bus: gear, with its lamp and how it begins
abbrev pub gear_on : ℕ → List Statement → Statement → Option Gear
gear_on bus statements (statement.Gear on short start) =
    if on == bus then Some (gear_with_lamp bus statements short start) else None
gear_on bus statements _ = None

abbrev pub memory_on : ℕ → Statement → Option MemoryByte
memory_on bus (statement.Memory on short bank offset value) =
    if on == bus then Some (record { address = short; bank = bank; offset = offset; value = value }) else None
memory_on bus _ = None

abbrev pub instance_on : ℕ → Statement → Option InputInstance
instance_on bus (statement.InputInstance on short number kind scheme value) =
    if on == bus then Some
    (record { address = short; number = number; instance_type = kind; scheme = scheme; value = value }) else None
instance_on bus _ = None

abbrev pub reply_on : ℕ → Statement → Option ScriptedReply
reply_on bus (statement.Reply on place fate) = if on == bus then Some (record { place = place; fate = fate }) else None
reply_on bus _ = None

-- events, and faults of hearing
abbrev pub arrival_on : ℕ → Statement → Option Arrival
arrival_on bus (statement.Event on frame) = if on == bus then Some (arrival.Frame frame) else None
arrival_on bus (statement.HearFault on) = if on == bus then Some arrival.Fault else None
arrival_on bus _ = None
