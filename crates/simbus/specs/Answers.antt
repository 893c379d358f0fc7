-- What simulated control gear answers (IEC 62386-102, clause 11), and what the bus makes of several answers.
use Rattle.std.specs.Prelude.{ℕ, ◌+◌, ◌*◌, ◌==◌, Bool, not, ◌&&◌, if◌then◌else◌, Option, Some}
use Rattle.std.specs.Prelude.{None, option_map, List, [], ◌∷◌, reverse, take, drop, slice_index, find}
use Rattle.daliframe.specs.declared.forward.Frame.{Frame}
use Rattle.daliframe.specs.declared.forward.Frame.TheVariants.{Forward16, Forward24}
use Rattle.daliframe.specs.declared.forward16.Fields16.{Fields16}
use Rattle.daliframe.specs.declared.forward16.Fields16.TheVariants as said
use Rattle.buslink.specs.declared.marks.Reply.{Reply}
use Rattle.buslink.specs.declared.marks.Reply.TheVariants as reply
use Rattle.simbus.specs.declared.commands.Query.{Query}
use Rattle.simbus.specs.declared.commands.Query.TheVariants as query
use Rattle.simbus.specs.declared.commands.GearCommand.{GearCommand}
use Rattle.simbus.specs.declared.commands.GearCommand.TheVariants.{Act, Set, Ask, Nothing}
use Rattle.simbus.specs.declared.gears.Gear.{Gear}
use Rattle.simbus.specs.declared.gears.GearVariables.{GearVariables}
use Rattle.simbus.specs.declared.gears.MemoryByte.{MemoryByte}
use Rattle.simbus.specs.Commands.{command_of}
use Rattle.simbus.specs.Gears.{min_level, max_level, is_addressed}
use Rattle.simbus.specs.FrameFields.{fields_of}

-- YES is answered FF, and NO by silence
abbrev pub yes_if : Bool → Option ℕ
yes_if holds = if holds then Some 0xFF else None

-- the lamp is on where it is good and the level is not 0
abbrev pub is_lit : Gear → GearVariables → Bool
is_lit gear v = not gear.lamp_failure && not (v.level == 0)

-- bit 1 of the status is a lamp failure, bit 2 a lamp that is on
abbrev pub status : Gear → GearVariables → ℕ
status gear v = (if gear.lamp_failure then 2 else 0) + (if is_lit gear v then 4 else 0)

-- the byte with these bits, bit 0 first
abbrev pub byte_of : List Bool → ℕ
byte_of [] = 0
byte_of (bit ∷ bits) = (if bit then 1 else 0) + 2 * byte_of bits

-- a byte of gear's memory bank, as the last of those that were declared for it
abbrev pub is_at : ℕ → ℕ → ℕ → MemoryByte → Bool
is_at address bank offset byte = (byte.address == address && byte.bank == bank) && byte.offset == offset

abbrev pub memory_byte : List MemoryByte → ℕ → ℕ → ℕ → Option ℕ
memory_byte memory address bank offset =
    option_map (λ (byte : MemoryByte). byte.value) (find (is_at address bank offset) (reverse memory))

-- READ MEMORY LOCATION reads offset DTR0 of bank DTR1
abbrev pub answer_to : List MemoryByte → Gear → Query → GearVariables → Option ℕ
answer_to memory gear query.Status v = Some (status gear v)
answer_to memory gear query.ControlGearPresent v = Some 0xFF
answer_to memory gear query.LampFailure v = yes_if gear.lamp_failure
answer_to memory gear query.LampPowerOn v = yes_if (is_lit gear v)
answer_to memory gear query.ContentDtr0 v = Some v.dtr0
answer_to memory gear query.ContentDtr1 v = Some v.dtr1
answer_to memory gear query.ActualLevel v = Some v.level
answer_to memory gear query.MaxLevel v = Some max_level
answer_to memory gear query.MinLevel v = Some min_level
answer_to memory gear (query.SceneLevel scene) v = Some (slice_index v.scenes scene)
answer_to memory gear query.Groups0To7 v = Some (byte_of (take 8 v.groups))
answer_to memory gear query.Groups8To15 v = Some (byte_of (drop 8 v.groups))
answer_to memory gear query.Memory v = memory_byte memory gear.address v.dtr1 v.dtr0

-- only queries are answered
abbrev pub command_answer : List MemoryByte → Gear → GearCommand → GearVariables → Option ℕ
command_answer memory gear (Ask query) v = answer_to memory gear query v
command_answer memory gear (Act action) v = None
command_answer memory gear (Set setting) v = None
command_answer memory gear Nothing v = None

-- the answer of gear to a frame that says this
abbrev pub fields_answer : List MemoryByte → Gear → Fields16 → GearVariables → Option ℕ
fields_answer memory gear (said.Command address opcode) v =
    if is_addressed address gear.address v then command_answer memory gear (command_of opcode) v else None
fields_answer memory gear (said.Level address level) v = None
fields_answer memory gear (said.Dtr0 value) v = None
fields_answer memory gear (said.Dtr1 value) v = None
fields_answer memory gear said.Other v = None

-- the answer of gear to a frame
abbrev pub gear_answer : List MemoryByte → Frame → Gear → GearVariables → Option ℕ
gear_answer memory (Forward16 frame) gear v = fields_answer memory gear (fields_of frame) v
gear_answer memory (Forward24 frame) gear v = None

-- no answer is silence, one comes through, and two or more damage each other
abbrev pub reply_of : List ℕ → Reply
reply_of [] = reply.Quiet
reply_of (byte ∷ []) = reply.Answer byte
reply_of (byte ∷ other ∷ more) = reply.Damaged
