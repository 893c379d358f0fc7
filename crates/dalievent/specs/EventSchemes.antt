-- The event messages of control devices: one equation on the frame's number for each scheme (profile).
use Rattle.std.specs.Prelude.{◌≡◌, ℕ, ◌+◌, ◌*◌, ◌<◌, ◌^◌}
use Rattle.daliframe.specs.Frames.{IsCommand24}
use Rattle.daliframe.specs.declared.schemes.EventScheme.{EventScheme}
use Rattle.daliframe.specs.declared.schemes.EventScheme.TheVariants.{Instance, Device, DeviceInstance}
use Rattle.daliframe.specs.declared.schemes.EventScheme.TheVariants.{DeviceGroup, InstanceGroup}
use Rattle.dalievent.specs.declared.heard.EventMessage.{EventMessage}
use Rattle.dalievent.specs.declared.heard.Heard.{Heard}
use Rattle.dalievent.specs.declared.heard.Heard.TheVariants.{Event, Command, Other}
use Rattle.dalievent.specs.declared.messages.EventSource.{EventSource}

-- what the scheme adds to a frame: bits 23 and 22 are `10` or `11` where no short address is, bit 15 tells two schemes
-- apart
abbrev pub scheme_bits : EventScheme → ℕ
scheme_bits Instance = 2 ^ 23 + 2 ^ 15
scheme_bits Device = 0
scheme_bits DeviceInstance = 2 ^ 15
scheme_bits DeviceGroup = 2 ^ 23
scheme_bits InstanceGroup = 2 ^ 23 + 2 ^ 22

-- short addresses have six bits, all other parts five
abbrev pub a_limit : EventScheme → ℕ
a_limit Instance = 32
a_limit Device = 64
a_limit DeviceInstance = 64
a_limit DeviceGroup = 32
a_limit InstanceGroup = 32

-- a from bit 17 on, b from bit 10 on, and the information below
abbrev pub Solves : EventMessage → ℕ → Type 0
Solves e frame =
    (e.a < a_limit e.scheme) × (e.b < 32) × (e.information < 1024)
    × (frame ≡ scheme_bits e.scheme + 2 ^ 17 * e.a + 2 ^ 10 * e.b + e.information)

-- an event comes from a source of its scheme and parts, whatever its information
abbrev pub IsFrom : EventSource → EventMessage → Type 0
IsFrom source e = (source.scheme ≡ e.scheme) × (source.a ≡ e.a) × (source.b ≡ e.b)

-- what a frame is: the message that solves its equation; a command; or neither
abbrev pub IsRead : ℕ → Heard → Type 0
IsRead frame (Event message) = Solves message frame
IsRead frame Command = IsCommand24 frame
IsRead frame Other = (IsCommand24 frame → ⊥) × ((message : EventMessage) → Solves message frame → ⊥)
