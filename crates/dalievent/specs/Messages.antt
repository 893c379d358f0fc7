-- The frames of a source of events (IEC 62386-103, clause 9, and profile): its messages differ in their information
-- alone, which has 10 bits.
use Rattle.std.specs.Prelude.{ℕ, ◌+◌, ◌-◌, ◌*◌, ◌^◌, ◌&&◌, nat_lt, nat_le, Bool}
use Rattle.dalievent.specs.declared.messages.EventSource.{EventSource}
use Rattle.dalievent.specs.EventSchemes.{scheme_bits}

-- the frame of a message with the information 0, by the equation of the source's scheme
abbrev pub first_message : EventSource → ℕ
first_message s = scheme_bits s.scheme + 2 ^ 17 * s.a + 2 ^ 10 * s.b

-- the frame is a message of the source: its number is that of the first message and an information
abbrev pub is_message : EventSource → ℕ → Bool
is_message s frame = nat_le (first_message s) frame && nat_lt frame (first_message s + 2 ^ 10)

-- the information of a message of the source
abbrev pub information : EventSource → ℕ → ℕ
information s frame = frame - first_message s
