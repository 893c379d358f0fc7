-- The event of a source.
use Rattle.std.specs.Prelude.{ℕ}
use Rattle.dalievent.specs.declared.heard.EventMessage.{EventMessage}
use Rattle.dalievent.specs.declared.messages.EventSource.{EventSource}

-- the message of a source with this information
abbrev pub event_of : EventSource → ℕ → EventMessage
event_of source information =
    record { scheme = source.scheme; a = source.a; b = source.b; information = information }
