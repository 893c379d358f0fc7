-- What became of a frame that was sent, and what that says of its transaction.
use Rattle.std.specs.Prelude.{⊤}
use Rattle.buslink.specs.declared.marks.Mark.{Mark}
use Rattle.buslink.specs.declared.marks.Mark.TheVariants.{Quiet, Answer, Damaged, Lost, Failed}
use Rattle.buslink.specs.declared.marks.Reply.{Reply}
use Rattle.buslink.specs.declared.marks.Reply.TheVariants as reply
use Rattle.buslink.specs.declared.marks.Outcome.{Outcome}
use Rattle.buslink.specs.declared.marks.Outcome.TheVariants as outcome

-- the mark of a reply
abbrev pub mark_of : Reply → Mark
mark_of reply.Quiet = Quiet
mark_of (reply.Answer byte) = Answer byte
mark_of reply.Damaged = Damaged
mark_of reply.Lost = Lost

-- a frame that was lost, or at which the bus interface failed
abbrev pub IsBroken : Mark → Type 0
IsBroken Quiet = ⊥
IsBroken (Answer byte) = ⊥
IsBroken Damaged = ⊥
IsBroken Lost = ⊤
IsBroken Failed = ⊤

-- the outcome of a transaction by its very last mark: an answer to a frame that is not the last changes nothing
-- (profile)
abbrev pub outcome_of : Mark → Outcome
outcome_of Quiet = outcome.Done reply.Quiet
outcome_of (Answer byte) = outcome.Done (reply.Answer byte)
outcome_of Damaged = outcome.Done reply.Damaged
outcome_of Lost = outcome.GaveUp
outcome_of Failed = outcome.Failed
