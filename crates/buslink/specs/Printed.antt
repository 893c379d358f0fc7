-- What a reply and an outcome are printed as (profile).
use Rattle.std.specs.Prelude.{ℕ, List, ◌++◌, codes}
use Rattle.std.specs.Fmt.{decimal}
use Rattle.buslink.specs.declared.marks.Reply.{Reply}
use Rattle.buslink.specs.declared.marks.Reply.TheVariants.{Quiet, Answer, Damaged, Lost}
use Rattle.buslink.specs.declared.marks.Outcome.{Outcome}
use Rattle.buslink.specs.declared.marks.Outcome.TheVariants.{Done, GaveUp, Failed}

abbrev pub printed_reply : Reply → List ℕ
printed_reply Quiet = codes "quiet"
printed_reply (Answer byte) = codes "answer " ++ decimal byte
printed_reply Damaged = codes "damaged"
printed_reply Lost = codes "lost"

abbrev pub printed_outcome : Outcome → List ℕ
printed_outcome (Done reply) = printed_reply reply
printed_outcome GaveUp = codes "gave up"
printed_outcome Failed = codes "failed"
