use Rattle.ilverify.proofs.EntryMeetings.{marks_agree, marks_differ}
use Rattle.ilverify.proofs.MarkEquality.{marks_same, marks_apart}
use Rattle.ilverify.proofs.entry.join_marks.Goals as goal

pub returns-then-ne : goal.returns-then-ne
returns-then-ne c =
    marks_differ _ _ (marks_apart c.args.one c.args.other c.ne.result c.ne.ensures c.if-ne.true)

pub returns-else-ne : goal.returns-else-ne
returns-else-ne c =
    marks_agree _ _ (marks_same c.args.one c.args.other c.ne.result c.ne.ensures c.if-ne.false)
