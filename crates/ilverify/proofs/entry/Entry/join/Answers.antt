use Rattle.std.proofs.Common.{refl}
use Rattle.std.specs.List.{AllZip}
use Rattle.ilverify.specs.Joins.{AreJoins, IsHeld}
use Rattle.ilverify.proofs.JoinRows.{all_held}
use Rattle.ilverify.proofs.EntryMeetings.{meeting_of}
use Rattle.ilverify.proofs.entry.Entry.join.Goals as goal

pub returns-in_default : goal.returns-in_default
returns-in_default c =
    let none : ¬ AllZip IsHeld c.args.self.slots c.args.other.now.slots = rw c.in_default.is at c.in_ok-slots.ensures in
    λ m. none (all_held _ _ m.wider.slots m.from_one.slots m.from_other.slots)

pub returns : goal.returns
returns c =
    let slots : AreJoins c.args.self.slots c.args.other.now.slots c.in-Some.slots =
    rw c.in-Some.is at c.in_ok-slots.ensures in
    meeting_of _ _ _ c.requires.closed c.requires.closed_there refl slots c.join_results.ensures c.join_marks.ensures
