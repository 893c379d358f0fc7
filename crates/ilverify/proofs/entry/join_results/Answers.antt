use Rattle.ilverify.proofs.EntryMeetings.{results_meet}
use Rattle.ilverify.proofs.entry.join_results.Goals as goal

pub returns-in-Some-Some : goal.returns-in-Some-Some
returns-in-Some-Some c =
    rw (c.in-Some-Some.is-0, c.in-Some-Some.is-1)
    (results_meet c.in-Some-Some.one c.in-Some-Some.other c.join.result c.join.ensures.none c.join.ensures.least)
