use Rattle.std.proofs.Common.{◌≡◌, ◌+◌, ◌++◌, length, drop}
use Rattle.buslink.specs.Attempts.{sent_with}
use Rattle.buslink.proofs.reports.push_attempt.Given as goal

-- what is sent so far, and the rest behind it, are the whole
abbrev pub invariant-loop-i : goal.invariant-loop-i
invariant-loop-i l =
    (length l.sent.items ≡ length l.initial.sent.items + l.i)
    × (l.sent.items ++ sent_with (drop l.i l.frames) l.priority (drop l.i l.marks)
    ≡ l.initial.sent.items ++ sent_with l.frames l.first_priority l.marks)
