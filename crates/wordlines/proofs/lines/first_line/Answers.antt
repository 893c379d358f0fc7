use Rattle.wordlines.proofs.CutParts.{lines_at}
use Rattle.wordlines.proofs.lines.first_line.Goals as goal

pub returns-in-Some-clause-line : goal.returns-in-Some-clause-line
returns-in-Some-clause-line c =
    rw c.without_return.ensures (lines_at c.args.bytes.now c.cut_at.result.0.now c.in-Some.after.now
    (rw c.in-Some.is at c.cut_at.ensures.parts))
