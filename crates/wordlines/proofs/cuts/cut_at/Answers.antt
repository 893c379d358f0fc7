use Rattle.std.proofs.Common.{sym}
use Rattle.wordlines.proofs.CutParts.{splits_whole, splits_at}
use Rattle.wordlines.proofs.cuts.cut_at.Goals as goal

pub returns-in-None-clause-parts : goal.returns-in-None-clause-parts
returns-in-None-clause-parts c = splits_whole c.args.mark c.args.bytes.now (sym c.in-None.ensures)

pub returns-in-Some-clause-parts : goal.returns-in-Some-clause-parts
returns-in-Some-clause-parts c =
    rw (c.split_at.ensures.front, c.split_at-in-Some.ensures.back, c.split_at.ensures.back)
    (splits_at c.args.mark c.args.bytes.now c.in-Some.end (sym c.in-Some.ensures))
