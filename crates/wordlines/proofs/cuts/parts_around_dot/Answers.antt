use Rattle.wordlines.proofs.CutParts.{three_parts}
use Rattle.wordlines.proofs.cuts.parts_around_dot.Goals as goal

pub returns-in-Some : goal.returns-in-Some
returns-in-Some c front back two =
    three_parts 46 _ c.cut_at.result.1 c.cut_at-2.result.1 c.in_ok-rest.field-0 c.in-Some.field-0
    c.cut_at.result.0.now c.cut_at-2.result.0.now front back c.cut_at.ensures.parts (c.in_ok-rest.was)
    c.cut_at-2.ensures.parts c.in-Some.is two
