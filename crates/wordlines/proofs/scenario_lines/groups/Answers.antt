use Rattle.std.proofs.Common.{◌∙◌, sym}
use Rattle.wordlines.proofs.GearStarts.{group_more}
use Rattle.wordlines.proofs.scenario_lines.groups.Goals as goal

pub loop-words-preserved : goal.loop-words-preserved
loop-words-preserved c =
    rw c.from.ensures
    (sym (group_more c.loop-words.groups c.loop-words.words c.take.new.self c.byte.new.self c.in_ok-group.group
    (rw c.loop-words-test.true at c.take.ensures) c.in_ok-group.ensures.value)
    ∙ c.loop-words.invariant)
