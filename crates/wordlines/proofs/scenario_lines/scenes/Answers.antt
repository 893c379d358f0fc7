use Rattle.std.proofs.Common.{◌∙◌, sym}
use Rattle.wordlines.proofs.GearStarts.{scene_more}
use Rattle.wordlines.proofs.scenario_lines.scenes.Goals as goal

pub loop-words-preserved : goal.loop-words-preserved
loop-words-preserved c =
    rw c.from.ensures
    (sym (scene_more c.loop-words.scenes c.loop-words.words c.take.new.self c.byte.new.self
    c.byte-in-loop-words.new.self c.in_ok-scene.scene c.in_ok-level.level
    (rw c.loop-words-test.true at c.take.ensures) c.in_ok-scene.ensures.value c.in_ok-level.ensures.value)
    ∙ c.loop-words.invariant)
