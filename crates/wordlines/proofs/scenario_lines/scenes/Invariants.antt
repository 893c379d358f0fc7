use Rattle.std.proofs.Common.{◌≡◌, length}
use Rattle.wordlines.specs.Saying.{scenes_from, scenes_in}
use Rattle.wordlines.proofs.scenario_lines.scenes.Given as goal

-- the words that are left say the scenes behind those so far
abbrev pub invariant-loop-words : goal.invariant-loop-words
invariant-loop-words l = scenes_from l.scenes l.words ≡ scenes_in l.fn.words

abbrev pub decreases-loop-words : goal.decreases-loop-words
decreases-loop-words l = length l.words
