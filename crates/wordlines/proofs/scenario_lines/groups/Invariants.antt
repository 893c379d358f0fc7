use Rattle.std.proofs.Common.{◌≡◌, length}
use Rattle.wordlines.specs.Saying.{groups_from, groups_in}
use Rattle.wordlines.proofs.scenario_lines.groups.Given as goal

-- the words that are left say the groups behind those so far
abbrev pub invariant-loop-words : goal.invariant-loop-words
invariant-loop-words l = groups_from l.groups l.words ≡ groups_in l.fn.words

abbrev pub decreases-loop-words : goal.decreases-loop-words
decreases-loop-words l = length l.words
