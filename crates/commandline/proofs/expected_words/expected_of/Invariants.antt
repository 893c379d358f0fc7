use Rattle.std.proofs.Common.{map, take}
use Rattle.commandline.specs.ExpectedWords.{AreExpected}
use Rattle.commandline.proofs.expected_words.expected_of.Given as goal

-- what the words so far say is expected
abbrev pub invariant-loop-word : goal.invariant-loop-word
invariant-loop-word l = AreExpected (map (λ word. word.now) (take l.word-index l.words)) l.expected.items
