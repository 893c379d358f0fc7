use Rattle.std.proofs.Common.{map, take}
use Rattle.commandline.specs.LineWords.{AreLines}
use Rattle.commandline.proofs.line_words.lines_of.Given as goal

-- the lines of the words so far
abbrev pub invariant-loop-word : goal.invariant-loop-word
invariant-loop-word l = AreLines (map (λ word. word.now) (take l.word-index l.words)) l.lines.items
