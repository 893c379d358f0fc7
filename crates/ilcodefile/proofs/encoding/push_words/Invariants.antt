use Rattle.std.proofs.Common.{◌≡◌, ◌++◌, drop}
use Rattle.ilcodefile.specs.Files.{words}
use Rattle.ilcodefile.proofs.encoding.push_words.Given as goal

-- the bytes so far, and those of what is left
abbrev pub invariant-loop-word : goal.invariant-loop-word
invariant-loop-word l =
    l.bytes.items ++ words (drop l.word-index l.given) ≡ l.initial.bytes.items ++ words l.given
