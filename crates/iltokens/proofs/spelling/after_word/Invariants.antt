use Rattle.std.proofs.Common.{◌≡◌, ◌≤◌, length, drop}
use Rattle.iltokens.specs.WordSteps.{after_word}
use Rattle.iltokens.proofs.spelling.after_word.Given as goal

abbrev pub invariant-loop-letter : goal.invariant-loop-letter
invariant-loop-letter l =
    (after_word (drop l.letter-index l.word) l.rest ≡ after_word l.word l.bytes) × (length l.rest ≤ length l.bytes)
