use Rattle.std.proofs.Common.{◌≡◌, ℕ, ◌<◌, List, [], ◌∷◌, length, drop, None, refl, sym, ◌∙◌, arith, drop-cons}
use Rattle.iltokens.specs.WordSteps.{after_word}
use Rattle.iltokens.proofs.spelling.after_word.Goals as goal

none_of : (word : List ℕ) (i : ℕ) (rest : List ℕ) → i < length word → length rest < 1
    → after_word (drop i word) rest ≡ None
none_of word i [] lt short = rw (drop-cons word i 0) refl
none_of word i (b ∷ bs) lt short = absurd (omega arith)

pub returns-in-empty-clause-exact : goal.returns-in-empty-clause-exact
returns-in-empty-clause-exact c =
    sym (none_of c.args.word.now c.loop-letter.letter-index c.loop-letter.rest.now (omega arith) (omega arith))
    ∙ c.loop-letter.invariant.0
