use Rattle.std.proofs.Common.{◌≡◌, ◌∙◌, sym, ap, subst}
use Rattle.ilcode.specs.Reading.{meaning}
use Rattle.ilcode.specs.Words.{spelling, HasWord}
use Rattle.ilcode.proofs.Spellings.{again}
use Rattle.ilcode.proofs.packed.PackedWord.read.Goals as goal
use Rattle.ilcode.proofs.packed.PackedWord.read.Goals.{else-has_word-via-then-has_word+else-spell-bits}
use Rattle.ilcode.proofs.packed.PackedWord.read.Goals.{else-has_word-via-else-has_word}

pub returns-else-has_word-clause-none : goal.returns-else-has_word-clause-none
returns-else-has_word-clause-none c =
    λ word h e.
    let means : c.meaning-meant.result ≡ word = c.meaning-meant.ensures ∙ ap meaning (sym e) ∙ again word h in
    elim c.else-has_word.branch [
      | else-has_word-via-then-has_word+else-spell-bits w ↦
          w.if-spell-bits.false (w.spell.ensures ∙ ap spelling means ∙ e)
      | else-has_word-via-else-has_word w ↦
          let holds = c.has_word.ensures.1 (subst HasWord (sym means) h) in
          (cc)
    ]
