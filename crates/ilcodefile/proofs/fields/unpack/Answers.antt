use Rattle.std.proofs.Common.{◌≡◌, ◌∙◌, ℕ, Option, Some, None, sym}
use Rattle.std.specs.Prelude.{◌≢◌, IfSome, IfNone, IsSomeAnd}
use Rattle.ilcode.specs.Words.{HasWord, spelling}
use Rattle.ilcode.specs.declared.word.Word.{Word}
use Rattle.ilcode.proofs.Spellings.{spelled_once}
use Rattle.ilcodefile.proofs.fields.unpack.Goals as goal

-- what is found is the word that has the bits
exact : (o : Option Word) (bits : ℕ) (w : Word) → HasWord w → bits ≡ spelling w
    → IfSome o (λ (read : Word). HasWord read × (spelling read ≡ bits))
    → IfNone o ((word : Word) → HasWord word → spelling word ≢ bits)
    → IsSomeAnd o (λ (read : Word). read ≡ w)
exact None bits w held e some none = absurd (none w held (sym e))
exact (Some read) bits w held e some none = spelled_once read w some.0 held (some.1 ∙ e)

pub returns-clause-exact : goal.returns-clause-exact
returns-clause-exact c =
    λ w held e. exact c.read.result c.args.bits w held e c.read.ensures.found c.read.ensures.none
