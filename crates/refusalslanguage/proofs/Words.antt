-- Which reserved words texts are.
use Rattle.std.proofs.Common.{◌≡◌, ℕ, List, Option, Some, None, MatchOption, codes, refl, sym}
use Rattle.iltokens.specs.declared.keyword.Keyword.{Keyword}
use Rattle.iltokens.specs.declared.keyword.Keyword.TheVariants.{DevAsk}
use Rattle.iltokens.specs.Keywords.{IsSpelled}
use Rattle.iltokens.specs.KeywordSteps.{keyword, reserved_words, word_rows}
use Rattle.iltokens.proofs.ReservedWords.{decided, is_found}

-- the word that a text is, or none where it is none
abbrev pub IsWordOf : List ℕ → Option Keyword → Type 0
IsWordOf text o = MatchOption o ((word : Keyword) → ¬ IsSpelled text word) (λ word. IsSpelled text word)

none_is : (text : List ℕ) (o : Option Keyword) → IsWordOf text o → ((word : Keyword) → ¬ IsSpelled text word)
    → None ≡ o
none_is text None is none = refl
none_is text (Some word) spelled none = absurd (none word spelled)

-- a text is one word at most
pub word_is : (text : List ℕ) (o : Option Keyword) → IsWordOf text o → o ≡ keyword text
word_is text (Some word) spelled = sym (is_found text word spelled)
word_is text None none = none_is text (keyword text) (decided text (keyword text) refl) none

pub dev_ask : keyword (codes "DEV_ASK") ≡ Some DevAsk
unfolding keyword word_rows reserved_words
dev_ask = refl

pub longer : keyword (codes "LDX") ≡ None
unfolding keyword word_rows reserved_words
longer = refl
