-- Where each bus below one has a line, and that one has, so has each below the next.
use Rattle.std.proofs.Common.{◌≡◌, ◌∙◌, ℕ, zero, suc, ◌+◌, ◌<◌, List, refl, ap, arith, sym, ◌⊎◌, inl, inr}
use Rattle.commandoptions.specs.declared.line_word.LineWord.{LineWord}
use Rattle.livehouse.specs.Lineups.{HasLine, IsLineFor}

next : (n bound : ℕ) → (n < bound) ⊎ (n ≡ bound) → (suc n < suc bound) ⊎ (suc n ≡ suc bound)
next n bound (inl before) = inl (omega (arith, before))
next n bound (inr last) = inr (ap suc last)

last_or_before : (n bound : ℕ) → n < bound + 1 → (n < bound) ⊎ (n ≡ bound)
last_or_before zero zero h = inr refl
last_or_before zero (suc bound) h = inl (omega arith)
last_or_before (suc n) zero h = absurd (omega (arith, h))
last_or_before (suc n) (suc bound) h = next n bound (last_or_before n bound (omega (arith, h)))

one_of_both : (words : List LineWord) (bus k : ℕ) (word : LineWord) → ((k : ℕ) → k < bus → HasLine k words)
    → IsLineFor bus words word → (k < bus) ⊎ (k ≡ bus) → HasLine k words
one_of_both words bus k word before line (inl below) = before k below
one_of_both words bus k word before line (inr same) = (word, (line.0, line.1 ∙ sym same))

pub one_more : (words : List LineWord) (bus : ℕ) (word : LineWord) → ((k : ℕ) → k < bus → HasLine k words)
    → IsLineFor bus words word → (k : ℕ) → k < bus + 1 → HasLine k words
one_more words bus word before line k below = one_of_both words bus k word before line (last_or_before k bus below)
