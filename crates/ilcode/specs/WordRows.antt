-- Worked packed words, and bits that are none.
use Rattle.std.specs.Prelude.{◌≡◌, ◌≢◌, ℕ}
use Rattle.ilcode.specs.declared.word.Word.{Word}
use Rattle.ilcode.specs.Reading.{meaning}
use Rattle.ilcode.specs.Words.{HasWord, spelling}

-- the word is spelled by these bits, which are read as it
abbrev pub Spells : Word → ℕ → Type 0
Spells word bits = (spelling word ≡ bits) × (meaning bits ≡ word)

-- no word is spelled by them
abbrev pub IsNoWord : ℕ → Type 0
IsNoWord bits = (word : Word) → HasWord word → spelling word ≢ bits
