-- The words that say what is expected of values at a play's end, `NAME=VALUE` (profile).
use Rattle.std.specs.Prelude.{◌≡◌, ◌<◌, ◌≤◌, List, ◌∷◌, ◌++◌, length}
use Rattle.std.specs.List.{AllZip, Contains}
use Rattle.clap.specs.Words.{Text}
use Rattle.commandline.specs.LineWords.{equals_sign}
use Rattle.commandline.specs.declared.expected_words.ExpectedFault.{ExpectedFault}
use Rattle.commandline.specs.declared.expected_words.ExpectedFault.TheVariants.{NoPair, TooMany}
use Rattle.commandoptions.specs.declared.expected_word.ExpectedWord.{ExpectedWord}

-- the word says what is expected: a name with no `=`, `=`, and what the value is to be; neither is empty
pub record IsExpectedWord (word : Text) (expected : ExpectedWord) : Type 0 where
  pub spelled : word ≡ expected.name.now ++ equals_sign ∷ expected.value.now
  pub first : ¬ Contains expected.name.now equals_sign
  pub has_name : 0 < length expected.name.now
  pub has_value : 0 < length expected.value.now

-- the words say what is expected, each by itself, and there are at most 16
pub record AreExpected (words : List Text) (expected : List ExpectedWord) : Type 0 where
  pub each : AllZip IsExpectedWord words expected
  pub few : length words ≤ 16

-- the word that is at fault
abbrev pub unexpected_word : ExpectedFault → Text
unexpected_word (NoPair word) = word.now
unexpected_word (TooMany word) = word.now

-- behind these words the word says nothing that is expected, or it does and they are 16
abbrev pub IsUnexpectedAfter : List Text → ExpectedFault → Type 0
IsUnexpectedAfter before (NoPair word) = (expected : ExpectedWord) → ¬ IsExpectedWord word.now expected
IsUnexpectedAfter before (TooMany word) =
    (expected : ExpectedWord) × IsExpectedWord word.now expected × (length before ≡ 16)

-- the fault is that of the first word that has one
pub record IsFirstUnexpected (words : List Text) (fault : ExpectedFault) : Type 0 where
  pub before : List Text
  pub after : List Text
  pub expected : List ExpectedWord
  pub place : words ≡ before ++ unexpected_word fault ∷ after
  pub taken : AreExpected before expected
  pub is_fault : IsUnexpectedAfter before fault
