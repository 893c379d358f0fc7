-- Which line each bus of a plant has, by the words of `--line` (profile).
use Rattle.std.specs.Prelude.{◌≡◌, ℕ, ◌<◌, All, List}
use Rattle.std.specs.List.{Contains}
use Rattle.commandoptions.specs.declared.line_word.LineWord.{LineWord}
use Rattle.livehouse.specs.declared.lineup.LineupFault.{LineupFault}
use Rattle.livehouse.specs.declared.lineup.LineupFault.TheVariants.{Missing, Unknown}

-- one of the words, and it names this bus
abbrev pub IsLineFor : ℕ → List LineWord → LineWord → Type 0
IsLineFor bus words word = Contains words word × (word.bus ≡ bus)

abbrev pub HasLine : ℕ → List LineWord → Type 0
HasLine bus words = (word : LineWord) × IsLineFor bus words word

-- no word names this bus
abbrev pub HasNoLine : ℕ → List LineWord → Type 0
HasNoLine bus words = All (λ word. ¬ (word.bus ≡ bus)) words

-- each word names one of so many buses
abbrev pub AreKnown : ℕ → List LineWord → Type 0
AreKnown buses words = All (λ word. word.bus < buses) words

-- each of so many buses has a line, and each word names one of these buses
pub record AreLinesOf (buses : ℕ) (words : List LineWord) : Type 0 where
  pub each : (bus : ℕ) → bus < buses → HasLine bus words
  pub known : AreKnown buses words

-- why the words are not the lines of so many buses: one names a bus that there is not; else a bus has no line
abbrev pub IsLineupFault : ℕ → List LineWord → LineupFault → Type 0
IsLineupFault buses words (Unknown bus) = HasLine bus words × ¬ (bus < buses)
IsLineupFault buses words (Missing bus) = (bus < buses) × HasNoLine bus words × AreKnown buses words
