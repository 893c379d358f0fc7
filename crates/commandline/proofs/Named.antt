-- A word that is at fault is a wrong value.
use Rattle.std.proofs.Common.{List, Option, inl, inr}
use Rattle.clap.specs.Words.{Row, Text}
use Rattle.commandline.proofs.ExpectedLists.{not_expected}
use Rattle.commandline.proofs.LineFaults.{no_lines}
use Rattle.commandline.proofs.WatchedLists.{seventeen}
use Rattle.commandline.specs.Invocations.{IsOfFault, expected_words, line_word, line_words, watched_words}
use Rattle.commandline.specs.LineWords.{ArePaths, IsNoPath}
use Rattle.commandline.specs.declared.line_words.LineWordFault.{LineWordFault}
use Rattle.commandline.specs.declared.line_words.LineWordFault.TheVariants.{Again, NoLine, Shared}
use Rattle.commandline.specs.declared.word_fault.WordFault.{WordFault}
use Rattle.commandline.specs.declared.word_fault.WordFault.TheVariants.{Expected, Line, Watched}
use Rattle.commandline.specs.CommandLine.{HasWrongValue}

no_path : (text : Text) (fault : LineWordFault) → IsNoPath text fault → (from : Text) (to : Option Text)
    → ¬ ArePaths text from to
no_path text (NoLine word) is = is.1
no_path text (Again word) is = absurd is
no_path text (Shared word) is = absurd is

pub fault_is_wrong : (name : Text) (found : List Row) (fault : WordFault) → IsOfFault name found fault
    → HasWrongValue name found
fault_is_wrong name found (Line fault) of =
    elim of as (λ _. HasWrongValue name found) [
      | inl live ↦ inr (inl (inl (live.0, no_lines (line_words found) fault live.1)))
      | inr line ↦ inr (inl (inr (line.0, no_path (line_word found) fault line.1)))
    ]
fault_is_wrong name found (Expected fault) of =
    inr (inr (inl (of.0, not_expected (expected_words found) fault of.1)))
fault_is_wrong name found (Watched fault) of =
    let many = seventeen (watched_words found) fault of.1 in
    elim of.0 as (λ _. HasWrongValue name found) [
      | inl look ↦ inr (inr (inr (inr look, many)))
      | inr play ↦ inr (inr (inr (inl play.0, many)))
    ]
