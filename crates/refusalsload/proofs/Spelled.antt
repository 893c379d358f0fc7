-- Words that spell what is not taken.
use Rattle.std.proofs.Common.{List, Result, Ok, Err, OnOk, inl, inr}
use Rattle.std.specs.Prelude.{◌⊎◌}
use Rattle.clap.specs.Words.{Row, Text}
use Rattle.clap.specs.declared.error.Error.{Error}
use Rattle.commandline.specs.CommandLine.{AreTaken, IsConflicting, IsLacking, Spell}

-- what words spell they spell more widely too
pub spelled : (Small Large : Text → List Row → Type 0) (words : List Text)
    → ((name : Text) (found : List Row) → Small name found → Large name found) → Spell Small words → Spell Large words
spelled Small Large words more is = (is.0, is.1, is.2, more is.0 is.1 is.3)

pub none_taken : {T : Type 0} (words : List Text) (given : Result T Error) → AreTaken words given
    → Spell IsConflicting words ⊎ Spell IsLacking words → OnOk given ⊥
none_taken words (Ok made) taken (inl conflicts) = taken.1 conflicts
none_taken words (Ok made) taken (inr lacks) = taken.2 lacks
none_taken words (Err error) taken either = tt
