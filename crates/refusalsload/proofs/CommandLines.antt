-- Whole command lines: which are taken, and which are not.
use Rattle.std.proofs.Common.{◌≡◌, ℕ, ◌<◌, List, [], ◌∷◌, length, Option, Some, None, Result, Ok, Err, IfErr, OnOk}
use Rattle.std.proofs.Common.{codes, inl, inr, ap, refl, sym, subst, arith, lit≤}
use Rattle.std.specs.Prelude.{◌≤◌, IsSome, ⊤}
use Rattle.clap.specs.Faults.{defaults_fault, flags_fault, walk_fault}
use Rattle.clap.specs.Kinds.{IsAmong, Kinds}
use Rattle.clap.specs.Walk.{bundle_met, walked}
use Rattle.clap.specs.Words.{Row, Text, fault_of, first_of, kind_of, subcommand_of}
use Rattle.clap.specs.declared.error.Error.{Error}
use Rattle.clap.specs.declared.error.kind.ErrorKind.{ErrorKind}
use Rattle.clap.specs.declared.error.kind.ErrorKind.TheVariants.{OutOfMemory}
use Rattle.commandline.specs.ExpectedWords.{AreExpected}
use Rattle.commandline.specs.Invocations.{IsLineName, expected_words, watched_words}
use Rattle.commandline.specs.CommandLine.{AreTaken, HasPlayFiles, HasWrongValue, IsAtFault, IsConflicting}
use Rattle.commandline.specs.CommandLine.{IsLacking, NamesNoLines, Spell, command_line}

-- no kind of a fault
abbrev pub IsNone : Kinds → Type 0
IsNone [] = ⊤
IsNone (kind ∷ more) = ⊥

-- words in which `clap` finds a fault are not taken
pub refused : {T : Type 0} (words : List Text) (given : Result T Error) → AreTaken words given
    → ¬ IsNone (fault_of command_line words) → OnOk given ⊥
refused words (Ok made) taken at_fault = at_fault (subst IsNone (sym taken.0) tt)
refused words (Err error) taken at_fault = tt

-- words that are not at fault are not refused
pub not_refused : {T : Type 0} (words : List Text) (given : Result T Error) → AreTaken words given
    → fault_of command_line words ≡ [] → ((kind : ErrorKind) → ¬ Spell (IsAtFault kind) words)
    → IfErr given (λ error. kind_of error ≡ OutOfMemory)
not_refused words (Ok made) taken none fine = tt
not_refused words (Err error) (inl (inl memory)) none fine = memory
not_refused words (Err error) (inl (inr among)) none fine =
    absurd (subst (λ (kinds : Kinds). IsAmong (kind_of error) kinds) none among)
not_refused words (Err error) (inr at_fault) none fine = absurd (fine (kind_of error) at_fault.1)

abbrev first_byte : Text → ℕ
first_byte [] = 0
first_byte (byte ∷ bytes) = byte

not_conflicting : (found : List Row) → ¬ IsSome (first_of (codes "bind") found) → ¬ IsConflicting (codes "play") found
not_conflicting found none (inl beside) =
    let long : 4 ≡ 5 = ap (λ (text : Text). length text) beside.0 in omega (arith, long)
not_conflicting found none (inr twice) = none twice.0

not_lacking : (found : List Row) → HasPlayFiles found → ¬ IsLacking (codes "play") found
not_lacking found files (inl probe) =
    let long : 4 ≡ 5 = ap (λ (text : Text). length text) probe.0 in omega (arith, long)
not_lacking found files (inr (inl lacks)) = lacks.1 files
not_lacking found files (inr (inr (inl code))) = let first : 112 ≡ 99 = ap first_byte code.0 in omega (arith, first)
not_lacking found files (inr (inr (inr live))) = let first : 112 ≡ 108 = ap first_byte live.0 in omega (arith, first)

no_line : ¬ IsLineName (codes "play")
no_line (inl probe) = let long : 4 ≡ 5 = ap (λ (text : Text). length text) probe in omega (arith, long)
no_line (inr (inl listen)) = let long : 4 ≡ 6 = ap (λ (text : Text). length text) listen in omega (arith, long)
no_line (inr (inr (inl blink))) = let long : 4 ≡ 5 = ap (λ (text : Text). length text) blink in omega (arith, long)
no_line (inr (inr (inr ask))) = let long : 4 ≡ 3 = ap (λ (text : Text). length text) ask in omega (arith, long)

no_lines_named : (found : List Row) → ¬ NamesNoLines (codes "play") found
no_lines_named found (inl live) = let first : 112 ≡ 108 = ap first_byte live.0 in omega (arith, first)
no_lines_named found (inr line) = no_line line.0

no_wrong_value : (found : List Row) → AreExpected (expected_words found) [] → length (watched_words found) ≤ 16
    → ¬ HasWrongValue (codes "play") found
no_wrong_value found expected few (inl over) = let first : 112 ≡ 99 = ap first_byte over.0 in omega (arith, first)
no_wrong_value found expected few (inr (inl lines)) = no_lines_named found lines
no_wrong_value found expected few (inr (inr (inl unexpected))) = unexpected.1 [] expected
no_wrong_value found expected few (inr (inr (inr many))) = omega (arith, few, many.1)

-- a play that names its files, and no binding by an option, expects nothing and watches few names is not at fault
pub play_is_fine : (kind : ErrorKind) (found : List Row) → ¬ IsSome (first_of (codes "bind") found)
    → HasPlayFiles found → AreExpected (expected_words found) [] → length (watched_words found) ≤ 16
    → ¬ IsAtFault kind (codes "play") found
play_is_fine kind found none files expected few (inl conflict) = not_conflicting found none conflict.0
play_is_fine kind found none files expected few (inr (inl lack)) = not_lacking found files lack.0
play_is_fine kind found none files expected few (inr (inr wrong)) = no_wrong_value found expected few wrong.0

-- what was found is not at fault
abbrev pub IsFine : ErrorKind → Option (Text × List Row) → Type 0
IsFine kind None = ⊤
IsFine kind (Some found) = ¬ IsAtFault kind found.0 found.1

pub none_at_fault : (kind : ErrorKind) (words : List Text) → IsFine kind (subcommand_of command_line words)
    → ¬ Spell (IsAtFault kind) words
none_at_fault kind words fine spelled = subst (IsFine kind) spelled.2 fine spelled.3

-- ---- whole lines

abbrev pub great_information : List Text
great_information =
    codes "dalictl" ∷ codes "event" ∷ codes "BIND" ∷ codes "0.0" ∷ codes "1024" ∷ []

pub information_at_fault : ¬ IsNone (fault_of command_line great_information)
unfolding walk_fault walked defaults_fault flags_fault bundle_met
information_at_fault none = none

abbrev pub other_end : List Text
other_end =
    codes "dalictl" ∷ codes "live" ∷ codes "TEXT" ∷ codes "BIND" ∷ codes "--line" ∷ codes "0=PATH" ∷ codes "--end" ∷ []

pub end_at_fault : ¬ IsNone (fault_of command_line other_end)
unfolding walk_fault walked defaults_fault flags_fault bundle_met
end_at_fault none = none

abbrev pub two_watched : List Text
two_watched =
    codes "dalictl"
    ∷ codes "play"
    ∷ codes "TEXT"
    ∷ codes "BIND"
    ∷ codes "DAY"
    ∷ codes "--watch"
    ∷ codes "A"
    ∷ codes "--watch"
    ∷ codes "B"
    ∷ []

pub watched_without_fault : fault_of command_line two_watched ≡ []
unfolding walk_fault walked defaults_fault flags_fault bundle_met
watched_without_fault = refl

abbrev rows_in : Option (Text × List Row) → List Row
rows_in None = []
rows_in (Some found) = found.1

pub watched_is_fine : (kind : ErrorKind) → IsFine kind (subcommand_of command_line two_watched)
unfolding walk_fault walked defaults_fault flags_fault bundle_met
watched_is_fine kind =
    play_is_fine kind (rows_in (subcommand_of command_line two_watched)) (λ some. cc) (refl, inr refl)
    (record { each = tt; few = lit≤ tt }) (lit≤ tt)
