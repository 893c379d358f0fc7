-- The first that asked a command, as a search finds it.
use Rattle.std.specs.Prelude.{MatchOption, All}
use Rattle.std.proofs.Common.{◌≡◌, ℕ, ◌<◌, List, length, Option, Some, None, Bor, refl, sym, ap, subst, arith}
use Rattle.std.specs.List.{AllWithin, HoldsAt}
use Rattle.std.proofs.lemmas.Option.{slice_get_read}
use Rattle.gearcmd.specs.declared.requests.Command.{Command}
use Rattle.buslink.specs.declared.marks.Outcome.{Outcome}
use Rattle.commissioning.specs.declared.asking.Asked.{Asked}
use Rattle.commissioning.specs.Surveys.{IsFirstOf}

abbrev Found : Command → List Asked → Asked → Type 0
Found command survey asked =
    (asked.command ≡ command) × (i : ℕ) × (i < length survey) × HoldsAt (λ (a : Asked). a ≡ asked) survey i
    × AllWithin (λ (a : Asked). ¬ (a.command ≡ command)) survey 0 i

-- what a search finds is the first; where it finds none, none asked it
pub first_asked : (command : Command) (survey : List Asked) (r : Option (Bor Asked))
    → MatchOption r (AllWithin (λ (a : Asked). ¬ (a.command ≡ command)) survey 0 (length survey))
    (λ x. Found command survey x.now)
    → MatchOption r (All (λ (a : Asked). ¬ (a.command ≡ command)) survey) (λ x. IsFirstOf command x.now survey)
first_asked command survey None none = λ k d within. none k d (omega arith) within
first_asked command survey (Some x) found = record {
  asks = found.0;
  place = found.1;
  there = slice_get_read survey (length survey) found.1 x.now refl found.2 (sym (found.3 x.now));
  none_before = found.4;
}

abbrev ended : Outcome → Command → Asked
ended outcome command = record { command = command; outcome = outcome }

-- its outcome is that of the command
pub first_outcome : (command : Command) (asked : Asked) (survey : List Asked) → IsFirstOf command asked survey
    → IsFirstOf command (record { command = command; outcome = asked.outcome }) survey
first_outcome command asked survey first =
    subst (λ (one : Asked). IsFirstOf command one survey)
    (ap (ended asked.outcome) first.asks) first
