-- What `clap` finds in the words of the command line.
use Rattle.std.proofs.Common.{◌≡◌, ◌∙◌, ap, ap₂, subst, List, [], Option, Some, None, true, Result, Ok, Err, refl}
use Rattle.std.proofs.Common.{sym, inl, inr}
use Rattle.std.specs.Prelude.{◌⊎◌, option_map, unwrap_or, IfErr, IfOk}
use Rattle.clap.specs.Words.{App, HasKind, HasMatchesOf, Row, Text, fault_of, is_simple, kind_of, subcommand_name_of}
use Rattle.clap.specs.Words.{subcommand_of, subcommand_rows_of}
use Rattle.clap.specs.Faults.{is_simple_and_free}
use Rattle.clap.specs.declared.error.Error.{Error}
use Rattle.clap.specs.declared.parser.matches.ArgMatches.{ArgMatches}
use Rattle.clap.specs.declared.parser.matches.ArgMatches.TheViews.{out-ArgMatches}
use Rattle.clap.specs.declared.error.kind.ErrorKind.TheVariants.{OutOfMemory}
use Rattle.commandline.specs.Invocations.{IsOfCommand}
use Rattle.commandline.specs.declared.invocations.Invocation.{Invocation}
use Rattle.commandline.specs.CommandLine.{AreTaken, HasWrongValue, IsAtFault, IsConflicting, IsInvocation, IsLacking}
use Rattle.commandline.specs.CommandLine.{Spell, command_line}

is_free : is_simple_and_free command_line ≡ true
is_free = refl

is_plain : is_simple command_line ≡ true
is_plain = refl

-- the name and the rows of a subcommand, each by itself, together
paired : (both : Option (Text × List Row)) (name : Text) (found : List Row)
    → Some name ≡ option_map (λ p. p.0) both → Some found ≡ option_map (λ p. p.1) both → both ≡ Some (name, found)
paired None name found is_name is_found = cc
paired (Some p) name found is_name is_found =
    let first : name ≡ p.0 = ap (λ (o : Option Text). unwrap_or o name) is_name in
    let second : found ≡ p.1 = ap (λ (o : Option (List Row)). unwrap_or o found) is_found in
    sym (ap₂ (λ (n : Text) (f : List Row). Some (n, f)) first second)

option_map_twice : {A B C : Type 0} (f : B → C) (g : A → B) (o : Option A)
    → option_map (λ x. f (g x)) o ≡ option_map f (option_map g o)
option_map_twice f g None = refl
option_map_twice f g (Some x) = refl

name_in_rows : (m : ArgMatches) → subcommand_name_of m ≡ option_map (λ p. p.0) (subcommand_rows_of m)
name_in_rows m = option_map_twice (λ (p : Text × List Row). p.0) _ (out-ArgMatches m).subcommand

module _ (words : List Text) (app : App) (is : app ≡ command_line) where
  pub no_fault : (is_simple_and_free app ≡ true → fault_of app words ≡ []) → fault_of command_line words ≡ []
  no_fault none = subst (λ (a : App). fault_of a words ≡ []) is (none (ap is_simple_and_free is ∙ is_free))

  pub its_fault : (error : Error) → (is_simple_and_free app ≡ true → HasKind (fault_of app words) error)
      → HasKind (fault_of command_line words) error
  its_fault error fails =
      subst (λ (a : App). HasKind (fault_of a words) error) is (fails (ap is_simple_and_free is ∙ is_free))

  pub entered : (m : ArgMatches) → HasMatchesOf app words m → subcommand_rows_of m ≡ subcommand_of command_line words
  entered m matches = (matches (ap is_simple is ∙ is_plain)).1 ∙ ap (λ (a : App). subcommand_of a words) is

  pub named : (m : ArgMatches) (name : Text) (found : List Row) → HasMatchesOf app words m
      → Some name ≡ subcommand_name_of m → Some found ≡ option_map (λ p. p.1) (subcommand_rows_of m)
      → subcommand_of command_line words ≡ Some (name, found)
  named m name found matches is_name is_found =
      let both = entered m matches in
      let first = is_name ∙ name_in_rows m ∙ ap (option_map (λ (p : Text × List Row). p.0)) both in
      let second = is_found ∙ ap (option_map (λ (p : Text × List Row). p.1)) both in
      paired _ name found first second

module _ (words : List Text) (name : Text) (found : List Row)
    (is : subcommand_of command_line words ≡ Some (name, found)) where
  -- what the words spell holds of what was found
  of_found : (Holds : Text → List Row → Type 0) → Spell Holds words → Holds name found
  of_found Holds spell =
      let pairs = ap (λ (o : Option (Text × List Row)). unwrap_or o (name, found)) (sym spell.2 ∙ is) in
      subst (λ (p : Text × List Row). Holds p.0 p.1) pairs spell.3

  -- where `clap` finds nothing at fault
  pub answered : (T : Type 0) (read : Result T Error) → fault_of command_line words ≡ []
      → IfOk read (λ _. ¬ IsConflicting name found × ¬ IsLacking name found × ¬ HasWrongValue name found)
      → IfErr read (λ error. (kind_of error ≡ OutOfMemory) ⊎ IsAtFault (kind_of error) name found)
      → AreTaken {T = T} words read
  answered T (Ok done) free neither refused = (
    free,
    λ two. neither.0 (of_found IsConflicting two),
    λ half. neither.1 (of_found IsLacking half),
    λ wrong. neither.2 (of_found HasWrongValue wrong),
  )
  answered T (Err error) free neither refused =
      elim refused as (λ _. AreTaken {T = T} words (Err error)) [
        | inl memory ↦ inl (inl memory)
        | inr fault ↦ inr (free, (name, found, is, fault))
      ]

  pub spelled : (read : Result Invocation Error) → IfOk read (IsOfCommand name found) → IfOk read (IsInvocation words)
  spelled (Ok invocation) of = (name, found, is, of)
  spelled (Err error) of = tt
