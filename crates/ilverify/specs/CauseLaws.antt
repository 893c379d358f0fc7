-- A cause stands for a run that goes wrong (profile): where it arises, the word is undefined from some configuration
-- that is as the entry says.
use Rattle.std.specs.Prelude.{◌≡◌, ℕ, ◌⊎◌, Bool, map, None, IsTrue, ⊤}
use Rattle.std.specs.List.{AllZip}
use Rattle.ilcode.specs.declared.word.Target.{Target}
use Rattle.ilcode.specs.declared.word.Target.TheVariants as variables
use Rattle.ilcode.specs.declared.word.Word.{Word}
use Rattle.ilcode.specs.declared.word.Word.TheVariants as words
use Rattle.ilcode.specs.Listings.{Listing, body_at}
use Rattle.ilcode.specs.Steps.{Configuration, effect, body_of}
use Rattle.ilverify.specs.declared.cause.Cause.{Cause}
use Rattle.ilverify.specs.declared.cause.Cause.TheVariants as causes
use Rattle.ilverify.specs.declared.entry.Entry.{Entry}
use Rattle.ilverify.specs.Fits.{Fits}
use Rattle.ilverify.specs.Knowns.{known_of_type, IsKnownWithin}
use Rattle.ilverify.specs.Operands.{in_programs, may_name, may_set, may_store, may_write}
use Rattle.ilverify.specs.Refusals.{ArisesAtWord}

-- before the word at the place a run may stand as the entry says, its mark aside, and the word is undefined there
pub record IsUndefined (code : Listing) (place : ℕ) (entry : Entry) (word : Word) : Type 0 where
  pub at : Configuration
  pub there : at.place ≡ place
  pub body : body_of at.calls ≡ body_at code place
  pub fits : Fits code (record entry { mark = None }) at
  pub none : effect code at word ≡ None

-- of each slot at least its type is known
abbrev pub IsTyped : Listing → Entry → Type 0
IsTyped code entry = AllZip IsKnownWithin entry.slots (map known_of_type code.slots)

-- the causes that one step decides: not those of parentheses that stay open, of paths and of calls
abbrev pub IsOfStep : Cause → Type 0
IsOfStep causes.OpenNesting = ⊥
IsOfStep causes.TooManyRequests = ⊥
IsOfStep causes.TooLong = ⊥
IsOfStep causes.BadCall = ⊥
IsOfStep cause = ⊤

-- the body may not write what is stored to
abbrev pub IsOthers : Bool → Listing → ℕ → Target → Type 0
IsOthers may code place (variables.Slot slot) = ¬ IsTrue may
IsOthers may code place (variables.Port port block) = ¬ IsTrue (in_programs code place)

-- the word names what the body may not name, there or not
abbrev pub NamesOthers : Listing → ℕ → Word → Type 0
NamesOthers code place (words.Load negated operand) = ¬ IsTrue (may_name code place operand)
NamesOthers code place (words.Apply operator operand) = ¬ IsTrue (may_name code place operand)
NamesOthers code place (words.Store negated variable) =
    IsOthers (may_store negated code place variable) code place variable
NamesOthers code place (words.Set variable) = IsOthers (may_set code place variable) code place variable
NamesOthers code place (words.Reset variable) = IsOthers (may_set code place variable) code place variable
NamesOthers code place (words.Pass port block operand) =
    (¬ IsTrue (may_name code place operand)) ⊎ (¬ IsTrue (in_programs code place))
NamesOthers code place (words.Call block) = ¬ IsTrue (in_programs code place)
NamesOthers code place (words.Give operand slot) =
    (¬ IsTrue (may_name code place operand)) ⊎ (¬ IsTrue (may_write code place (variables.Slot slot)))
NamesOthers code place word = ⊥

-- the word is undefined somewhere, or it names what is another body's
abbrev pub IsWrong : Listing → ℕ → Entry → Word → Cause → Type 0
IsWrong code place entry word causes.BadSlot = IsUndefined code place entry word ⊎ NamesOthers code place word
IsWrong code place entry word cause = IsUndefined code place entry word

abbrev pub IsNoWhim : Word → Type 0
IsNoWhim word =
    (code : Listing) (place : ℕ) (met : Bool) (entry : Entry) (cause : Cause) → IsTyped code entry → IsOfStep cause
    → ArisesAtWord code place met entry word cause → IsWrong code place entry word cause
