-- How many words there are at most on the paths from a word on that do not leave its body but by a call.
use Rattle.std.specs.Prelude.{ℕ, ◌+◌, ◌==◌, nat_le, max, List, Option, Some, None, get_or, if◌then◌else◌}
use Rattle.limits.specs.Limits.{most_steps}
use Rattle.iltypes.specs.declared.condition.Condition.TheVariants.{Always}
use Rattle.ilcode.specs.declared.word.Word.{Word}
use Rattle.ilcode.specs.declared.word.Word.TheVariants as words
use Rattle.ilcode.specs.Listings.{Listing, IsLawful, start_of, end_of}
use Rattle.ilcode.specs.Steps.{is_target}
use Rattle.ilverify.specs.declared.through.Counted.TheVariants.{Words}
use Rattle.ilverify.specs.Calls.{HasGoodCalls}
use Rattle.ilverify.specs.Tables.{plus, AreRightFrom}
use Rattle.ilverify.specs.Through.{through_in, AreThrough}

-- what is kept for a place of a body that ends there
abbrev pub longest_at : List ℕ → ℕ → ℕ → ℕ
longest_at longest end place = if place == end then 0 else get_or longest place 0

-- for a jump's target, where that is lawful
abbrev pub longest_to : Listing → List ℕ → ℕ → ℕ → ℕ → ℕ
longest_to code longest end place target = if is_target code place target then longest_at longest end target else 0

-- for a function
abbrev pub longest_in : Listing → List ℕ → ℕ → ℕ
longest_in code longest function = longest_at longest (end_of code (function + 1)) (end_of code function)

-- on a way that goes on behind a function, if one leads through it
abbrev pub longest_behind : Option ℕ → ℕ → ℕ
longest_behind (Some through) longest = plus through longest
longest_behind None longest = 0

-- behind a word, by what is kept for its successors
abbrev pub longest_after : Listing → List (Option ℕ) → List ℕ → ℕ → ℕ → Word → ℕ
longest_after code through longest end place (words.Jump Always target) = longest_to code longest end place target
longest_after code through longest end place (words.Jump condition target) =
    max (longest_at longest end (place + 1)) (longest_to code longest end place target)
longest_after code through longest end place (words.Invoke function) =
    max (longest_in code longest function)
    (longest_behind (through_in code through function) (longest_at longest end (place + 1)))
longest_after code through longest end place word = longest_at longest end (place + 1)

-- from a word on
abbrev pub longest_from : Listing → List (Option ℕ) → List ℕ → ℕ → ℕ → Word → ℕ
longest_from code through longest end place word = plus 1 (longest_after code through longest end place word)

-- the number, where it is within the limit
abbrev pub limited : ℕ → Option ℕ
limited words = if nat_le words most_steps then Some words else None

-- all numbers are right
pub record AreRight (code : Listing) (through : List (Option ℕ)) (longest : List ℕ) : Type 0 where
  pub good : HasGoodCalls code
  pub lawful : IsLawful code
  pub ways : AreThrough code Words through
  pub each : (body : ℕ) → AreRightFrom code 0 (longest_from code through) longest body (start_of code body)
