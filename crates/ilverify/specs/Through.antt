-- What is counted at most on the ways from a word of a function to its body's end: words, or calls of request blocks.
use Rattle.std.specs.Prelude.{ℕ, ◌+◌, ◌==◌, max, List, Option, Some, None, get_or, if◌then◌else◌}
use Rattle.iltypes.specs.declared.condition.Condition.TheVariants.{Always}
use Rattle.ilcode.specs.declared.word.Word.{Word}
use Rattle.ilcode.specs.declared.word.Word.TheVariants as words
use Rattle.ilcode.specs.Listings.{Listing, end_of}
use Rattle.ilcode.specs.Paths.{may_request}
use Rattle.ilcode.specs.Steps.{is_target}
use Rattle.ilverify.specs.declared.through.Counted.{Counted}
use Rattle.ilverify.specs.declared.through.Counted.TheVariants.{Words, Requests}
use Rattle.ilverify.specs.Tables.{plus, AreDone}

abbrev pub plus_if : Option ℕ → Option ℕ → Option ℕ
plus_if (Some a) (Some b) = Some (plus a b)
plus_if _ _ = None

abbrev pub max_if : Option ℕ → Option ℕ → Option ℕ
max_if (Some a) (Some b) = Some (max a b)
max_if None b = b
max_if a None = a

-- what a word counts by itself
abbrev pub weight : Listing → Counted → Word → ℕ
weight code Words word = 1
weight code Requests word = if may_request code word then 1 else 0

-- what is kept for a place of a body that ends there
abbrev pub through_at : List (Option ℕ) → ℕ → ℕ → Option ℕ
through_at through end place = if place == end then Some 0 else get_or through place None

-- for a jump's target, where that is lawful
abbrev pub through_to : Listing → List (Option ℕ) → ℕ → ℕ → ℕ → Option ℕ
through_to code through end place target =
    if is_target code place target then through_at through end target else None

-- for a function
abbrev pub through_in : Listing → List (Option ℕ) → ℕ → Option ℕ
through_in code through function = through_at through (end_of code (function + 1)) (end_of code function)

-- behind a word, by what is kept for its successors
abbrev pub through_after : Listing → List (Option ℕ) → ℕ → ℕ → Word → Option ℕ
through_after code through end place (words.Jump Always target) = through_to code through end place target
through_after code through end place (words.Jump condition target) =
    max_if (through_at through end (place + 1)) (through_to code through end place target)
through_after code through end place (words.Invoke function) =
    plus_if (through_in code through function) (through_at through end (place + 1))
through_after code through end place word = through_at through end (place + 1)

-- from a word on
abbrev pub through_from : Listing → Counted → List (Option ℕ) → ℕ → ℕ → Word → Option ℕ
through_from code counted through end place word =
    plus_if (Some (weight code counted word)) (through_after code through end place word)

-- all functions are filled in
abbrev pub AreThrough : Listing → Counted → List (Option ℕ) → Type 0
AreThrough code counted through = AreDone code None (through_from code counted) through 0
