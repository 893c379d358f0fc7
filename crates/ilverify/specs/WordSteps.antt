-- What the steps of after_word give.
use Rattle.std.specs.Prelude.{ℕ, nat_lt, if◌then◌else◌, Result, Ok, Err}
use Rattle.ilcode.specs.declared.word.Word.{Word}
use Rattle.ilcode.specs.declared.word.Word.TheVariants as words
use Rattle.ilcode.specs.Listings.{Listing}
use Rattle.ilcode.specs.Steps.{is_target}
use Rattle.ilverify.specs.declared.cause.Cause.{Cause}
use Rattle.ilverify.specs.declared.cause.Cause.TheVariants as causes
use Rattle.ilverify.specs.declared.change.Changes.{Changes}
use Rattle.ilverify.specs.declared.entry.Entry.{Entry}
use Rattle.ilverify.specs.Causes.{refusal_number}
use Rattle.ilverify.specs.Refusals.{ArisesAtJump}
use Rattle.ilverify.specs.Rules.{Ways, AreOnward, IsEntryAfter, AreJumped}

-- no cause arises
abbrev pub NoneArises : (Cause → Type 0) → Type 0
NoneArises Arising = (cause : Cause) → ¬ Arising cause

-- what is known on each way from the word, at which no cause of its own arises; from any word but a jump that follows
-- from what is known after it
abbrev pub IsJudged : Listing → ℕ → Entry → Word → Ways → Type 0
IsJudged code place entry (words.Jump condition target) ways =
    NoneArises (ArisesAtJump condition (is_target code place target) entry.result) × AreJumped condition entry ways
IsJudged code place entry word ways = AreOnward (IsEntryAfter code place entry word) ways

-- the cause at a word after which a parenthesis stays open: one of its own with a lower number goes before
abbrev pub least_beside : Result Changes Cause → Cause
least_beside (Ok changes) = causes.OpenNesting
least_beside (Err cause) = if nat_lt (refusal_number cause) 5 then cause else causes.OpenNesting
