-- The least cause at a word is its own or a parenthesis that stays open, whichever has the lower number.
use Rattle.std.proofs.Common.{◌≡◌, ℕ, ◌<◌, ◌≤◌, List, [], ◌∷◌, length, Option, Some, None}
use Rattle.std.proofs.Common.{Result, Ok, Err, Bool, true, false}
use Rattle.std.proofs.Common.{refl, ap, sym, arith}
use Rattle.std.specs.Prelude.{nat_lt, MatchResult, if◌then◌else◌}
use Rattle.std.proofs.lemmas.Bool.Decides.{nat_tests}
use Rattle.iltypes.specs.declared.condition.Condition.{Condition}
use Rattle.iltypes.specs.declared.condition.Condition.TheVariants.{Always, IfTrue, IfFalse}
use Rattle.iltypes.specs.declared.function.Function.{Function}
use Rattle.iltypes.specs.declared.operator.Operator.{Operator}
use Rattle.ilcode.specs.declared.word.Word.{Word}
use Rattle.ilcode.specs.declared.word.Word.TheVariants as words
use Rattle.ilcode.specs.Listings.{Listing}
use Rattle.ilverify.specs.declared.cause.Cause.{Cause}
use Rattle.ilverify.specs.declared.cause.Cause.TheVariants as causes
use Rattle.ilverify.specs.declared.change.Change.{Change}
use Rattle.ilverify.specs.declared.change.Changes.{Changes}
use Rattle.ilverify.specs.declared.entry.Entry.{Entry}
use Rattle.ilverify.specs.declared.known.Known.{Known}
use Rattle.ilverify.specs.declared.nesting.KnownOpened.{KnownOpened}
use Rattle.ilverify.specs.Causes.{refusal_number, IsLeastCause}
use Rattle.ilverify.specs.Changes.{changed, ways_of}
use Rattle.ilverify.specs.WordSteps.{IsJudged, least_beside}
use Rattle.ilverify.specs.Refusals.{StaysOpen, open_after, ArisesBeforeNesting, ArisesAtWord, ArisesAtOperator}
use Rattle.ilverify.specs.Refusals.{ArisesAtTransform, ArisesAtClose, ArisesAtCondition}
use Rattle.ilverify.specs.Rules.{Ways, AreOnward, AreWaysOf, IsRule}
use Rattle.ilverify.proofs.RuleLawful.{lawful_before}

-- ---- what is judged

-- a word that leads to the next place alone
pub onward : (IsAfter : Entry → Type 0) (code : Listing) (entry : Entry) (changes : Changes) (change : Change)
    → changes.next ≡ Some change → changes.target ≡ None → IsAfter (changed code entry change)
    → AreOnward IsAfter (ways_of code entry changes)
onward IsAfter code entry changes change n t h = record {
  after = changed code entry change;
  leaves = h;
  next = rw n refl;
  target = rw t refl;
}

judged_lawful : (code : Listing) (place : ℕ) (entry : Entry) (word : Word) (ways : Ways)
    → IsJudged code place entry word ways → (cause : Cause) → ¬ ArisesBeforeNesting code place entry word cause
judged_lawful code place entry (words.Jump condition target) ways h cause a = h.0 cause a
judged_lawful code place entry word ways h cause a = lawful_before code place entry word h.after h.leaves cause a

judged_ways : (code : Listing) (place : ℕ) (entry : Entry) (word : Word) (ways : Ways)
    → IsJudged code place entry word ways → AreWaysOf code place entry word ways
judged_ways code place entry (words.Jump condition target) ways h = h.1
judged_ways code place entry word ways h = h

-- ---- open parentheses are no cause of the word's own

operator_closed : (operator : Operator) (left right : Option Known)
    → ¬ ArisesAtOperator operator left right causes.OpenNesting
operator_closed operator None right a = a
operator_closed operator (Some l) None a = a
operator_closed operator (Some l) (Some r) a = a

function_closed : (function : Function) (operand : Option Known)
    → ¬ ArisesAtTransform function operand causes.OpenNesting
function_closed function None a = a
function_closed function (Some known) a = a

close_closed : (nesting : List KnownOpened) (result : Option Known)
    → ¬ ArisesAtClose nesting result causes.OpenNesting
close_closed [] result a = a
close_closed (innermost ∷ nesting) result a =
    operator_closed innermost.operator (Some innermost.saved) result a

condition_closed : (condition : Condition) (result : Option Known)
    → ¬ ArisesAtCondition condition result causes.OpenNesting
condition_closed Always result a = a
condition_closed IfTrue result a = a
condition_closed IfFalse result a = a

closed_before : (code : Listing) (place : ℕ) (entry : Entry) (word : Word)
    → ¬ ArisesBeforeNesting code place entry word causes.OpenNesting
closed_before code place entry (words.Load negated operand) a = a
closed_before code place entry (words.Apply operator operand) a = operator_closed operator entry.result _ a
closed_before code place entry (words.Transform function) a = function_closed function entry.result a
closed_before code place entry (words.Store negated variable) a = a
closed_before code place entry (words.Set variable) a = a
closed_before code place entry (words.Reset variable) a = a
closed_before code place entry (words.Pass port block operand) a = a
closed_before code place entry (words.Call block) a = a
closed_before code place entry (words.Open operator) a = a
closed_before code place entry words.Close a = close_closed entry.nesting entry.result a
closed_before code place entry (words.Jump condition target) a = condition_closed condition entry.result a
closed_before code place entry (words.Give operand slot) a = a
closed_before code place entry (words.Invoke function) a = a

-- the word's own causes arise at it
to_word : (code : Listing) (place : ℕ) (met : Bool) (entry : Entry) (word : Word) (cause : Cause)
    → ArisesBeforeNesting code place entry word cause → ArisesAtWord code place met entry word cause
to_word code place met entry word causes.OpenNesting a = absurd (closed_before code place entry word a)
to_word code place met entry word cause a = a

no_other : (code : Listing) (place : ℕ) (met : Bool) (entry : Entry) (word : Word)
    → ((cause : Cause) → ¬ ArisesBeforeNesting code place entry word cause) → (cause : Cause)
    → ArisesAtWord code place met entry word cause → cause ≡ causes.OpenNesting
no_other code place met entry word n causes.OpenNesting a = refl
no_other code place met entry word n cause a = absurd (n cause a)

at_least : (code : Listing) (place : ℕ) (met : Bool) (entry : Entry) (word : Word) (bound : ℕ)
    → ((cause : Cause) → ArisesBeforeNesting code place entry word cause → bound ≤ refusal_number cause) → bound ≤ 5
    → (cause : Cause) → ArisesAtWord code place met entry word cause → bound ≤ refusal_number cause
at_least code place met entry word bound h l causes.OpenNesting a = l
at_least code place met entry word bound h l cause a = h cause a

-- ---- where a parenthesis stays open

-- the least cause is that, or one of the word's own with a lower number
pub open_refused : (code : Listing) (place : ℕ) (met : Bool) (entry : Entry) (word : Word)
    (judged : Result Changes Cause) → StaysOpen code place met word (open_after word (length entry.nesting))
    → MatchResult judged (λ changes. IsJudged code place entry word (ways_of code entry changes))
    (IsLeastCause (ArisesBeforeNesting code place entry word))
    → IsLeastCause (ArisesAtWord code place met entry word) (least_beside judged)
open_refused code place met entry word (Ok changes) s h = record {
  arises = s;
  least = λ other a.
      let e = no_other code place met entry word (judged_lawful code place entry word (ways_of code entry changes) h)
      other a in
      omega (arith, ap refusal_number (sym e));
}
open_refused code place met entry word (Err cause) s h = by_number (nat_lt (refusal_number cause) 5) refl
  where
    by_number : (b : Bool) → nat_lt (refusal_number cause) 5 ≡ b
        → IsLeastCause (ArisesAtWord code place met entry word) (if b then cause else causes.OpenNesting)
    by_number true e =
        let l : refusal_number cause < 5 = grind (arith, nat_tests) in
        record {
          arises = to_word code place met entry word cause h.arises;
          least = at_least code place met entry word (refusal_number cause) h.least (omega (arith, l));
        }
    by_number false e =
        let l : 5 ≤ refusal_number cause = grind (arith, nat_tests) in
        record {
          arises = s;
          least = at_least code place met entry word 5 (λ other a. omega (arith, l, h.least other a)) (omega arith);
        }

-- ---- where none does

is_rule : (code : Listing) (place : ℕ) (met : Bool) (entry : Entry) (word : Word) (ways : Ways)
    → ¬ StaysOpen code place met word (open_after word (length entry.nesting))
    → IsJudged code place entry word ways → IsRule code place met entry word ways
is_rule code place met entry word ways n h = record {
  lawful = λ cause a. lawful cause a;
  leaves = judged_ways code place entry word ways h;
}
  where
    lawful : (cause : Cause) → ¬ ArisesAtWord code place met entry word cause
    lawful causes.OpenNesting a = n a
    lawful cause a = judged_lawful code place entry word ways h cause a

to_before : (code : Listing) (place : ℕ) (met : Bool) (entry : Entry) (word : Word) (cause : Cause)
    → ¬ StaysOpen code place met word (open_after word (length entry.nesting))
    → ArisesAtWord code place met entry word cause → ArisesBeforeNesting code place entry word cause
to_before code place met entry word causes.OpenNesting n a = absurd (n a)
to_before code place met entry word cause n a = a

-- the rule is what is judged, and the least cause is the least of the word's own
pub closed_ruled : (code : Listing) (place : ℕ) (met : Bool) (entry : Entry) (word : Word)
    (judged : Result Changes Cause) → ¬ StaysOpen code place met word (open_after word (length entry.nesting))
    → MatchResult judged (λ changes. IsJudged code place entry word (ways_of code entry changes))
    (IsLeastCause (ArisesBeforeNesting code place entry word))
    → MatchResult judged (λ changes. IsRule code place met entry word (ways_of code entry changes))
    (IsLeastCause (ArisesAtWord code place met entry word))
closed_ruled code place met entry word (Ok changes) n h =
    is_rule code place met entry word (ways_of code entry changes) n h
closed_ruled code place met entry word (Err cause) n h = record {
  arises = to_word code place met entry word cause h.arises;
  least = λ other a. h.least other (to_before code place met entry word other n a);
}
