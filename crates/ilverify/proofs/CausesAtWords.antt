-- The least cause at a word is one: both ranges of a number out of range are those that are known there.
use Rattle.std.proofs.Common.{◌≡◌, ℕ, List, [], ◌∷◌, Option, Some, None, Bool}
use Rattle.iltypes.specs.declared.range.Range.{Range}
use Rattle.iltypes.specs.declared.value.IlType.{IlType}
use Rattle.iltypes.specs.declared.value.IlType.TheVariants as types
use Rattle.iltypes.specs.declared.condition.Condition.{Condition}
use Rattle.iltypes.specs.declared.condition.Condition.TheVariants.{Always, IfTrue, IfFalse}
use Rattle.iltypes.specs.declared.function.Function.{Function}
use Rattle.iltypes.specs.declared.operator.Operator.{Operator}
use Rattle.ilcode.specs.declared.word.Word.{Word}
use Rattle.ilcode.specs.declared.word.Word.TheVariants as words
use Rattle.ilcode.specs.declared.word.Target.TheVariants as variables
use Rattle.ilcode.specs.Listings.{Listing}
use Rattle.ilverify.specs.declared.cause.Cause.TheVariants.{OutOfRange}
use Rattle.ilverify.specs.declared.entry.Entry.{Entry}
use Rattle.ilverify.specs.declared.known.Known.{Known}
use Rattle.ilverify.specs.declared.known.Known.TheVariants as knowns
use Rattle.ilverify.specs.declared.nesting.KnownOpened.{KnownOpened}
use Rattle.ilverify.specs.Operands.{known_of, type_of_variable}
use Rattle.ilverify.specs.Refusals.{ArisesAtOperator, ArisesAtTransform, IsOutOfSlot, ArisesAtClose}
use Rattle.ilverify.specs.Refusals.{ArisesAtCondition, ArisesAtWord, HasOneCause}
use Rattle.ilverify.proofs.Causes as exact
use Rattle.ilverify.proofs.FunctionRanges.{same_outside}

-- no operator has a range that is allowed
not_outside : (operator : Operator) (left right : Option Known) (found allowed : Range)
    → ¬ ArisesAtOperator operator left right (OutOfRange found allowed)
not_outside operator None right found allowed h = h
not_outside operator (Some left) None found allowed h = h
not_outside operator (Some left) (Some right) found allowed h = h

same_transform : (function : Function) (operand : Option Known) (f a g b : Range)
    → ArisesAtTransform function operand (OutOfRange f a) → ArisesAtTransform function operand (OutOfRange g b)
    → OutOfRange f a ≡ OutOfRange g b
same_transform function None f a g b h k = absurd h
same_transform function (Some operand) f a g b h k = same_outside function operand f a g b h k

same_slot : (result : Option Known) (type : Option IlType) (f a g b : Range) → IsOutOfSlot result type f a
    → IsOutOfSlot result type g b → OutOfRange f a ≡ OutOfRange g b
same_slot None type f a g b h k = absurd h
same_slot (Some result) None f a g b h k = absurd h
same_slot (Some knowns.Bool) (Some types.Bool) f a g b h k = absurd h
same_slot (Some knowns.Bool) (Some (types.Int allowed)) f a g b h k = absurd h
same_slot (Some (knowns.Int found)) (Some types.Bool) f a g b h k = absurd h
same_slot (Some (knowns.Int found)) (Some (types.Int allowed)) f a g b h k =
    let p = h.0 in
    let q = h.1 in
    let r = k.0 in
    let s = k.1 in
    cc

none_at_close : (nesting : List KnownOpened) (result : Option Known) (f a : Range)
    → ¬ ArisesAtClose nesting result (OutOfRange f a)
none_at_close [] result f a h = h
none_at_close (innermost ∷ nesting) result f a h =
    not_outside innermost.operator (Some innermost.saved) result f a h

none_at_condition : (condition : Condition) (result : Option Known) (f a : Range)
    → ¬ ArisesAtCondition condition result (OutOfRange f a)
none_at_condition Always result f a h = h
none_at_condition IfTrue result f a h = h
none_at_condition IfFalse result f a h = h

same_ranges : (code : Listing) (place : ℕ) (met : Bool) (entry : Entry) (word : Word) (f a g b : Range)
    → ArisesAtWord code place met entry word (OutOfRange f a) → ArisesAtWord code place met entry word (OutOfRange g b)
    → OutOfRange f a ≡ OutOfRange g b
same_ranges code place met entry (words.Load negated operand) f a g b h k = absurd h
same_ranges code place met entry (words.Apply operator operand) f a g b h k =
    absurd (not_outside operator entry.result (known_of code entry operand) f a h)
same_ranges code place met entry (words.Transform function) f a g b h k =
    same_transform function entry.result f a g b h k
same_ranges code place met entry (words.Store negated variable) f a g b h k =
    same_slot entry.result (type_of_variable code variable) f a g b h k
same_ranges code place met entry (words.Set variable) f a g b h k = absurd h
same_ranges code place met entry (words.Reset variable) f a g b h k = absurd h
same_ranges code place met entry (words.Pass port block operand) f a g b h k =
    same_slot (known_of code entry operand) (type_of_variable code (variables.Port port block)) f a g b h k
same_ranges code place met entry (words.Call block) f a g b h k = absurd h
same_ranges code place met entry (words.Open operator) f a g b h k = absurd h
same_ranges code place met entry words.Close f a g b h k = absurd (none_at_close entry.nesting entry.result f a h)
same_ranges code place met entry (words.Jump condition target) f a g b h k =
    absurd (none_at_condition condition entry.result f a h)
same_ranges code place met entry (words.Give operand slot) f a g b h k =
    same_slot (known_of code entry operand) (type_of_variable code (variables.Slot slot)) f a g b h k
same_ranges code place met entry (words.Invoke function) f a g b h k = absurd h

pub one_cause : (word : Word) → HasOneCause word
one_cause word code place met entry one other h k =
    exact.one_cause (ArisesAtWord code place met entry word) one other (same_ranges code place met entry word) h k
