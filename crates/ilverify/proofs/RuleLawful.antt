-- Where a word leaves something no cause arises at it.
use Rattle.std.proofs.Common.{◌≡◌, ℕ, ℤ, List, [], ◌∷◌, Option, Some, None, Bool, true, false, refl, sym, subst, inl}
use Rattle.std.proofs.Common.{inr}
use Rattle.std.specs.Prelude.{IsNone, IsSome, IsTrue, slice_get}
use Rattle.iltypes.specs.declared.range.Range.{Range}
use Rattle.iltypes.specs.declared.value.IlType.{IlType}
use Rattle.iltypes.specs.declared.value.IlType.TheVariants as types
use Rattle.iltypes.specs.declared.value.Value.{Value}
use Rattle.iltypes.specs.declared.value.Value.TheVariants as values
use Rattle.iltypes.specs.Values.{IsOf}
use Rattle.iltypes.proofs.Limits.{holds_low}
use Rattle.iltypes.specs.declared.function.Function.{Function}
use Rattle.iltypes.specs.declared.function.Function.TheVariants as functions
use Rattle.iltypes.specs.declared.operator.Operator.{Operator}
use Rattle.iltypes.specs.Functions.{modified, value_of_function}
use Rattle.ilcode.specs.BlockKind.{BlockKind}
use Rattle.ilcode.specs.declared.word.Target.TheVariants as variables
use Rattle.ilcode.specs.declared.word.Word.{Word}
use Rattle.ilcode.specs.declared.word.Word.TheVariants as words
use Rattle.ilcode.specs.Listings.{Listing}
use Rattle.ilverify.specs.declared.cause.Cause.{Cause}
use Rattle.ilverify.specs.declared.cause.Cause.TheVariants as causes
use Rattle.ilverify.specs.declared.entry.Entry.{Entry}
use Rattle.ilverify.specs.declared.known.Known.{Known}
use Rattle.ilverify.specs.declared.known.Known.TheVariants as knowns
use Rattle.ilverify.specs.declared.nesting.KnownOpened.{KnownOpened}
use Rattle.ilverify.specs.Operands.{known_of, type_of_variable, in_programs, may_name, may_set, may_store, may_write}
use Rattle.ilverify.specs.Functions.{IsAfterFunction}
use Rattle.ilverify.specs.Knowns.{IsKnown, ArisesAtStore}
use Rattle.ilverify.specs.Refusals as refusals
use Rattle.ilverify.specs.Rules as rules
use Rattle.ilverify.proofs.Knowns.{example, kind_of_known, stored_within, of_kind}
use Rattle.ilverify.proofs.ResultCauses.{not_both, refuted}
use Rattle.ilverify.proofs.FunctionRanges.{no_cause}
use Rattle.ilverify.proofs.OrderOperators.{given}

-- ---- what is stored and loaded

-- each value that is known has one under the modifier
pub modified_value : (negated : Bool) (known after : Known) → rules.IsModified negated known after → (x : Value)
    → IsKnown x known → (y : Value) × (modified negated x ≡ Some y) × IsKnown y after
modified_value true known after h x p =
    let v = given (value_of_function functions.Not x) (h.some x p) in
    (v.0, v.1, h.each v.0 (record { x = x; of_operand = p; is = v.1 }))
modified_value false known after h x p = (x, refl, subst (IsKnown x) h p)

modified_takes : (negated : Bool) (known after : Known) → rules.IsModified negated known after
    → ¬ refusals.IsWrongForLoad negated (Some known)
modified_takes negated known after h a =
    let x = example known in
    let y = modified_value negated known after h x.0 x.1 in
    let n = a x.0 (kind_of_known x.0 known x.1) in
    let e = y.1 in
    let k : ⊥ = cc in k

pub loaded_lawful : (negated : Bool) (operand : Option Known) (named : Bool) (known : Known) → IsTrue named
    → rules.IsLoaded negated operand known → (cause : Cause) → ¬ refusals.ArisesAtLoad negated operand named cause
loaded_lawful negated None named known t h cause a = absurd h
loaded_lawful negated (Some operand) named known t h causes.WrongType a = modified_takes negated operand known h a
loaded_lawful negated (Some operand) named known t h causes.BadSlot (inl n) = let k : ⊥ = cc in k
loaded_lawful negated (Some operand) named known t h causes.BadSlot (inr n) = n t
loaded_lawful negated (Some operand) named known t h _ a = a

stored_takes : (negated : Bool) (known stored : Known) (type : IlType) → rules.IsModified negated known stored
    → ((v : Value) → IsKnown v stored → IsOf v type) → ¬ refusals.IsWrongForStore negated (Some known) (Some type)
stored_takes negated known stored type m h a =
    let x = example known in
    let y = modified_value negated known stored m x.0 x.1 in
    a x.0 y.0 (kind_of_known x.0 known x.1) y.1 (of_kind y.0 type (h y.0 y.2))

not_number : (z : ℤ) → IsNone (value_of_function functions.Not (values.Int z))
not_number z = refl

pub no_number : (range : Range) (stored : Known) → ¬ IsAfterFunction functions.Not (knowns.Int range) stored
no_number range stored h =
    not_both (value_of_function functions.Not (values.Int range.lo)) (h.some (values.Int range.lo) (holds_low range))
    (not_number range.lo)

pub no_truth_out : (type : IlType) (found allowed : Range)
    → ¬ ArisesAtStore knowns.Bool type (causes.OutOfRange found allowed)
no_truth_out types.Bool found allowed a = a
no_truth_out (types.Int d) found allowed a = a

-- a number that is stored is within the slot's range
pub not_out : (negated : Bool) (known stored : Known) (type : IlType) (found allowed : Range)
    → rules.IsModified negated known stored → ((v : Value) → IsKnown v stored → IsOf v type)
    → ¬ ArisesAtStore known type (causes.OutOfRange found allowed)
not_out negated knowns.Bool stored type found allowed m h a = no_truth_out type found allowed a
not_out negated (knowns.Int r) stored types.Bool found allowed m h a = absurd a
not_out true (knowns.Int r) stored (types.Int d) found allowed m h a = no_number r stored m
not_out false (knowns.Int r) stored (types.Int d) found allowed m h a =
    let k = subst (λ (s : Known). (v : Value) → IsKnown v s → IsOf v (types.Int d)) (sym m) h in
    a.2 (stored_within r d k)

may_be_written : (type : IlType) (writable : Bool) → IsTrue writable → ¬ refusals.IsNotWritten (Some type) writable
may_be_written type writable w (inl n) = let k : ⊥ = cc in k
may_be_written type writable w (inr n) = n w

pub stored_lawful : (negated : Bool) (result : Option Known) (type : Option IlType) (writable : Bool) (stored : Known)
    → IsTrue writable → rules.IsStored negated result type stored → (cause : Cause)
    → ¬ refusals.ArisesAtStoring negated result type writable cause
stored_lawful negated None type writable stored w h cause a = absurd h
stored_lawful negated (Some known) None writable stored w h cause a = absurd h
stored_lawful negated (Some known) (Some type) writable stored w h causes.WrongType a =
    stored_takes negated known stored type h.0 h.1 a
stored_lawful negated (Some known) (Some type) writable stored w h causes.NoResult a = let k : ⊥ = cc in k
stored_lawful negated (Some known) (Some type) writable stored w h (causes.OutOfRange found allowed) a =
    not_out negated known stored type found allowed h.0 h.1 a
stored_lawful negated (Some known) (Some type) writable stored w h causes.BadSlot a = may_be_written type writable w a
stored_lawful negated (Some known) (Some type) writable stored w h _ a = a

pub passed_lawful : (operand : Option Known) (named : Bool) (type : Option IlType) (writable : Bool) (stored : Known)
    → IsTrue named → IsTrue writable → rules.IsStored false operand type stored → (cause : Cause)
    → ¬ refusals.ArisesAtPass operand named type writable cause
passed_lawful None named type writable stored t w h cause a = absurd h
passed_lawful (Some known) named None writable stored t w h cause a = absurd h
passed_lawful (Some known) named (Some type) writable stored t w h causes.WrongType a =
    stored_takes false known stored type h.0 h.1 a
passed_lawful (Some known) named (Some type) writable stored t w h (causes.OutOfRange found allowed) a =
    not_out false known stored type found allowed h.0 h.1 a
passed_lawful (Some known) named (Some type) writable stored t w h causes.BadSlot (inl (inl n)) =
    let k : ⊥ = cc in k
passed_lawful (Some known) named (Some type) writable stored t w h causes.BadSlot (inl (inr n)) = n t
passed_lawful (Some known) named (Some type) writable stored t w h causes.BadSlot (inr n) =
    may_be_written type writable w n
passed_lawful (Some known) named (Some type) writable stored t w h _ a = absurd a

-- ---- operators and functions

applied_lawful : (operator : Operator) (left right : Option Known) (known : Known)
    → rules.IsApplied operator left right known → (cause : Cause)
    → ¬ refusals.ArisesAtOperator operator left right cause
applied_lawful operator None right known h cause a = absurd h
applied_lawful operator (Some l) None known h cause a = absurd h
applied_lawful operator (Some l) (Some r) known h causes.WrongType a = refuted operator l r h.some causes.WrongType a
applied_lawful operator (Some l) (Some r) known h cause a = refuted operator l r h.some cause a

pub apply_lawful : (operator : Operator) (result operand : Option Known) (named : Bool) (known : Known) → IsTrue named
    → rules.IsApplied operator result operand known → (cause : Cause)
    → ¬ refusals.ArisesAtApply operator result operand named cause
apply_lawful operator None operand named known t h cause a = absurd h
apply_lawful operator (Some l) None named known t h cause a = absurd h
apply_lawful operator (Some l) (Some r) named known t h causes.NoResult a = let k : ⊥ = cc in k
apply_lawful operator (Some l) (Some r) named known t h causes.BadSlot (inl n) = let k : ⊥ = cc in k
apply_lawful operator (Some l) (Some r) named known t h causes.BadSlot (inr n) = n t
apply_lawful operator (Some l) (Some r) named known t h cause a =
    applied_lawful operator (Some l) (Some r) known h cause a

pub closing_lawful : (operator : Operator) (saved : Known) (result : Option Known) (known : Known)
    → rules.IsApplied operator (Some saved) result known → (cause : Cause)
    → ¬ refusals.ArisesAtClosing operator saved result cause
closing_lawful operator saved None known h cause a = absurd h
closing_lawful operator saved (Some r) known h causes.NoResult a = let k : ⊥ = cc in k
closing_lawful operator saved (Some r) known h cause a =
    applied_lawful operator (Some saved) (Some r) known h cause a

pub transformed_lawful : (function : Function) (result : Option Known) (known : Known)
    → rules.IsTransformed function result known → (cause : Cause)
    → ¬ refusals.ArisesAtTransform function result cause
transformed_lawful function None known h cause a = absurd h
transformed_lawful function (Some operand) known h cause a = no_cause function operand h.some cause a

-- ---- the other words

pub set_lawful : (result : Option Known) (type : Option IlType) (writable : Bool) → IsTrue writable
    → rules.MaySet result type → (cause : Cause) → ¬ refusals.ArisesAtSet result type writable cause
set_lawful None type writable w h cause a = absurd h
set_lawful (Some (knowns.Int r)) type writable w h cause a = absurd h
set_lawful (Some knowns.Bool) None writable w h cause a = absurd h
set_lawful (Some knowns.Bool) (Some (types.Int d)) writable w h cause a = absurd h
set_lawful (Some knowns.Bool) (Some types.Bool) writable w h causes.WrongType (inl n) = n tt
set_lawful (Some knowns.Bool) (Some types.Bool) writable w h causes.WrongType (inr n) = n tt
set_lawful (Some knowns.Bool) (Some types.Bool) writable w h causes.NoResult a = let k : ⊥ = cc in k
set_lawful (Some knowns.Bool) (Some types.Bool) writable w h causes.BadSlot a = may_be_written types.Bool writable w a
set_lawful (Some knowns.Bool) (Some types.Bool) writable w h _ a = absurd a

there : (kind : Option BlockKind) → IsSome kind → ¬ IsNone kind
there None s n = let k : ⊥ = cc in k
there (Some kind) s n = let k : ⊥ = cc in k

pub call_lawful : (kind : Option BlockKind) (programs : Bool) → IsTrue programs → IsSome kind → (cause : Cause)
    → ¬ refusals.ArisesAtCall kind programs cause
call_lawful kind programs t h causes.BadSlot (inl n) = there kind h n
call_lawful kind programs t h causes.BadSlot (inr n) = n t
call_lawful kind programs t h _ a = a

open_lawful : (entry after : Entry) (operator : Operator) (result : Option Known)
    → rules.Opens entry operator result after → (cause : Cause) → ¬ refusals.ArisesAtOpen result cause
open_lawful entry after operator None h cause a = absurd h
open_lawful entry after operator (Some saved) h causes.NoResult a = let k : ⊥ = cc in k
open_lawful entry after operator (Some saved) h _ a = a

close_lawful : (entry after : Entry) (nesting : List KnownOpened) → rules.Closes entry nesting after
    → (cause : Cause) → ¬ refusals.ArisesAtClose nesting entry.result cause
close_lawful entry after [] h cause a = absurd h
close_lawful entry after (innermost ∷ nesting) h cause a =
    closing_lawful innermost.operator innermost.saved entry.result h.known h.given cause a

-- where a word leaves something for the next place alone no cause arises at it before its parentheses
pub lawful_before : (code : Listing) (place : ℕ) (entry : Entry) (word : Word) (after : Entry)
    → rules.IsEntryAfter code place entry word after → (cause : Cause)
    → ¬ refusals.ArisesBeforeNesting code place entry word cause
lawful_before code place entry (words.Load negated operand) after h cause a =
    loaded_lawful negated (known_of code entry operand) (may_name code place operand) h.1.known h.0 h.1.given cause a
lawful_before code place entry (words.Apply operator operand) after h cause a =
    apply_lawful operator entry.result (known_of code entry operand) (may_name code place operand) h.1.known h.0
    h.1.given cause a
lawful_before code place entry (words.Transform function) after h cause a =
    transformed_lawful function entry.result h.known h.given cause a
lawful_before code place entry (words.Store negated variable) after h cause a =
    stored_lawful negated entry.result (type_of_variable code variable) (may_store negated code place variable)
    h.1.stored h.0 h.1.written cause a
lawful_before code place entry (words.Set variable) after h cause a =
    set_lawful entry.result (type_of_variable code variable) (may_set code place variable) h.0 h.1 cause a
lawful_before code place entry (words.Reset variable) after h cause a =
    set_lawful entry.result (type_of_variable code variable) (may_set code place variable) h.0 h.1 cause a
lawful_before code place entry (words.Pass port block operand) after h cause a =
    let input = variables.Port port block in
    passed_lawful (known_of code entry operand) (may_name code place operand) (type_of_variable code input)
    (may_write code place input) h.2.stored h.0 h.1 h.2.passed cause a
lawful_before code place entry (words.Call block) after h cause a =
    call_lawful (slice_get code.kinds block) (in_programs code place) h.0 h.1 cause a
lawful_before code place entry (words.Open operator) after h cause a =
    open_lawful entry after operator entry.result h cause a
lawful_before code place entry words.Close after h cause a = close_lawful entry after entry.nesting h cause a
lawful_before code place entry (words.Jump condition target) after h cause a = absurd h
lawful_before code place entry (words.Give operand slot) after h cause a =
    let given = variables.Slot slot in
    passed_lawful (known_of code entry operand) (may_name code place operand) (type_of_variable code given)
    (may_write code place given) h.2.stored h.0 h.1 h.2.given cause a
lawful_before code place entry (words.Invoke function) after h cause a = a
