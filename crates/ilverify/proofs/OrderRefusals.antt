-- What is refused where more is known before a word is refused where less is.
use Rattle.std.proofs.Common.{ℕ, ◌+◌, List, [], ◌∷◌, Option, Some, None, Bool, true, false, IsTrue, inl, inr}
use Rattle.std.proofs.Common.{refl, sym, subst, arith}
use Rattle.std.specs.Prelude.{IsNone, IsSome, slice_get}
use Rattle.std.specs.List.{AllZip}
use Rattle.std.proofs.lemmas.Int.{ints}
use Rattle.std.proofs.lemmas.Slice.Zip.{AllZip-long}
use Rattle.iltypes.specs.declared.range.Range.{Range}
use Rattle.iltypes.specs.declared.value.IlType.{IlType}
use Rattle.iltypes.specs.declared.value.IlType.TheVariants as types
use Rattle.iltypes.specs.declared.value.Value.{Value}
use Rattle.iltypes.specs.declared.value.Value.TheVariants as values
use Rattle.iltypes.specs.Ranges.{IsWithin}
use Rattle.iltypes.specs.Values.{IsOf}
use Rattle.iltypes.specs.declared.condition.Condition.{Condition}
use Rattle.iltypes.specs.declared.condition.Condition.TheVariants.{Always, IfTrue, IfFalse}
use Rattle.iltypes.specs.declared.function.Function.{Function}
use Rattle.iltypes.specs.declared.operator.Operator.{Operator}
use Rattle.ilcode.specs.declared.word.Word.{Word}
use Rattle.ilcode.specs.declared.word.Word.TheVariants as words
use Rattle.ilcode.specs.declared.word.Target.TheVariants as variables
use Rattle.ilcode.specs.Listings.{Listing}
use Rattle.ilcode.specs.Steps.{is_target}
use Rattle.ilverify.specs.declared.cause.Cause.{Cause}
use Rattle.ilverify.specs.declared.cause.Cause.TheVariants as causes
use Rattle.ilverify.specs.declared.entry.Entry.{Entry}
use Rattle.ilverify.specs.declared.known.Known.{Known}
use Rattle.ilverify.specs.declared.known.Known.TheVariants as knowns
use Rattle.ilverify.specs.declared.nesting.KnownOpened.{KnownOpened}
use Rattle.ilcode.specs.BlockKind.{BlockKind}
use Rattle.ilverify.specs.Entries.{IsResultInto, IsOpenedInto, IsInto}
use Rattle.ilverify.specs.Operands.{known_of, type_of_variable, in_programs, may_name, may_set, may_store, may_write}
use Rattle.ilverify.specs.Knowns.{IsKnown, IsKnownWithin, ArisesAtStore}
use Rattle.ilverify.specs.Refusals as refusals
use Rattle.ilverify.specs.Rules as rules
use Rattle.ilverify.specs.Order.{KeepsWordRefusals}
use Rattle.ilverify.proofs.ResultCauses.{refuted}
use Rattle.ilverify.proofs.Knowns.{example, kind_of_known, of_kind, known_wider}
use Rattle.ilverify.proofs.FunctionRanges.{no_cause}
use Rattle.ilverify.proofs.RuleLawful.{modified_value, not_out, no_truth_out}
use Rattle.ilverify.proofs.OrderWords.{IsBothWithin, operand_within, both_into}

-- ---- loads and stores

load_kept : (negated : Bool) (operand wider : Option Known) (named : Bool) (after : Known)
    → IsBothWithin operand wider → IsTrue named → rules.IsLoaded negated wider after → (cause : Cause)
    → ¬ refusals.ArisesAtLoad negated operand named cause
load_kept negated operand None named after w t g cause a = absurd g
load_kept negated None (Some wider) named after w t g cause a = absurd w
load_kept negated (Some known) (Some wider) named after w t g causes.WrongType a =
    let x = example known in
    let y = modified_value negated wider after g x.0 (known_wider x.0 known wider w x.1) in
    let n = a x.0 (kind_of_known x.0 known x.1) in
    let e = y.1 in
    let k : ⊥ = cc in k
load_kept negated (Some known) (Some wider) named after w t g causes.BadSlot (inl n) = let k : ⊥ = cc in k
load_kept negated (Some known) (Some wider) named after w t g causes.BadSlot (inr n) = n t
load_kept negated (Some known) (Some wider) named after w t g _ a = a

within_through : (a b c : Range) → IsWithin a b → IsWithin b c → IsWithin a c
within_through a b c p q =
    record { low = omega (arith, ints, p.low, q.low); high = omega (arith, ints, p.high, q.high) }

out_kept : (negated : Bool) (known wider stored : Known) (type : IlType) (found allowed : Range)
    → IsKnownWithin known wider → rules.IsModified negated wider stored
    → ((v : Value) → IsKnown v stored → IsOf v type) → ¬ ArisesAtStore known type (causes.OutOfRange found allowed)
out_kept negated knowns.Bool wider stored type found allowed w m h a = no_truth_out type found allowed a
out_kept negated (knowns.Int r) wider stored types.Bool found allowed w m h a = a
out_kept negated (knowns.Int r) knowns.Bool stored (types.Int d) found allowed w m h a = w
out_kept negated (knowns.Int r) (knowns.Int s) stored (types.Int d) found allowed w m h a =
    not_out negated (knowns.Int s) stored (types.Int d) s d m h (refl, refl, λ k. a.2 (within_through r s d w k))

store_kept : (negated : Bool) (result wider : Option Known) (type : Option IlType) (writable : Bool) (stored : Known)
    → IsResultInto result wider → IsTrue writable → rules.IsStored negated wider type stored → (cause : Cause)
    → ¬ refusals.ArisesAtStoring negated result type writable cause
store_kept negated result None type writable stored w t g cause a = absurd g
store_kept negated result (Some wider) None writable stored w t g cause a = absurd g
store_kept negated None (Some wider) (Some type) writable stored w t g cause a = absurd w
store_kept negated (Some known) (Some wider) (Some type) writable stored w t g causes.WrongType a =
    let x = example known in
    let y = modified_value negated wider stored g.0 x.0 (known_wider x.0 known wider w x.1) in
    a x.0 y.0 (kind_of_known x.0 known x.1) y.1 (of_kind y.0 type (g.1 y.0 y.2))
store_kept negated (Some known) (Some wider) (Some type) writable stored w t g causes.NoResult a =
    let k : ⊥ = cc in k
store_kept negated (Some known) (Some wider) (Some type) writable stored w t g (causes.OutOfRange found allowed) a =
    out_kept negated known wider stored type found allowed w g.0 g.1 a
store_kept negated (Some known) (Some wider) (Some type) writable stored w t g causes.BadSlot (inl n) =
    let k : ⊥ = cc in k
store_kept negated (Some known) (Some wider) (Some type) writable stored w t g causes.BadSlot (inr n) = n t
store_kept negated (Some known) (Some wider) (Some type) writable stored w t g _ a = a

set_kept : (result wider : Option Known) (type : Option IlType) (writable : Bool) → IsResultInto result wider
    → IsTrue writable → rules.MaySet wider type → (cause : Cause)
    → ¬ refusals.ArisesAtSet result type writable cause
set_kept result None type writable w t g cause a = absurd g
set_kept result (Some (knowns.Int s)) type writable w t g cause a = absurd g
set_kept result (Some knowns.Bool) None writable w t g cause a = absurd g
set_kept result (Some knowns.Bool) (Some (types.Int d)) writable w t g cause a = absurd g
set_kept None (Some knowns.Bool) (Some types.Bool) writable w t g cause a = absurd w
set_kept (Some (knowns.Int r)) (Some knowns.Bool) (Some types.Bool) writable w t g cause a = absurd w
set_kept (Some knowns.Bool) (Some knowns.Bool) (Some types.Bool) writable w t g causes.WrongType (inl n) = n tt
set_kept (Some knowns.Bool) (Some knowns.Bool) (Some types.Bool) writable w t g causes.WrongType (inr n) = n tt
set_kept (Some knowns.Bool) (Some knowns.Bool) (Some types.Bool) writable w t g causes.NoResult a =
    let k : ⊥ = cc in k
set_kept (Some knowns.Bool) (Some knowns.Bool) (Some types.Bool) writable w t g causes.BadSlot (inl n) =
    let k : ⊥ = cc in k
set_kept (Some knowns.Bool) (Some knowns.Bool) (Some types.Bool) writable w t g causes.BadSlot (inr n) = n t
set_kept (Some knowns.Bool) (Some knowns.Bool) (Some types.Bool) writable w t g _ a = a

-- ---- arguments and calls

pass_kept : (operand wider : Option Known) (named : Bool) (type : Option IlType) (writable : Bool) (stored : Known)
    → IsBothWithin operand wider → IsTrue named → IsTrue writable → rules.IsStored false wider type stored
    → (cause : Cause) → ¬ refusals.ArisesAtPass operand named type writable cause
pass_kept operand None named type writable stored w n t g cause a = absurd g
pass_kept None (Some wider) named type writable stored w n t g cause a = absurd w
pass_kept (Some known) (Some wider) named type writable stored w n t g causes.WrongType a =
    store_kept false (Some known) (Some wider) type writable stored w t g causes.WrongType a
pass_kept (Some known) (Some wider) named type writable stored w n t g (causes.OutOfRange found allowed) a =
    store_kept false (Some known) (Some wider) type writable stored w t g (causes.OutOfRange found allowed) a
pass_kept (Some known) (Some wider) named type writable stored w n t g causes.BadSlot (inl (inl m)) =
    let k : ⊥ = cc in k
pass_kept (Some known) (Some wider) named type writable stored w n t g causes.BadSlot (inl (inr m)) = m n
pass_kept (Some known) (Some wider) named type writable stored w n t g causes.BadSlot (inr m) =
    store_kept false (Some known) (Some wider) type writable stored w t g causes.BadSlot m
pass_kept (Some known) (Some wider) named type writable stored w n t g _ a = a

-- whether an instance is there does not depend on what is known
call_kept : (kind : Option BlockKind) (programs : Bool) → IsTrue programs → IsSome kind → (cause : Cause)
    → ¬ refusals.ArisesAtCall kind programs cause
call_kept None programs t s cause a = let k : ⊥ = cc in k
call_kept (Some kind) programs t s causes.BadSlot (inl n) = let k : ⊥ = cc in k
call_kept (Some kind) programs t s causes.BadSlot (inr n) = n t
call_kept (Some kind) programs t s _ a = a

-- ---- operators and functions

operator_kept : (operator : Operator) (left right wider_left wider_right after : Known) → IsKnownWithin left wider_left
    → IsKnownWithin right wider_right → rules.IsApplied operator (Some wider_left) (Some wider_right) after
    → (cause : Cause) → ¬ refusals.ArisesAtOperator operator (Some left) (Some right) cause
operator_kept operator left right wider_left wider_right after w v g causes.WrongType a =
    refuted operator left right (λ x y p q. g.some x y (known_wider x left wider_left w p)
    (known_wider y right wider_right v q)) causes.WrongType a
operator_kept operator left right wider_left wider_right after w v g cause a =
    refuted operator left right (λ x y p q. g.some x y (known_wider x left wider_left w p)
    (known_wider y right wider_right v q)) cause a

apply_kept : (operator : Operator) (result wider operand wider_operand : Option Known) (named : Bool) (after : Known)
    → IsResultInto result wider → IsResultInto operand wider_operand → IsTrue named
    → rules.IsApplied operator wider wider_operand after → (cause : Cause)
    → ¬ refusals.ArisesAtApply operator result operand named cause
apply_kept operator result None operand wider_operand named after w v n g cause a = absurd g
apply_kept operator result (Some s) operand None named after w v n g cause a = absurd g
apply_kept operator None (Some s) operand (Some t) named after w v n g cause a = absurd w
apply_kept operator (Some l) (Some s) None (Some t) named after w v n g cause a = absurd v
apply_kept operator (Some l) (Some s) (Some r) (Some t) named after w v n g causes.NoResult a =
    let k : ⊥ = cc in k
apply_kept operator (Some l) (Some s) (Some r) (Some t) named after w v n g causes.BadSlot (inl m) =
    let k : ⊥ = cc in k
apply_kept operator (Some l) (Some s) (Some r) (Some t) named after w v n g causes.BadSlot (inr m) = m n
apply_kept operator (Some l) (Some s) (Some r) (Some t) named after w v n g cause a =
    operator_kept operator l r s t after w v g cause a

closing_kept : (operator : Operator) (saved wider_saved : Known) (result wider : Option Known) (after : Known)
    → IsKnownWithin saved wider_saved → IsResultInto result wider
    → rules.IsApplied operator (Some wider_saved) wider after → (cause : Cause)
    → ¬ refusals.ArisesAtClosing operator saved result cause
closing_kept operator saved wider_saved result None after w v g cause a = absurd g
closing_kept operator saved wider_saved None (Some t) after w v g cause a = absurd v
closing_kept operator saved wider_saved (Some r) (Some t) after w v g causes.NoResult a = let k : ⊥ = cc in k
closing_kept operator saved wider_saved (Some r) (Some t) after w v g cause a =
    operator_kept operator saved r wider_saved t after w v g cause a

transform_kept : (function : Function) (result wider : Option Known) (after : Known) → IsResultInto result wider
    → rules.IsTransformed function wider after → (cause : Cause)
    → ¬ refusals.ArisesAtTransform function result cause
transform_kept function result None after w g cause a = absurd g
transform_kept function None (Some wider) after w g cause a = absurd w
transform_kept function (Some known) (Some wider) after w g cause a =
    no_cause function known (λ x p. g.some x (known_wider x known wider w p)) cause a

-- ---- parentheses

open_kept : (entry after : Entry) (operator : Operator) (result wider : Option Known) → IsResultInto result wider
    → rules.Opens entry operator wider after → (cause : Cause) → ¬ refusals.ArisesAtOpen result cause
open_kept entry after operator result None w g cause a = absurd g
open_kept entry after operator None (Some wider) w g cause a = absurd w
open_kept entry after operator (Some known) (Some wider) w g causes.NoResult a = let k : ⊥ = cc in k
open_kept entry after operator (Some known) (Some wider) w g _ a = a

close_kept : (wider after : Entry) (nesting wider_nesting : List KnownOpened) (result : Option Known)
    → AllZip IsOpenedInto nesting wider_nesting → IsResultInto result wider.result
    → rules.Closes wider wider_nesting after → (cause : Cause) → ¬ refusals.ArisesAtClose nesting result cause
close_kept wider after nesting [] result n w g cause a = absurd g
close_kept wider after [] (y ∷ ys) result n w g cause a = absurd n
close_kept wider after (x ∷ xs) (y ∷ ys) result n w g cause a =
    closing_kept x.operator x.saved y.saved result wider.result g.known n.0.saved w
    (subst (λ (o : Operator). rules.IsApplied o (Some y.saved) wider.result g.known) (sym n.0.operator) g.given)
    cause a

-- ---- words

kept_before : (code : Listing) (place : ℕ) (entry wider : Entry) (word : Word) (after : Entry)
    → IsInto entry wider → rules.IsEntryAfter code place wider word after → (cause : Cause)
    → ¬ refusals.ArisesBeforeNesting code place entry word cause
kept_before code place entry wider (words.Load negated operand) after i g cause a =
    load_kept negated (known_of code entry operand) (known_of code wider operand) (may_name code place operand)
    g.1.known (operand_within code entry wider operand i) g.0 g.1.given cause a
kept_before code place entry wider (words.Apply operator operand) after i g cause a =
    apply_kept operator entry.result wider.result (known_of code entry operand) (known_of code wider operand)
    (may_name code place operand) g.1.known i.result (both_into _ _ (operand_within code entry wider operand i)) g.0
    g.1.given cause a
kept_before code place entry wider (words.Transform function) after i g cause a =
    transform_kept function entry.result wider.result g.known i.result g.given cause a
kept_before code place entry wider (words.Store negated variable) after i g cause a =
    store_kept negated entry.result wider.result (type_of_variable code variable)
    (may_store negated code place variable) g.1.stored i.result g.0 g.1.written cause a
kept_before code place entry wider (words.Set variable) after i g cause a =
    set_kept entry.result wider.result (type_of_variable code variable) (may_set code place variable) i.result g.0
    g.1 cause a
kept_before code place entry wider (words.Reset variable) after i g cause a =
    set_kept entry.result wider.result (type_of_variable code variable) (may_set code place variable) i.result g.0
    g.1 cause a
kept_before code place entry wider (words.Pass port block operand) after i g cause a =
    let input = variables.Port port block in
    pass_kept (known_of code entry operand) (known_of code wider operand) (may_name code place operand)
    (type_of_variable code input) (may_write code place input) g.2.stored (operand_within code entry wider operand i)
    g.0 g.1 g.2.passed cause a
kept_before code place entry wider (words.Call block) after i g cause a =
    call_kept (slice_get code.kinds block) (in_programs code place) g.0 g.1 cause a
kept_before code place entry wider (words.Open operator) after i g cause a =
    open_kept wider after operator entry.result wider.result i.result g cause a
kept_before code place entry wider words.Close after i g cause a =
    close_kept wider after entry.nesting wider.nesting entry.result i.nesting i.result g cause a
kept_before code place entry wider (words.Jump condition target) after i g cause a = absurd g
kept_before code place entry wider (words.Give operand slot) after i g cause a =
    let given = variables.Slot slot in
    pass_kept (known_of code entry operand) (known_of code wider operand) (may_name code place operand)
    (type_of_variable code given) (may_write code place given) g.2.stored (operand_within code entry wider operand i)
    g.0 g.1 g.2.given cause a
kept_before code place entry wider (words.Invoke function) after i g cause a = a

-- ---- jumps

none_kept : (result wider : Option Known) → IsResultInto result wider → IsNone result → IsNone wider
none_kept result None w n = refl
none_kept None (Some wider) w n = absurd w
none_kept (Some known) (Some wider) w n = let k : ⊥ = cc in absurd k

-- what is no truth value is none by the wider either, where there is a result
wrong_kept : (result wider : Option Known) → IsResultInto result wider → ¬ IsNone wider
    → ¬ refusals.MayBe (values.Bool true) result → ¬ refusals.MayBe (values.Bool true) wider
wrong_kept result None w n a b = n refl
wrong_kept None (Some wider) w n a b = w
wrong_kept (Some knowns.Bool) (Some wider) w n a b = a tt
wrong_kept (Some (knowns.Int r)) (Some knowns.Bool) w n a b = w
wrong_kept (Some (knowns.Int r)) (Some (knowns.Int s)) w n a b = b

condition_kept : (condition : Condition) (result wider : Option Known) → IsResultInto result wider
    → ¬ refusals.ArisesAtCondition condition wider causes.WrongType
    → ¬ refusals.ArisesAtCondition condition wider causes.NoResult → (cause : Cause)
    → ¬ refusals.ArisesAtCondition condition result cause
condition_kept Always result wider w wrong none cause a = a
condition_kept IfTrue result wider w wrong none causes.WrongType a = wrong (wrong_kept result wider w none a)
condition_kept IfTrue result wider w wrong none causes.NoResult a = none (none_kept result wider w a)
condition_kept IfTrue result wider w wrong none _ a = a
condition_kept IfFalse result wider w wrong none causes.WrongType a = wrong (wrong_kept result wider w none a)
condition_kept IfFalse result wider w wrong none causes.NoResult a = none (none_kept result wider w a)
condition_kept IfFalse result wider w wrong none _ a = a

-- whether the target is lawful does not depend on what is known
jump_kept : (condition : Condition) (lawful : Bool) (result wider : Option Known) → IsResultInto result wider
    → ¬ refusals.ArisesAtJump condition lawful wider causes.BadJump
    → ¬ refusals.ArisesAtJump condition lawful wider causes.WrongType
    → ¬ refusals.ArisesAtJump condition lawful wider causes.NoResult → (cause : Cause)
    → ¬ refusals.ArisesAtJump condition lawful result cause
jump_kept condition lawful result wider w bad wrong none causes.BadJump a = bad a
jump_kept condition lawful result wider w bad wrong none cause a =
    condition_kept condition result wider w wrong none cause a

-- ---- parentheses that stay open

-- a jump leads where one led before
closed_kept : (code : Listing) (place : ℕ) (met wider_met : Bool) → (IsTrue met → IsTrue wider_met)
    → refusals.IsClosedAt code place met → refusals.IsClosedAt code place wider_met
closed_kept code place met wider_met m (inl s) = inl s
closed_kept code place met wider_met m (inr (inl e)) = inr (inl e)
closed_kept code place met wider_met m (inr (inr j)) = inr (inr (m j))

has_to_close : (code : Listing) (place : ℕ) (met wider_met : Bool) (word : Word)
    → (IsTrue met → IsTrue wider_met) → refusals.HasToClose code place met word
    → refusals.HasToClose code place wider_met word
has_to_close code place met wider_met (words.Jump condition target) m h = tt
has_to_close code place met wider_met word m h = closed_kept code (place + 1) met wider_met m h

stays_open : (code : Listing) (place : ℕ) (met wider_met : Bool) (word : Word) (count : ℕ)
    → (IsTrue met → IsTrue wider_met) → refusals.StaysOpen code place met word count
    → refusals.StaysOpen code place wider_met word count
stays_open code place met wider_met word count m (inl h) =
    inl (h.0, has_to_close code place met wider_met word m h.1)
stays_open code place met wider_met word count m (inr h) = inr h

-- as many parentheses are open
kept_open : (code : Listing) (place : ℕ) (met wider_met : Bool) (entry wider : Entry) (word : Word)
    → IsInto entry wider → (IsTrue met → IsTrue wider_met)
    → refusals.ArisesAtWord code place met entry word causes.OpenNesting
    → refusals.ArisesAtWord code place wider_met wider word causes.OpenNesting
kept_open code place met wider_met entry wider word i m a =
    subst (λ (n : ℕ). refusals.StaysOpen code place wider_met word (refusals.open_after word n))
    (sym (AllZip-long IsOpenedInto entry.nesting wider.nesting i.nesting))
    (stays_open code place met wider_met word _ m a)

pub keeps_refusals : (word : Word) → KeepsWordRefusals word
keeps_refusals word code place met wider_met entry wider wider_ways causes.OpenNesting i m a r =
    r.lawful causes.OpenNesting (kept_open code place met wider_met entry wider word i m a)
keeps_refusals (words.Jump condition target) code place met wider_met entry wider wider_ways cause i m a r =
    jump_kept condition (is_target code place target) entry.result wider.result i.result (r.lawful causes.BadJump)
    (r.lawful causes.WrongType) (r.lawful causes.NoResult) cause a
keeps_refusals word code place met wider_met entry wider wider_ways cause i m a r =
    kept_before code place entry wider word r.leaves.after i r.leaves.leaves cause a
