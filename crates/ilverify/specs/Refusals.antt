-- The causes that arise at a word (profile): each by itself, whatever others do.
use Rattle.std.specs.Prelude.{◌≡◌, ℕ, ◌+◌, ◌-◌, ◌<◌, ◌⊎◌, Bool, true, false, List, [], ◌∷◌, length, Option, Some, None}
use Rattle.std.specs.Prelude.{IsNone, IsTrue, slice_get, ⊤}
use Rattle.limits.specs.Limits.{most_nesting}
use Rattle.iltypes.specs.declared.range.Range.{Range}
use Rattle.iltypes.specs.declared.value.IlType.{IlType}
use Rattle.iltypes.specs.declared.value.Value.{Value}
use Rattle.iltypes.specs.declared.value.Value.TheVariants as values
use Rattle.ilcode.specs.BlockKind.{BlockKind}
use Rattle.iltypes.specs.declared.condition.Condition.{Condition}
use Rattle.iltypes.specs.declared.condition.Condition.TheVariants.{Always}
use Rattle.iltypes.specs.declared.function.Function.{Function}
use Rattle.iltypes.specs.declared.operator.Operator.{Operator}
use Rattle.iltypes.specs.Functions.{modified}
use Rattle.iltypes.specs.Operators.{value_of_operator}
use Rattle.ilcode.specs.declared.word.Target.TheVariants as variables
use Rattle.ilcode.specs.declared.word.Word.{Word}
use Rattle.ilcode.specs.declared.word.Word.TheVariants as words
use Rattle.ilcode.specs.Listings.{Listing}
use Rattle.ilcode.specs.Steps.{is_start, is_target}
use Rattle.ilverify.specs.declared.cause.Cause.{Cause}
use Rattle.ilverify.specs.declared.cause.Cause.TheVariants as causes
use Rattle.ilverify.specs.declared.entry.Entry.{Entry}
use Rattle.ilverify.specs.declared.known.Known.{Known}
use Rattle.ilverify.specs.declared.nesting.KnownOpened.{KnownOpened}
use Rattle.ilverify.specs.Operands.{known_of, type_of_variable, in_programs, may_name, may_set, may_store, may_write}
use Rattle.ilverify.specs.Functions.{ArisesAtFunction}
use Rattle.ilverify.specs.Knowns.{IsOfKind, known_of_type, ArisesAtStore}
use Rattle.ilverify.specs.Results.{Arises}
use Rattle.ilverify.specs.Causes.{IsLeastCause}

-- ---- wrong types: no values of the kinds that are known have a value

-- a value of this kind may stand there: any, where nothing is known
abbrev pub MayBe : Value → Option Known → Type 0
MayBe value None = ⊤
MayBe value (Some known) = IsOfKind value known

-- a slot of this type may take a value of this kind: any, where there is no such slot
abbrev pub MayTake : Option IlType → Value → Type 0
MayTake None value = ⊤
MayTake (Some type) value = IsOfKind value (known_of_type type)

-- LD, LDN
abbrev pub IsWrongForLoad : Bool → Option Known → Type 0
IsWrongForLoad negated operand = (x : Value) → MayBe x operand → IsNone (modified negated x)

-- an operator
abbrev pub IsWrongForOperator : Operator → Option Known → Option Known → Type 0
IsWrongForOperator operator left right =
    (x y : Value) → MayBe x left → MayBe y right → IsNone (value_of_operator operator x y)

-- ST, STN
abbrev pub IsWrongForStore : Bool → Option Known → Option IlType → Type 0
IsWrongForStore negated result type =
    (x y : Value) → MayBe x result → modified negated x ≡ Some y → ¬ MayTake type y

-- S and R take a truth value and write one
abbrev pub IsWrongForSet : Option Known → Option IlType → Type 0
IsWrongForSet result type = ¬ MayBe (values.Bool true) result ⊎ ¬ MayTake type (values.Bool true)

-- ---- the causes of each word, but for parentheses that stay open

-- the operand is not in its table, or may not be named here
abbrev pub IsNotNamed : Option Known → Bool → Type 0
IsNotNamed operand named = IsNone operand ⊎ ¬ IsTrue named

-- LD, LDN, of an operand that may be named or not
abbrev pub ArisesAtLoad : Bool → Option Known → Bool → Cause → Type 0
ArisesAtLoad negated operand named causes.WrongType = IsWrongForLoad negated operand
ArisesAtLoad negated operand named causes.BadSlot = IsNotNamed operand named
ArisesAtLoad negated operand named _ = ⊥

-- an operator on what is known of two values
abbrev pub ArisesAtOperator : Operator → Option Known → Option Known → Cause → Type 0
ArisesAtOperator operator left right causes.WrongType = IsWrongForOperator operator left right
ArisesAtOperator operator (Some left) (Some right) cause = Arises operator left right cause
ArisesAtOperator operator _ _ cause = ⊥

-- an operator with its operand
abbrev pub ArisesAtApply : Operator → Option Known → Option Known → Bool → Cause → Type 0
ArisesAtApply operator result operand named causes.NoResult = IsNone result
ArisesAtApply operator result operand named causes.BadSlot = IsNotNamed operand named
ArisesAtApply operator result operand named cause = ArisesAtOperator operator result operand cause

-- NOT, ABS, a conversion
abbrev pub ArisesAtTransform : Function → Option Known → Cause → Type 0
ArisesAtTransform function None causes.NoResult = ⊤
ArisesAtTransform function None _ = ⊥
ArisesAtTransform function (Some operand) cause = ArisesAtFunction function operand cause

-- the number is not within the range of the slot, which the modifier N does not change
abbrev pub IsOutOfSlot : Option Known → Option IlType → Range → Range → Type 0
IsOutOfSlot (Some result) (Some type) found allowed = ArisesAtStore result type (causes.OutOfRange found allowed)
IsOutOfSlot _ _ found allowed = ⊥

-- what is stored to is not in its table, or may not be written here: an output, or what a body may not name
abbrev pub IsNotWritten : Option IlType → Bool → Type 0
IsNotWritten type writable = IsNone type ⊎ ¬ IsTrue writable

-- ST, STN, to a variable of this type that may be written or not
abbrev pub ArisesAtStoring : Bool → Option Known → Option IlType → Bool → Cause → Type 0
ArisesAtStoring negated result type writable causes.WrongType = IsWrongForStore negated result type
ArisesAtStoring negated result type writable causes.NoResult = IsNone result
ArisesAtStoring negated result type writable (causes.OutOfRange found allowed) = IsOutOfSlot result type found allowed
ArisesAtStoring negated result type writable causes.BadSlot = IsNotWritten type writable
ArisesAtStoring negated result type writable _ = ⊥

-- S, R
abbrev pub ArisesAtSet : Option Known → Option IlType → Bool → Cause → Type 0
ArisesAtSet result type writable causes.WrongType = IsWrongForSet result type
ArisesAtSet result type writable causes.NoResult = IsNone result
ArisesAtSet result type writable causes.BadSlot = IsNotWritten type writable
ArisesAtSet result type writable _ = ⊥

-- an argument of CAL, with its operand
abbrev pub ArisesAtPass : Option Known → Bool → Option IlType → Bool → Cause → Type 0
ArisesAtPass operand named type writable causes.WrongType = IsWrongForStore false operand type
ArisesAtPass operand named type writable (causes.OutOfRange found allowed) = IsOutOfSlot operand type found allowed
ArisesAtPass operand named type writable causes.BadSlot = IsNotNamed operand named ⊎ IsNotWritten type writable
ArisesAtPass operand named type writable _ = ⊥

-- GIVE, with its operand and the slot that it is given to
abbrev pub ArisesAtGive : Option Known → Bool → Option IlType → Bool → Cause → Type 0
ArisesAtGive operand named type writable cause = ArisesAtPass operand named type writable cause

-- CAL, of an instance of this kind, in the programs or not
abbrev pub ArisesAtCall : Option BlockKind → Bool → Cause → Type 0
ArisesAtCall kind programs causes.BadSlot = IsNone kind ⊎ ¬ IsTrue programs
ArisesAtCall kind programs _ = ⊥

-- an operator with `(`
abbrev pub ArisesAtOpen : Option Known → Cause → Type 0
ArisesAtOpen result causes.NoResult = IsNone result
ArisesAtOpen result _ = ⊥

-- `)`, with the operator and the result that wait
abbrev pub ArisesAtClosing : Operator → Known → Option Known → Cause → Type 0
ArisesAtClosing operator saved result causes.NoResult = IsNone result
ArisesAtClosing operator saved result cause = ArisesAtOperator operator (Some saved) result cause

-- `)`, with the parentheses that are open
abbrev pub ArisesAtClose : List KnownOpened → Option Known → Cause → Type 0
ArisesAtClose [] result causes.NoResult = IsNone result
ArisesAtClose [] result causes.EmptyNesting = ⊤
ArisesAtClose [] result _ = ⊥
ArisesAtClose (innermost ∷ nesting) result cause =
    ArisesAtClosing innermost.operator innermost.saved result cause

-- a jump with the modifier C or CN takes a truth value
abbrev pub ArisesAtCondition : Condition → Option Known → Cause → Type 0
ArisesAtCondition Always result cause = ⊥
ArisesAtCondition condition result causes.WrongType = ¬ MayBe (values.Bool true) result
ArisesAtCondition condition result causes.NoResult = IsNone result
ArisesAtCondition condition result _ = ⊥

-- JMP, RET and the like, by whether the target is lawful
abbrev pub ArisesAtJump : Condition → Bool → Option Known → Cause → Type 0
ArisesAtJump condition lawful result causes.BadJump = ¬ IsTrue lawful
ArisesAtJump condition lawful result cause = ArisesAtCondition condition result cause

-- the word's own causes; of a function's call there are none that what is known decides
abbrev pub ArisesBeforeNesting : Listing → ℕ → Entry → Word → Cause → Type 0
ArisesBeforeNesting code place entry (words.Load negated operand) cause =
    ArisesAtLoad negated (known_of code entry operand) (may_name code place operand) cause
ArisesBeforeNesting code place entry (words.Apply operator operand) cause =
    ArisesAtApply operator entry.result (known_of code entry operand) (may_name code place operand) cause
ArisesBeforeNesting code place entry (words.Transform function) cause = ArisesAtTransform function entry.result cause
ArisesBeforeNesting code place entry (words.Store negated variable) cause =
    ArisesAtStoring negated entry.result (type_of_variable code variable) (may_store negated code place variable) cause
ArisesBeforeNesting code place entry (words.Set variable) cause =
    ArisesAtSet entry.result (type_of_variable code variable) (may_set code place variable) cause
ArisesBeforeNesting code place entry (words.Reset variable) cause =
    ArisesAtSet entry.result (type_of_variable code variable) (may_set code place variable) cause
ArisesBeforeNesting code place entry (words.Pass port block operand) cause =
    let input = variables.Port port block in
    ArisesAtPass (known_of code entry operand) (may_name code place operand) (type_of_variable code input)
    (may_write code place input) cause
ArisesBeforeNesting code place entry (words.Call block) cause =
    ArisesAtCall (slice_get code.kinds block) (in_programs code place) cause
ArisesBeforeNesting code place entry (words.Open operator) cause = ArisesAtOpen entry.result cause
ArisesBeforeNesting code place entry words.Close cause = ArisesAtClose entry.nesting entry.result cause
ArisesBeforeNesting code place entry (words.Jump condition target) cause =
    ArisesAtJump condition (is_target code place target) entry.result cause
ArisesBeforeNesting code place entry (words.Give operand slot) cause =
    let given = variables.Slot slot in
    ArisesAtGive (known_of code entry operand) (may_name code place operand) (type_of_variable code given)
    (may_write code place given) cause
ArisesBeforeNesting code place entry (words.Invoke function) cause = ⊥

-- ---- parentheses that stay open

-- how many parentheses are open after a word
abbrev pub open_after : Word → ℕ → ℕ
open_after (words.Open operator) count = count + 1
open_after words.Close count = count - 1
open_after _ count = count

-- nothing may be open at the place: a program or a function begins there, the code ends, or a jump leads there
abbrev pub IsClosedAt : Listing → ℕ → Bool → Type 0
IsClosedAt code place met = IsTrue (is_start code place) ⊎ (place ≡ length code.instructions) ⊎ IsTrue met

-- nothing may be open after the word: where it leads on to such a place, and at a jump
abbrev pub HasToClose : Listing → ℕ → Bool → Word → Type 0
HasToClose code place met (words.Jump condition target) = ⊤
HasToClose code place met word = IsClosedAt code (place + 1) met

-- a parenthesis stays open where nothing may be, or more are opened than there is room for
abbrev pub StaysOpen : Listing → ℕ → Bool → Word → ℕ → Type 0
StaysOpen code place met word count = (0 < count) × HasToClose code place met word ⊎ most_nesting < count

-- ---- all causes

-- the cause arises at the word before which this is known, where `met` says whether a jump leads to the next place;
-- causes arise independently of one another
abbrev pub ArisesAtWord : Listing → ℕ → Bool → Entry → Word → Cause → Type 0
ArisesAtWord code place met entry word causes.OpenNesting =
    StaysOpen code place met word (open_after word (length entry.nesting))
ArisesAtWord code place met entry word cause = ArisesBeforeNesting code place entry word cause

-- ---- the least cause

-- the least cause is one
abbrev pub HasOneCause : Word → Type 0
HasOneCause word =
    (code : Listing) (place : ℕ) (met : Bool) (entry : Entry) (one other : Cause)
    → IsLeastCause (ArisesAtWord code place met entry word) one
    → IsLeastCause (ArisesAtWord code place met entry word) other → one ≡ other
