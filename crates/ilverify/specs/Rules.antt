-- The rules of the verifier (profile): what is known after a word on each way that it leads, from what is known before
-- it and from what the operators, functions and stores give (Results, Functions, Stores).
use Rattle.std.specs.Prelude.{◌≡◌, ℕ, zero, suc, ℤ, ◌+◌, ◌⊎◌, Bool, true, false, List, [], ◌∷◌, Option, Some, None}
use Rattle.std.specs.Prelude.{slice_get, slice_set, IsSome, IsTrue, ⊤}
use Rattle.iltypes.specs.Arithmetic.{IsLeast}
use Rattle.iltypes.specs.declared.range.Range.{Range}
use Rattle.iltypes.specs.declared.value.IlType.{IlType}
use Rattle.iltypes.specs.declared.value.IlType.TheVariants as types
use Rattle.iltypes.specs.declared.value.Value.{Value}
use Rattle.iltypes.specs.Values.{IsOf}
use Rattle.iltypes.specs.declared.condition.Condition.{Condition}
use Rattle.iltypes.specs.declared.condition.Condition.TheVariants.{Always, IfTrue, IfFalse}
use Rattle.iltypes.specs.declared.function.Function.{Function}
use Rattle.iltypes.specs.declared.function.Function.TheVariants as functions
use Rattle.iltypes.specs.declared.operator.Operator.{Operator}
use Rattle.ilcode.specs.declared.word.Target.{Target}
use Rattle.ilcode.specs.declared.word.Target.TheVariants as variables
use Rattle.ilcode.specs.declared.word.Word.{Word}
use Rattle.ilcode.specs.declared.word.Word.TheVariants as words
use Rattle.ilcode.specs.Listings.{Listing, slots_end}
use Rattle.ilverify.specs.declared.cause.Cause.{Cause}
use Rattle.ilverify.specs.declared.entry.Entry.{Entry}
use Rattle.ilverify.specs.declared.known.Known.{Known}
use Rattle.ilverify.specs.declared.known.Known.TheVariants as knowns
use Rattle.ilverify.specs.declared.mark.ResultMark.{ResultMark}
use Rattle.ilverify.specs.declared.mark.ResultMark.TheVariants.{Test}
use Rattle.ilverify.specs.declared.nesting.KnownOpened.{KnownOpened}
use Rattle.ilverify.specs.Operands.{known_of, known_of_result, type_of_variable, in_programs}
use Rattle.ilverify.specs.Operands.{may_name, may_set, may_store, may_write}
use Rattle.ilverify.specs.Functions.{IsAfterFunction}
use Rattle.ilverify.specs.Knowns.{IsKnown, known_of_type}
use Rattle.ilverify.specs.Marks.{mark_of_load, mark_of_apply, mark_of_function, constant_of}
use Rattle.ilverify.specs.Comparisons.{IsPassing}
use Rattle.ilverify.specs.Refusals.{ArisesAtWord}
use Rattle.ilverify.specs.Results.{IsAfter}

-- under the modifier N of LDN and STN what is known after NOT
abbrev pub IsModified : Bool → Known → Known → Type 0
IsModified true known after = IsAfterFunction functions.Not known after
IsModified false known after = known ≡ after

-- what LD and LDN leave of an operand
abbrev pub IsLoaded : Bool → Option Known → Known → Type 0
IsLoaded negated (Some operand) known = IsModified negated operand known
IsLoaded negated None known = ⊥

-- what an operator leaves
abbrev pub IsApplied : Operator → Option Known → Option Known → Known → Type 0
IsApplied operator (Some left) (Some right) known = IsAfter operator left right known
IsApplied operator _ _ known = ⊥

-- what a function leaves
abbrev pub IsTransformed : Function → Option Known → Known → Type 0
IsTransformed function (Some operand) known = IsAfterFunction function operand known
IsTransformed function None known = ⊥

-- what ST, STN and PASS store: all that it may be is of the variable's type
abbrev pub IsStored : Bool → Option Known → Option IlType → Known → Type 0
IsStored negated (Some result) (Some type) stored =
    IsModified negated result stored × ((value : Value) → IsKnown value stored → IsOf value type)
IsStored negated _ _ stored = ⊥

-- S and R take a truth value and write one
abbrev pub MaySet : Option Known → Option IlType → Type 0
MaySet (Some knowns.Bool) (Some types.Bool) = ⊤
MaySet _ _ = ⊥

-- the word leaves a current result with this mark, and these parentheses open
pub record Gives (entry : Entry) (nesting : List KnownOpened) (mark_of : Known → Option ResultMark)
    (IsGiven : Known → Type 0)
    (after : Entry) : Type 0 where
  pub known : Known
  pub given : IsGiven known
  pub is : after ≡ record { slots = entry.slots; result = Some known; mark = mark_of known; nesting = nesting }

-- no mark, whatever is known
abbrev pub unmarked : Known → Option ResultMark
unmarked known = None

-- a slot is known as what was stored from then on, and a port as before
abbrev pub with_stored : Entry → Target → Known → Entry
with_stored entry (variables.Slot slot) stored = record entry { slots = slice_set entry.slots slot stored }
with_stored entry (variables.Port port block) stored = entry

-- the word stores to the variable; the current result and its mark stay
pub record Writes (entry : Entry) (variable : Target) (IsWritten : Known → Type 0) (after : Entry) : Type 0 where
  pub stored : Known
  pub written : IsWritten stored
  pub is : after ≡ with_stored entry variable stored

-- an argument is stored to an input; the current result stays, without a mark
pub record Passes (entry : Entry) (IsPassed : Known → Type 0) (after : Entry) : Type 0 where
  pub stored : Known
  pub passed : IsPassed stored
  pub is : after ≡ record entry { mark = None }

-- an operand is given to a slot, which is known as what was given from then on; the current result stays, without a
-- mark
pub record GivesSlot (entry : Entry) (slot : ℕ) (IsGiven : Known → Type 0) (after : Entry) : Type 0 where
  pub stored : Known
  pub given : IsGiven stored
  pub is : after ≡ record entry { slots = slice_set entry.slots slot stored; mark = None }

-- the slots from one number on and up to another are known by their types, the others as they were
abbrev pub reset : ℕ → ℕ → List IlType → List Known → List Known
reset zero (suc to) (type ∷ types) (known ∷ slots) = known_of_type type ∷ reset zero to types slots
reset (suc from) (suc to) (type ∷ types) (known ∷ slots) = known ∷ reset from to types slots
reset _ _ _ slots = slots

-- what is known after a call of a function (that there is one is asked elsewhere): its body may have written its slots,
-- and those of the functions before it; the current result is the function's, of which the type is known, without a
-- mark
abbrev pub returned : Listing → Entry → ℕ → Entry
returned code entry function =
    record {
      slots = reset (slots_end code 0) (slots_end code (function + 1)) code.slots entry.slots;
      result = known_of_result code (slice_get code.functions function);
      mark = None;
      nesting = entry.nesting;
    }

-- an open parenthesis
abbrev pub waiting : Operator → Known → KnownOpened
waiting operator saved = record { operator = operator; saved = saved }

-- an operator with `(`: the current result waits for it, and there is none until the next load
abbrev pub Opens : Entry → Operator → Option Known → Entry → Type 0
Opens entry operator None after = ⊥
Opens entry operator (Some saved) after =
    after ≡ record {
      slots = entry.slots;
      result = None;
      mark = None;
      nesting = waiting operator saved ∷ entry.nesting;
    }

-- `)`: the operator that waits is applied to the result that waits with it and the current one
abbrev pub Closes : Entry → List KnownOpened → Entry → Type 0
Closes entry [] after = ⊥
Closes entry (innermost ∷ nesting) after =
    Gives entry nesting unmarked (IsApplied innermost.operator (Some innermost.saved) entry.result) after

-- what is known after a word that leads to the next place alone, from its operand and what was known before; S and R
-- write a truth value where one was, and after CAL there is no current result
abbrev pub IsEntryAfter : Listing → ℕ → Entry → Word → Entry → Type 0
IsEntryAfter code place entry (words.Load negated operand) after =
    IsTrue (may_name code place operand)
    × Gives entry entry.nesting (mark_of_load negated operand) (IsLoaded negated (known_of code entry operand)) after
IsEntryAfter code place entry (words.Apply operator operand) after =
    IsTrue (may_name code place operand)
    × Gives entry entry.nesting (λ _. mark_of_apply entry.mark operator (constant_of code operand))
    (IsApplied operator entry.result (known_of code entry operand)) after
IsEntryAfter code place entry (words.Transform function) after =
    Gives entry entry.nesting (λ _. mark_of_function entry.mark function) (IsTransformed function entry.result) after
IsEntryAfter code place entry (words.Store negated variable) after =
    IsTrue (may_store negated code place variable)
    × Writes entry variable (IsStored negated entry.result (type_of_variable code variable)) after
IsEntryAfter code place entry (words.Set variable) after =
    IsTrue (may_set code place variable) × MaySet entry.result (type_of_variable code variable) × (after ≡ entry)
IsEntryAfter code place entry (words.Reset variable) after =
    IsTrue (may_set code place variable) × MaySet entry.result (type_of_variable code variable) × (after ≡ entry)
IsEntryAfter code place entry (words.Pass port block operand) after =
    let input = variables.Port port block in
    IsTrue (may_name code place operand)
    × IsTrue (may_write code place input)
    × Passes entry (IsStored false (known_of code entry operand) (type_of_variable code input)) after
IsEntryAfter code place entry (words.Call block) after =
    IsTrue (in_programs code place)
    × IsSome (slice_get code.kinds block)
    × (after ≡ record entry { result = None; mark = None })
IsEntryAfter code place entry (words.Open operator) after = Opens entry operator entry.result after
IsEntryAfter code place entry words.Close after = Closes entry entry.nesting after
IsEntryAfter code place entry (words.Jump condition target) after = ⊥
IsEntryAfter code place entry (words.Give operand slot) after =
    let given = variables.Slot slot in
    IsTrue (may_name code place operand)
    × IsTrue (may_write code place given)
    × GivesSlot entry slot (IsStored false (known_of code entry operand) (type_of_variable code given)) after
IsEntryAfter code place entry (words.Invoke function) after = after ≡ returned code entry function

-- ---- ways

-- what is known on the way to the next place and on the way to a jump's target; nothing where no value goes that way
pub record Ways : Type 0 where
  pub next : Option Entry
  pub target : Option Entry

-- the slot holds the least range of the numbers that pass the test, if any does
pub record IsSlotTested (entry : Entry) (slot : ℕ) (comparison : Operator) (outcome : Bool) (limit : ℤ) (range : Range)
    (way : Entry) : Type 0 where
  pub kept : Range
  pub least : IsLeast (IsPassing comparison outcome limit range) kept
  pub is : way ≡ record entry { slots = slice_set entry.slots slot (knowns.Int kept) }

-- what is known where a slot's number passes a test, of the slot as it was known; nothing where none can
abbrev pub IsTested : Entry → ℕ → Operator → Bool → ℤ → Option Known → Option Entry → Type 0
IsTested entry slot comparison outcome limit (Some (knowns.Int range)) (Some way) =
    IsSlotTested entry slot comparison outcome limit range way
IsTested entry slot comparison outcome limit (Some (knowns.Int range)) None =
    (number : ℤ) → ¬ IsPassing comparison outcome limit range number
IsTested entry slot comparison outcome limit _ way = way ≡ Some entry

-- what is known where the current result has this outcome: all that was, and what a test says
abbrev pub IsRefined : Entry → Bool → Option ResultMark → Option Entry → Type 0
IsRefined entry outcome (Some (Test slot comparison limit)) way =
    IsTested entry slot comparison outcome limit (slice_get entry.slots slot) way
IsRefined entry outcome _ way = way ≡ Some entry

-- a jump goes to its target where the current result has one outcome, and on where it has the other; it keeps the
-- current result and its mark
abbrev pub AreJumped : Condition → Entry → Ways → Type 0
AreJumped Always entry ways = (ways.target ≡ Some entry) × (ways.next ≡ None)
AreJumped IfTrue entry ways = IsRefined entry true entry.mark ways.target × IsRefined entry false entry.mark ways.next
AreJumped IfFalse entry ways = IsRefined entry false entry.mark ways.target × IsRefined entry true entry.mark ways.next

-- to the next place alone
pub record AreOnward (IsAfter : Entry → Type 0) (ways : Ways) : Type 0 where
  pub after : Entry
  pub leaves : IsAfter after
  pub next : ways.next ≡ Some after
  pub target : ways.target ≡ None

-- what is known on each way from the word
abbrev pub AreWaysOf : Listing → ℕ → Entry → Word → Ways → Type 0
AreWaysOf code place entry (words.Jump condition target) ways = AreJumped condition entry ways
AreWaysOf code place entry word ways = AreOnward (IsEntryAfter code place entry word) ways

-- the word at a place leads to another, where this is known
abbrev pub IsWay : Word → ℕ → Ways → ℕ → Entry → Type 0
IsWay (words.Jump condition target) place ways to after =
    (to ≡ target) × (ways.target ≡ Some after) ⊎ (to ≡ place + 1) × (ways.next ≡ Some after)
IsWay word place ways to after = (to ≡ place + 1) × (ways.next ≡ Some after)

-- no cause arises at the word, and this is known on the ways from it
pub record IsRule (code : Listing) (place : ℕ) (met : Bool) (entry : Entry) (word : Word) (ways : Ways)
    : Type 0 where
  pub lawful : (cause : Cause) → ¬ ArisesAtWord code place met entry word cause
  pub leaves : AreWaysOf code place entry word ways
