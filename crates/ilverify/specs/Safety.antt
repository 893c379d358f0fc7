-- Where a word has a rule no run goes wrong at it, and what is known after it holds.
use Rattle.std.specs.Prelude.{◌≡◌, ℕ, ◌+◌, ◌≤◌, ◌<◌, ◌⊎◌, Bool, List, [], Some, None, IsTrue, ⊤}
use Rattle.std.specs.Prelude.{slice_get, slice_set}
use Rattle.iltypes.specs.declared.value.Value.{Value}
use Rattle.ilcode.specs.Stores.{Store, IsStoreOf}
use Rattle.ilcode.specs.declared.word.Target.TheVariants as variables
use Rattle.ilcode.specs.declared.word.Word.{Word}
use Rattle.ilcode.specs.declared.word.Word.TheVariants as words
use Rattle.ilcode.specs.Listings.{Listing, IsLawful, shape_of, end_of, body_at, slots_end}
use Rattle.ilcode.specs.Steps.{OpenCall, Configuration, at, effect, start, is_start, is_target, left_by}
use Rattle.ilverify.specs.declared.entry.Entry.{Entry}
use Rattle.ilverify.specs.Entries.{opening, IsInto}
use Rattle.ilverify.specs.Fits.{Fits}
use Rattle.ilverify.specs.Operands.{may_write}
use Rattle.ilverify.specs.Rules.{Ways, IsWay, IsRule}

-- ---- words but calls of functions: their bodies run before the caller goes on

abbrev pub IsNoInvoke : Word → Type 0
IsNoInvoke (words.Invoke function) = ⊥
IsNoInvoke word = ⊤

-- one slot, which the word at the place may write, has another value
pub record IsSlotWritten (code : Listing) (place : ℕ) (old new : List Value) : Type 0 where
  pub slot : ℕ
  pub value : Value
  pub may : IsTrue (may_write code place (variables.Slot slot))
  pub is : new ≡ slice_set old slot value

-- a word at the place writes no slot but one that it may write
abbrev pub AreKept : Listing → ℕ → List Value → List Value → Type 0
AreKept code place old new = (new ≡ old) ⊎ IsSlotWritten code place old new

-- the word is defined, and leads to where the rule says what is known, in the same body
pub record Goes (code : Listing) (c : Configuration) (word : Word) (ways : Ways) : Type 0 where
  pub to : Configuration
  pub is : effect code c word ≡ Some to
  pub calls : to.calls ≡ c.calls
  pub leads : (to.place ≡ c.place + 1) ⊎ IsTrue (is_target code c.place to.place)
  pub kept : AreKept code c.place c.store.slots to.store.slots
  pub after : Entry
  pub way : IsWay word c.place ways to.place after
  pub fits : Fits code after to

-- from each configuration that is as the entry says, where the word has a rule and there is a bus, as in each lawful
-- code: on none a block's request would have no bus to go to
abbrev pub IsSoundAt : Word → Type 0
IsSoundAt word =
    (code : Listing) (met : Bool) (entry : Entry) (ways : Ways) (c : Configuration) → 1 ≤ code.buses → IsNoInvoke word
    → IsRule code c.place met entry word ways → Fits code entry c → Goes code c word ways

-- where a program or a function begins, or a body ends, nothing is open
pub record IsClosedThere (code : Listing) (c : Configuration) : Type 0 where
  pub start : IsTrue (is_start code c.place) → c.nesting ≡ []
  pub end : (body : ℕ) → c.place ≡ end_of code body → c.nesting ≡ []

-- the word is defined, what is known on a way from it holds where it leads, and nothing stays open at an end
pub record Steps (code : Listing) (c : Configuration) (word : Word) (ways : Ways) : Type 0 where
  pub goes : Goes code c word ways
  pub closed : IsClosedThere code goes.to

abbrev pub IsSafeAt : Word → Type 0
IsSafeAt word =
    (code : Listing) (met : Bool) (entry : Entry) (ways : Ways) (c : Configuration) → 1 ≤ code.buses → IsNoInvoke word
    → IsRule code c.place met entry word ways → Fits code entry c → Steps code c word ways

-- ---- calls of functions

-- where a function's body begins, any store of the code's types and kinds is as the first entry says, with no current
-- result and nothing open
abbrev pub IsFitAtCall : Type 0
IsFitAtCall =
    (code : Listing) (place : ℕ) (store : Store) (calls : List OpenCall) → IsStoreOf (shape_of code) store
    → Fits code (opening code) (at place store None [] calls)

-- only slots of the function, and of those before it, have other values
abbrev pub IsWrittenBy : Listing → ℕ → List Value → List Value → Type 0
IsWrittenBy code function old new =
    (slot : ℕ) → (slot < slots_end code 0) ⊎ (slots_end code (function + 1) ≤ slot)
    → slice_get new slot ≡ slice_get old slot

-- what is known after the call holds where the caller goes on with this store, and nothing stays open at an end
pub record GoesOn (code : Listing) (c : Configuration) (function : ℕ) (ways : Ways) (store : Store) : Type 0 where
  pub after : Entry
  pub way : ways.next ≡ Some after
  pub only : ways.target ≡ None
  pub fits : Fits code after (at (c.place + 1) store (left_by code store function) c.nesting c.calls)
  pub closed : IsClosedThere code (at (c.place + 1) store (left_by code store function) c.nesting c.calls)

-- the caller goes on by its rule, from a configuration that was as the entry says before the call, with the result that
-- the function leaves
abbrev pub IsFitAtReturn : Type 0
IsFitAtReturn =
    (code : Listing) (met : Bool) (entry : Entry) (ways : Ways) (c : Configuration) (function : ℕ) (store : Store)
    → IsRule code c.place met entry (words.Invoke function) ways → Fits code entry c → IsStoreOf (shape_of code) store
    → IsWrittenBy code function c.store.slots store.slots → GoesOn code c function ways store

-- what a word in a function's body writes is within
abbrev pub KeepsOthers : Type 0
KeepsOthers =
    (code : Listing) → IsLawful code → (place function : ℕ) (old new : List Value) → body_at code place ≡ function + 1
    → AreKept code place old new → IsWrittenBy code function old new

-- ---- entries

-- any store of the code's types and kinds is as the first entry says
abbrev pub IsFitAtStart : Type 0
IsFitAtStart =
    (code : Listing) (store : Store) → IsStoreOf (shape_of code) store → Fits code (opening code) (start store)

-- what holds by an entry holds by each wider one
abbrev pub IsFitWider : Type 0
IsFitWider =
    (code : Listing) (entry wider : Entry) (c : Configuration) → IsInto entry wider → Fits code entry c
    → Fits code wider c

-- where a program begins there is no current result
abbrev pub IsFitWithoutResult : Type 0
IsFitWithoutResult =
    (code : Listing) (entry : Entry) (c : Configuration) → Fits code entry c
    → Fits code (record entry { result = None; mark = None }) (record c { result = None })
