-- Where the bodies of a code stand, those of its programs and of its functions, one after another.
use Rattle.std.specs.Prelude.{◌≡◌, ◌+◌, ◌≤◌, ◌<◌, ◌^◌, ℕ, List, [], ◌∷◌, length, slice_get, ⊤, IsTrue}
use Rattle.std.specs.List.{AllByRecursion}
use Rattle.limits.specs.Limits.{most_inputs}
use Rattle.ilcode.specs.declared.function.FunctionBody.{FunctionBody}
use Rattle.ilcode.specs.declared.word.Word.{Word}
use Rattle.ilcode.specs.Listings.{start_or, first_or, is_old}
use Rattle.ilcode.specs.Words.{IsOldWord}

-- its numbers have 32 bits
pub record IsSmall (f : FunctionBody) : Type 0 where
  pub start : f.start < 2 ^ 32
  pub first : f.first < 2 ^ 32
  pub inputs : f.inputs < 2 ^ 32
  pub slots : f.slots < 2 ^ 32

-- each start is not below the one before, and not beyond the end
abbrev pub Rise : ℕ → ℕ → List ℕ → Type 0
Rise end before [] = ⊤
Rise end before (start ∷ starts) = (before ≤ start) × (start ≤ end) × Rise end start starts

-- the first program begins at 0, and there is one where there are words
abbrev pub BeginPrograms : ℕ → List ℕ → List Word → Type 0
BeginPrograms end [] words = words ≡ []
BeginPrograms end (start ∷ starts) words = (start ≡ 0) × Rise end start starts

-- a function has an input, no more than the limit, and a slot for its result
pub record HasInputs (f : FunctionBody) : Type 0 where
  pub some_input : 1 ≤ f.inputs
  pub most_inputs : f.inputs ≤ most_inputs
  pub result : f.inputs < f.slots

-- the words and the slots of each end where those of the next begin, or at the end
abbrev pub Follow : ℕ → ℕ → List FunctionBody → Type 0
Follow words slots [] = ⊤
Follow words slots (f ∷ fs) =
    HasInputs f
    × (f.start ≤ start_or (slice_get fs 0) words)
    × (f.first + f.slots ≡ first_or (slice_get fs 0) slots)
    × Follow words slots fs

-- a code that a file of version 1 could hold has no newer words
abbrev pub HoldsOld : ℕ → List FunctionBody → List Word → Type 0
HoldsOld buses functions words = IsTrue (is_old buses functions) → AllByRecursion IsOldWord words

pub record AreBodies (buses slots : ℕ) (starts : List ℕ) (words : List Word) (functions : List FunctionBody)
    : Type 0 where
  pub begin : BeginPrograms (start_or (slice_get functions 0) (length words)) starts words
  pub follow : Follow (length words) slots functions
  pub old : HoldsOld buses functions words
