-- Worked codes with functions over whole numbers from 0 to 254.
use Rattle.std.specs.Prelude.{◌≡◌, ℕ, zero, suc, false, ◌+◌, ◌*◌, List, [], ◌∷◌, ◌++◌, length, Some, None}
use Rattle.std.specs.Option.{option_map}
use Rattle.iltypes.specs.declared.operator.Operator.TheVariants.{Add, Sub, Div}
use Rattle.iltypes.specs.declared.condition.Condition.TheVariants.{Always}
use Rattle.iltypes.specs.declared.value.IlType.{IlType}
use Rattle.iltypes.specs.declared.value.IlType.TheVariants as types
use Rattle.iltypes.specs.declared.value.Value.{Value}
use Rattle.ilblocks.specs.Stores.{Store}
use Rattle.ilcode.specs.declared.function.FunctionBody.{FunctionBody}
use Rattle.ilcode.specs.declared.word.Target.TheVariants as variables
use Rattle.ilcode.specs.declared.word.Word.{Word}
use Rattle.ilcode.specs.declared.word.Word.TheVariants.{Load, Apply, Open, Close, Jump, Give, Invoke}
use Rattle.ilcode.specs.declared.word.Word.TheVariants.{Store as St}
use Rattle.ilcode.specs.declared.word.WordOperand.TheVariants.{Slot, Constant}
use Rattle.ilcode.specs.Listings.{Listing, listing_of, end_of}
use Rattle.ilcode.specs.Rows.{whole, subrange}
use Rattle.ilcode.specs.Steps.{at, after, start}

abbrev pub body : ℕ → ℕ → ℕ → ℕ → FunctionBody
body start first inputs slots = record { start = start; first = first; inputs = inputs; slots = slots }

-- so many slots of the type
abbrev pub all_of : ℕ → List IlType
all_of zero = []
all_of (suc n) = types.Int subrange ∷ all_of n

-- the constants 50, 0 and 2
abbrev pub code_of : ℕ → List FunctionBody → List Word → Listing
code_of slots functions words =
    listing_of 1 (whole 50 ∷ whole 0 ∷ whole 2 ∷ []) (all_of slots) [] (0 ∷ []) words [] functions

abbrev pub store_of : List Value → Store
store_of values = record { slots = values; blocks = []; requests = []; moment = 40 }

-- from these values so many steps lead to the programs' end with those
abbrev pub ComeTo : Listing → ℕ → List Value → List Value → Type 0
ComeTo code steps from to =
    after code (start (store_of from)) steps ≡ Some (at (end_of code 0) (store_of to) None [] [])

-- so many steps lead to the word at the place, which is undefined
abbrev pub StopAt : Listing → ℕ → ℕ → List Value → Type 0
StopAt code place steps from =
    (option_map (λ c. c.place) (after code (start (store_of from)) steps) ≡ Some place)
    × (after code (start (store_of from)) (steps + 1) ≡ None)

-- ---- half of a number: the variable x, and of the function the input v and its result

abbrev pub ld : ℕ → Word
ld slot = Load false (Slot slot)

abbrev pub st : ℕ → Word
st slot = St false (variables.Slot slot)

-- half := 0; LD v, DIV 2, ST half
abbrev pub half : List Word
half = Give (Constant 1) 2 ∷ ld 1 ∷ Apply Div (Constant 2) ∷ st 2 ∷ []

abbrev pub with_half : List Word → Listing
with_half words = code_of 3 (body (length words) 1 1 2 ∷ []) (words ++ half)

-- LD x, half, ADD 50, ST x
abbrev pub once : List Word
once = ld 0 ∷ st 1 ∷ Invoke 0 ∷ Apply Add (Constant 0) ∷ st 0 ∷ []

-- LD x, half, half, ADD 50, ST x
abbrev pub twice : List Word
twice = ld 0 ∷ st 1 ∷ Invoke 0 ∷ st 1 ∷ Invoke 0 ∷ Apply Add (Constant 0) ∷ st 0 ∷ []

-- LD x, SUB( , LD x, half, ), ST x
abbrev pub in_parentheses : List Word
in_parentheses = ld 0 ∷ Open Sub ∷ ld 0 ∷ st 1 ∷ Invoke 0 ∷ Close ∷ st 0 ∷ []

-- the call of a function is a program's last word
abbrev pub called_last : List Word
called_last = ld 0 ∷ st 1 ∷ Invoke 0 ∷ []

-- GIVE of x to v leaves the current result, which is 50
abbrev pub given : List Word
given = Load false (Constant 0) ∷ Give (Slot 0) 1 ∷ st 0 ∷ Invoke 0 ∷ []

-- ---- bodies that return early, that leave a parenthesis open, that call themselves

-- LD v, ST half, RET, LD 0, ST half
abbrev pub returning : Listing
returning =
    code_of 3 (body 3 1 1 2 ∷ [])
    (ld 0 ∷ st 1 ∷ Invoke 0 ∷ ld 1 ∷ st 2 ∷ Jump Always 8 ∷ Load false (Constant 1) ∷ st 2 ∷ [])

abbrev pub left_open : Listing
left_open = code_of 3 (body 3 1 1 2 ∷ []) (ld 0 ∷ st 1 ∷ Invoke 0 ∷ ld 1 ∷ Open Sub ∷ ld 1 ∷ [])

abbrev pub calling_itself : Listing
calling_itself = code_of 3 (body 1 1 1 2 ∷ []) (Invoke 0 ∷ Invoke 0 ∷ [])

-- half, ST x: a call needs no current result
abbrev pub nothing_given : List Word
nothing_given = Invoke 0 ∷ st 0 ∷ []

-- the first word of the body needs a current result
abbrev pub no_result_yet : Listing
no_result_yet = code_of 3 (body 3 1 1 2 ∷ []) (ld 0 ∷ st 1 ∷ Invoke 0 ∷ st 2 ∷ [])

-- ---- a chain: the first function has no word, each other calls the one before it and has no word more

-- function n begins at place n, and its slots are 2 n and 2 n + 1
abbrev pub bodies_from : ℕ → ℕ → List FunctionBody
bodies_from zero number = []
bodies_from (suc n) number = body number (number * 2) 1 2 ∷ bodies_from n (number + 1)

abbrev pub calls_from : ℕ → ℕ → List Word
calls_from zero number = []
calls_from (suc n) number = Invoke number ∷ calls_from n (number + 1)

abbrev pub zeros : ℕ → List Value
zeros zero = []
zeros (suc n) = whole 0 ∷ zeros n

-- a program that calls the last of so many functions and one, of which each calls the one before it
abbrev pub chain : ℕ → Listing
chain n = code_of (2 * n + 2) (body 1 0 1 2 ∷ bodies_from n 1) (Invoke n ∷ calls_from n 0)
