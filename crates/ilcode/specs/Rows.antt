-- Worked codes over four variables, three whole numbers from 0 to 254 and a truth value, and two block instances, a
-- TON and a GEAR_DO.
use Rattle.std.specs.Prelude.{◌≡◌, ℕ, zero, suc, ◌+◌, pos, negsuc, Bool, true, false, List, [], ◌∷◌, ◌++◌, length}
use Rattle.std.specs.Prelude.{Option}
use Rattle.std.specs.Prelude.{Some, None}
use Rattle.std.specs.Option.{option_map}
use Rattle.iltypes.specs.declared.range.Range.{Range}
use Rattle.iltypes.specs.declared.value.IlType.TheVariants as types
use Rattle.iltypes.specs.declared.value.Value.{Value}
use Rattle.iltypes.specs.declared.value.Value.TheVariants as values
use Rattle.iltypes.specs.declared.condition.Condition.TheVariants.{Always, IfTrue, IfFalse}
use Rattle.iltypes.specs.declared.function.Function.TheVariants.{Not, Convert}
use Rattle.iltypes.specs.declared.function.IntegerType.TheVariants.{Usint}
use Rattle.iltypes.specs.declared.operator.Operator.TheVariants.{And, Sub, Div}
use Rattle.ilblocks.specs.declared.kind.BlockKind.{BlockKind}
use Rattle.ilblocks.specs.declared.kind.BlockKind.TheVariants.{Ton, GearDo}
use Rattle.ilblocks.specs.Stores.{Store, blocks_at_first}
use Rattle.ilcode.specs.declared.word.WordOperand.TheVariants.{Slot, Constant}
use Rattle.ilcode.specs.declared.word.Target.TheVariants as variables
use Rattle.ilcode.specs.declared.word.Word.{Word}
use Rattle.ilcode.specs.declared.word.Word.TheVariants.{Load, Apply, Transform, Set, Reset}
use Rattle.ilcode.specs.declared.word.Word.TheVariants.{Open, Close, Jump}
use Rattle.ilcode.specs.declared.word.Word.TheVariants.{Store as St}
use Rattle.ilcode.specs.Listings.{Listing, listing_of}
use Rattle.ilcode.specs.Steps.{at, after, start}

abbrev pub whole : ℕ → Value
whole n = values.Int (pos n)

abbrev pub subrange : Range
subrange = record { lo = pos 0; hi = pos 254; ordered = record { le = tt } }

abbrev pub kinds : List BlockKind
kinds = Ton ∷ GearDo ∷ []

-- the constants 0, 255, 256 and -1
abbrev pub code_of : List ℕ → List Word → Listing
code_of starts words =
    listing_of 1 (whole 0 ∷ whole 255 ∷ whole 256 ∷ values.Int (negsuc 0) ∷ [])
    (types.Int subrange ∷ types.Int subrange ∷ types.Int subrange ∷ types.Bool ∷ []) kinds starts words [] []

-- the variables, of which the first three are these numbers; no instance was called, and 40 ms have passed
abbrev pub store_of : ℕ → ℕ → ℕ → Bool → Store
store_of a b c d =
    record {
      slots = whole a ∷ whole b ∷ whole c ∷ values.Bool d ∷ [];
      blocks = blocks_at_first kinds;
      requests = [];
      moment = 40;
    }

-- from these values so many steps lead to the words' end with those, the current result is this one, and nothing is
-- open
abbrev pub ComeIn : ℕ → List ℕ → List Word → Store → Option Value → Store → Type 0
ComeIn steps starts words from result to =
    after (code_of starts words) (start from) steps ≡ Some (at (length words) to result [] [])

-- a step for each word
abbrev pub Come : List ℕ → List Word → Store → Option Value → Store → Type 0
Come starts words = ComeIn (length words) starts words

-- from these values a word is undefined
abbrev pub AreStuck : List ℕ → List Word → Store → Type 0
AreStuck starts words from = after (code_of starts words) (start from) (length words) ≡ None

-- from these values so many steps lead to the word at the place, which is undefined
abbrev pub AreStuckAt : ℕ → ℕ → List ℕ → List Word → Store → Type 0
AreStuckAt place steps starts words from =
    (option_map (λ c. c.place) (after (code_of starts words) (start from) steps) ≡ Some place)
    × (after (code_of starts words) (start from) (steps + 1) ≡ None)

-- LD of the first, the second or the fourth variable
abbrev pub ld_a : Word
ld_a = Load false (Slot 0)

abbrev pub ld_b : Word
ld_b = Load false (Slot 1)

abbrev pub ld_d : Word
ld_d = Load false (Slot 3)

-- LD of a constant, by its number
abbrev pub ld : ℕ → Word
ld constant = Load false (Constant constant)

-- ST a, ST b, ST d, STN d
abbrev pub st_a : Word
st_a = St false (variables.Slot 0)

abbrev pub st_b : Word
st_b = St false (variables.Slot 1)

abbrev pub st_d : Word
st_d = St false (variables.Slot 3)

abbrev pub stn_d : Word
stn_d = St true (variables.Slot 3)

-- LD a, SUB( b, SUB c, ), ST a
abbrev pub deferred : List Word
deferred = ld_a ∷ Open Sub ∷ ld_b ∷ Apply Sub (Slot 2) ∷ Close ∷ st_a ∷ []

-- LD a, DIV b
abbrev pub quotient : List Word
quotient = ld_a ∷ Apply Div (Slot 1) ∷ []

-- INT_TO_USINT of a constant
abbrev pub converted : ℕ → List Word
converted constant = ld constant ∷ Transform (Convert Usint) ∷ []

-- LD d, AND(, so many times
abbrev pub opens : ℕ → List Word
opens zero = []
opens (suc n) = ld_d ∷ Open (And false) ∷ opens n

abbrev pub closes : ℕ → List Word
closes zero = []
closes (suc n) = Close ∷ closes n

-- the truth value TRUE under so many parentheses
abbrev pub nested : ℕ → List Word
nested n = opens n ++ ld_d ∷ closes n

-- LD d, S d, R d
abbrev pub set : List Word
set = ld_d ∷ Transform Not ∷ Set (variables.Slot 3) ∷ []

abbrev pub reset : List Word
reset = ld_d ∷ Reset (variables.Slot 3) ∷ []

-- JMPC to a place, under LD d, before LD a, ST b
abbrev pub jump_if : ℕ → List Word
jump_if target = ld_d ∷ Jump IfTrue target ∷ ld_a ∷ st_b ∷ []

-- JMPCN
abbrev pub jump_unless : ℕ → List Word
jump_unless target = ld_d ∷ Jump IfFalse target ∷ ld_a ∷ st_b ∷ []

-- JMP before LD a, ST b
abbrev pub jump : ℕ → List Word
jump target = Jump Always target ∷ ld_a ∷ st_b ∷ []

-- LD d, RETC, STN d; and a program with LD a
abbrev pub returning : List Word
returning = ld_d ∷ Jump IfTrue 3 ∷ stn_d ∷ ld_a ∷ []

-- LD d, AND(, LD d, JMPCN to the end, )
abbrev pub jump_in_parentheses : List Word
jump_in_parentheses = ld_d ∷ Open (And false) ∷ ld_d ∷ Jump IfFalse 5 ∷ Close ∷ []
