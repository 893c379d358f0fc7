-- Who knows more before an operator, a function or a word knows more after it, and is refused only where who knows less
-- is refused too.
use Rattle.std.specs.Prelude.{ℕ, Bool, IsTrue, Option, Some, None, ⊤}
use Rattle.iltypes.specs.declared.function.Function.{Function}
use Rattle.iltypes.specs.declared.operator.Operator.{Operator}
use Rattle.ilcode.specs.declared.word.Word.{Word}
use Rattle.ilcode.specs.Listings.{Listing}
use Rattle.ilverify.specs.declared.cause.Cause.{Cause}
use Rattle.ilverify.specs.declared.known.Known.{Known}
use Rattle.ilverify.specs.Functions.{IsAfterFunction, ArisesAtFunction}
use Rattle.ilverify.specs.Knowns.{IsKnownWithin}
use Rattle.ilverify.specs.Results.{IsAfter, Arises}
use Rattle.ilverify.specs.declared.entry.Entry.{Entry}
use Rattle.ilverify.specs.Entries.{IsInto}
use Rattle.ilverify.specs.Refusals.{ArisesAtWord}
use Rattle.ilverify.specs.Rules.{Ways, AreWaysOf, IsRule}

-- the result of what is known more closely is known more closely
abbrev pub KeepsOrder : Operator → Type 0
KeepsOrder operator =
    (left right known wider_left wider_right wider : Known) → IsKnownWithin left wider_left
    → IsKnownWithin right wider_right → IsAfter operator left right known
    → IsAfter operator wider_left wider_right wider → IsKnownWithin known wider

-- what is refused where more is known is refused where less is
abbrev pub KeepsRefusals : Operator → Type 0
KeepsRefusals operator =
    (left right wider_left wider_right wider : Known) (cause : Cause) → IsKnownWithin left wider_left
    → IsKnownWithin right wider_right → Arises operator left right cause
    → ¬ IsAfter operator wider_left wider_right wider

-- the same of a function of one value
abbrev pub FunctionKeepsOrder : Function → Type 0
FunctionKeepsOrder function =
    (operand known wider_operand wider : Known) → IsKnownWithin operand wider_operand
    → IsAfterFunction function operand known → IsAfterFunction function wider_operand wider
    → IsKnownWithin known wider

abbrev pub FunctionKeepsRefusals : Function → Type 0
FunctionKeepsRefusals function =
    (operand wider_operand wider : Known) (cause : Cause) → IsKnownWithin operand wider_operand
    → ArisesAtFunction function operand cause → ¬ IsAfterFunction function wider_operand wider

-- ---- words

-- no value goes a way, or what is known on it is within what the other says
abbrev pub IsWayInto : Option Entry → Option Entry → Type 0
IsWayInto None wider = ⊤
IsWayInto (Some way) None = ⊥
IsWayInto (Some way) (Some wider) = IsInto way wider

-- who knows more before the word knows more on each way from it
abbrev pub KeepsEntryOrder : Word → Type 0
KeepsEntryOrder word =
    (code : Listing) (place : ℕ) (entry wider : Entry) (ways wider_ways : Ways) → IsInto entry wider
    → AreWaysOf code place entry word ways → AreWaysOf code place wider word wider_ways
    → IsWayInto ways.next wider_ways.next × IsWayInto ways.target wider_ways.target

-- what is refused where more is known is refused where less is, and where jumps lead that led there before
abbrev pub KeepsWordRefusals : Word → Type 0
KeepsWordRefusals word =
    (code : Listing) (place : ℕ) (met wider_met : Bool) (entry wider : Entry) (wider_ways : Ways) (cause : Cause)
    → IsInto entry wider → (IsTrue met → IsTrue wider_met) → ArisesAtWord code place met entry word cause
    → ¬ IsRule code place wider_met wider word wider_ways
