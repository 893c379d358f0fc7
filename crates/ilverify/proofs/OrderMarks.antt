-- Marks that words leave: who knows more before a word has the same mark after it, or where the other has none.
use Rattle.std.proofs.Common.{◌≡◌, Bool, true, false, Option, Some, None, refl, sym, subst}
use Rattle.iltypes.specs.declared.value.Value.{Value}
use Rattle.iltypes.specs.declared.function.Function.{Function}
use Rattle.iltypes.specs.declared.operator.Operator.{Operator}
use Rattle.ilcode.specs.declared.word.WordOperand.{WordOperand}
use Rattle.ilcode.specs.declared.word.WordOperand.TheVariants.{Slot, Constant, Port}
use Rattle.ilverify.specs.declared.known.Known.{Known}
use Rattle.ilverify.specs.declared.known.Known.TheVariants as knowns
use Rattle.ilverify.specs.declared.mark.ResultMark.{ResultMark}
use Rattle.ilverify.specs.Knowns.{IsKnownWithin}
use Rattle.ilverify.specs.Marks.{IsMarkInto, mark_of_load, mark_of_apply, mark_of_function}

pub mark_self : (mark : Option ResultMark) → IsMarkInto mark mark
mark_self None = tt
mark_self (Some mark) = refl

-- what is made of a mark, and is none where there is none
through : (after : Option ResultMark → Option ResultMark) (mark wider : Option ResultMark) → after None ≡ None
    → IsMarkInto mark wider
    → IsMarkInto (after mark) (after wider)
through after mark None e h = subst (IsMarkInto (after mark)) (sym e) tt
through after None (Some wider) e h = absurd h
through after (Some mark) (Some wider) e h =
    subst (λ (m : ResultMark). IsMarkInto (after (Some mark)) (after (Some m))) h (mark_self (after (Some mark)))

pub load_marks : (negated : Bool) (operand : WordOperand) (known wider : Known) → IsKnownWithin known wider
    → IsMarkInto (mark_of_load negated operand known) (mark_of_load negated operand wider)
load_marks negated operand knowns.Bool knowns.Bool w = mark_self (mark_of_load negated operand knowns.Bool)
load_marks negated operand knowns.Bool (knowns.Int s) w = absurd w
load_marks negated operand (knowns.Int r) knowns.Bool w = absurd w
load_marks true operand (knowns.Int r) (knowns.Int s) w = tt
load_marks false (Slot slot) (knowns.Int r) (knowns.Int s) w = refl
load_marks false (Constant constant) (knowns.Int r) (knowns.Int s) w = tt
load_marks false (Port port block) (knowns.Int r) (knowns.Int s) w = tt

pub apply_marks : (mark wider : Option ResultMark) (operator : Operator) (constant : Option Value)
    → IsMarkInto mark wider
    → IsMarkInto (mark_of_apply mark operator constant) (mark_of_apply wider operator constant)
apply_marks mark wider operator constant h = through (λ m. mark_of_apply m operator constant) mark wider refl h

pub function_marks : (mark wider : Option ResultMark) (function : Function) → IsMarkInto mark wider
    → IsMarkInto (mark_of_function mark function) (mark_of_function wider function)
function_marks mark wider function h = through (λ m. mark_of_function m function) mark wider refl h
