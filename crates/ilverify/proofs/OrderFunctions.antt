-- Who knows more before a function knows more after it.
use Rattle.iltypes.specs.declared.value.Value.{Value}
use Rattle.iltypes.specs.declared.value.Value.TheVariants as values
use Rattle.iltypes.specs.declared.function.Function.{Function}
use Rattle.iltypes.specs.Functions.{value_of_function}
use Rattle.ilverify.specs.declared.known.Known.{Known}
use Rattle.ilverify.specs.declared.known.Known.TheVariants as knowns
use Rattle.ilverify.specs.Knowns.{IsKnownWithin, AreReached}
use Rattle.ilverify.specs.Functions.{IsGiven, IsAfterFunction}
use Rattle.ilverify.specs.Order.{FunctionKeepsOrder, FunctionKeepsRefusals}
use Rattle.ilverify.proofs.Knowns.{example, known_wider, truths_within, numbers_within}
use Rattle.ilverify.proofs.FunctionRanges.{no_cause}
use Rattle.ilverify.proofs.OrderOperators.{given}

pub refusals : (function : Function) → FunctionKeepsRefusals function
refusals function operand wider_operand wider cause p a h =
    no_cause function operand (λ x k. h.some x (known_wider x operand wider_operand p k)) cause a

given_wider : (function : Function) (operand wider_operand : Known) (v : Value) → IsKnownWithin operand wider_operand
    → IsGiven function operand v → IsGiven function wider_operand v
given_wider function operand wider_operand v p r =
    record { x = r.x; of_operand = known_wider r.x operand wider_operand p r.of_operand; is = r.is }

-- some result there is
some_given : (function : Function) (operand known : Known) → IsAfterFunction function operand known
    → (v : Value) × IsGiven function operand v
some_given function operand known h =
    let x = example operand in
    let v = given (value_of_function function x.0) (h.some x.0 x.1) in
    (v.0, record { x = x.0; of_operand = x.1; is = v.1 })

within : (function : Function) (operand known wider_operand wider : Known) → IsKnownWithin operand wider_operand
    → AreReached (IsGiven function operand) known → IsAfterFunction function operand known
    → IsAfterFunction function wider_operand wider → IsKnownWithin known wider
within function operand knowns.Bool wider_operand wider p reached h k =
    let s = some_given function operand knowns.Bool h in
    truths_within s.0 wider (h.each s.0 s.1) (k.each s.0 (given_wider function operand wider_operand s.0 p s.1))
within function operand (knowns.Int r) wider_operand wider p reached h k =
    numbers_within r wider
    (k.each (values.Int r.lo) (given_wider function operand wider_operand (values.Int r.lo) p reached.0))
    (k.each (values.Int r.hi) (given_wider function operand wider_operand (values.Int r.hi) p reached.1))

pub order : (function : Function) → FunctionKeepsOrder function
order function operand known wider_operand wider p h k =
    within function operand known wider_operand wider p h.closest h k
