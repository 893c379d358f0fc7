use Rattle.std.proofs.Common.{◌≡◌, ℕ, zero, suc, ◌+◌, ◌-◌, ◌<◌, List, [], ◌∷◌, length, get_or, refl, subst, arith}
use Rattle.ilplan.specs.Functions.{PlannedFunction}
use Rattle.ilplan.specs.Plans.{all_lines}
use Rattle.ilplan.specs.UsageSteps.{AreFound}
use Rattle.ilplan.proofs.CallsAdded.{is_used_too, not_used}
use Rattle.ilplan.proofs.usage.add_callees.Goals as goal

pub loop-number-preserved-then-used-number : goal.loop-number-preserved-then-used-number
loop-number-preserved-then-used-number c =
    let lines = all_lines c.args.instances.now in
    let fs = c.args.functions.now in
    let i = c.loop-number.number - 1 in
    let on : c.loop-number.number ≡ i + 1 = omega (arith, c.loop-number-test.true) in
    let below : i < length fs = omega (arith, on, c.loop-number.auto.number) in
    let was = subst (λ (n : ℕ). AreFound lines fs n c.loop-number.used) on c.loop-number.invariant in
    is_used_too lines fs i c.index-functions-number.result below c.index-functions-number.is c.loop-number.used was _
    c.if-used-number.true (rw c.lines.ensures.value at c.add_lines.ensures)

one_at : (fs : List PlannedFunction) (i : ℕ) → i < length fs → (f : PlannedFunction) × (f ≡ get_or fs i f)
one_at [] i h = absurd (omega arith)
one_at (f ∷ fs) zero h = (f, refl)
one_at (f ∷ fs) (suc i) h = one_at fs i (omega arith)

pub loop-number-preserved : goal.loop-number-preserved
loop-number-preserved c =
    let lines = all_lines c.args.instances.now in
    let fs = c.args.functions.now in
    let i = c.loop-number.number - 1 in
    let on : c.loop-number.number ≡ i + 1 = omega (arith, c.loop-number-test.true) in
    let below : i < length fs = omega (arith, on, c.loop-number.auto.number) in
    let was = subst (λ (n : ℕ). AreFound lines fs n c.loop-number.used) on c.loop-number.invariant in
    let there = one_at fs i below in
    not_used lines fs i there.0 below there.1 c.loop-number.used was c.if-used-number.false
