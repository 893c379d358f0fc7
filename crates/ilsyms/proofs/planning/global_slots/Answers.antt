use Rattle.std.proofs.Common.{ℕ, ◌-◌, List, length, get_or, refl, ap, sym, subst, ◌∙◌, arith}
use Rattle.std.specs.Prelude.{Some}
use Rattle.ilsyms.specs.Meaning.{is_global}
use Rattle.ilsyms.specs.PlanningSteps.{SetsWhere}
use Rattle.ilsyms.proofs.NumberingGlobals.{AreFrom, none_read, one_set, all_read}
use Rattle.ilsyms.proofs.Lists.{written_back}
use Rattle.ilsyms.proofs.planning.global_slots.Goals as goal

pub loop-number-init : goal.loop-number-init
loop-number-init c =
    none_read c.args.slots.now c.args.globals c.in_ok-numbers.numbers.items
    (c.in_ok-numbers.ensures.items_if_clones_equal (λ y e. e))

pub loop-number-preserved : goal.loop-number-preserved
loop-number-preserved c =
    let old = c.loop-number.numbers.items in
    let new = c.set_number.new.numbers in
    let long = ap (λ (ns : List ℕ). length ns) c.deref_mut.ensures.value in
    let whole = written_back old new c.loop-number.numbers.len (sym (sym long ∙ c.deref_mut.ensures.len))
    (c.set_number.ensures.many ∙ long)
    in
    let slot = get_or c.args.slots.now (c.loop-number.number - 1) c.index-slots-number.result in
    subst (AreFrom c.args.slots.now (c.loop-number.number - 1) c.args.globals) (sym whole)
    (one_set c.args.slots.now c.loop-number.number c.args.globals old c.index-slots-number.result
    c.loop-number-test.true c.loop-number.auto.number c.loop-number.invariant slot.variable refl new
    (subst
    (λ (ns : List ℕ). SetsWhere (λ g. is_global (Some g) slot.variable) (c.loop-number.number - 1) ns new)
    c.deref_mut.ensures.value c.set_number.ensures))

pub returns : goal.returns
returns c =
    all_read c.args.slots.now c.loop-number.number c.args.globals c.loop-number.numbers.items
    (omega (arith, c.loop-number-test.false)) c.loop-number.invariant
