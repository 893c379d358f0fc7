use Rattle.std.proofs.Common.{◌∙◌, List, Bool, ap, sym}
use Rattle.std.specs.List.{list_any}
use Rattle.std.proofs.lemmas.List.{take_all}
use Rattle.ilplan.specs.declared.slot.Slot.{Slot}
use Rattle.ilsyms.specs.PlanningSteps.{is_of_instance}
use Rattle.ilsyms.proofs.NumberingPlaces.{found_at, none_more, none_passes}
use Rattle.ilsyms.proofs.planning.first_own.Goals as goal

abbrev of_instance : Slot → Bool
of_instance s = is_of_instance s.variable

pub returns-then-is_of_instance : goal.returns-then-is_of_instance
returns-then-is_of_instance c =
    let slot = c.index-slots-number.result in
    let passes = sym (ap of_instance c.index-slots-number.is) ∙ sym c.is_of_instance.ensures
    ∙ c.if-is_of_instance.true in
    sym (found_at of_instance c.args.slots.now c.loop-number.number slot c.loop-number-test.true c.loop-number.invariant
    passes)

pub loop-number-preserved : goal.loop-number-preserved
loop-number-preserved c =
    let slot = c.index-slots-number.result in
    let fails = sym (ap of_instance c.index-slots-number.is) ∙ sym c.is_of_instance.ensures
    ∙ c.if-is_of_instance.false in
    none_more of_instance c.args.slots.now c.loop-number.number slot c.loop-number-test.true c.loop-number.invariant
    fails

pub returns : goal.returns
returns c =
    let all = take_all c.loop-number.number c.args.slots.now c.loop-number-test.false in
    sym (none_passes of_instance c.args.slots.now
    (sym (ap (λ (ss : List Slot). list_any of_instance ss) all) ∙ c.loop-number.invariant))
