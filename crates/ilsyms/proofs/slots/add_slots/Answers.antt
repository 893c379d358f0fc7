use Rattle.std.proofs.Common.{◌∙◌, ◌+◌, ◌++◌, List, [], ◌∷◌, ap, map, take, arith}
use Rattle.std.proofs.lemmas.List.{take_all}
use Rattle.ilplan.specs.declared.slot.Slot.{Slot}
use Rattle.ildeclared.specs.declared.variable.DeclaredVariable.{DeclaredVariable}
use Rattle.ilsyms.specs.Variables.{own_slot}
use Rattle.ilsyms.proofs.SlotBounds.{full, mapped_more}
use Rattle.ilsyms.proofs.slots.add_slots.Goals as goal

pub returns-then-len-gt-MOST_SLOTS : goal.returns-then-len-gt-MOST_SLOTS
returns-then-len-gt-MOST_SLOTS c all e = full 4096 c.args.slots.now.items all e _
    (omega (arith, c.len.ensures, c.if-len-gt-MOST_SLOTS.true))

pub loop-variable-preserved : goal.loop-variable-preserved
loop-variable-preserved c all e =
    c.in_ok-add_slot.ensures _ (c.loop-variable.invariant all e)
    ∙ ap (λ (xs : List Slot). take (4096 + 1) xs)
    (ap (λ x. (all ++ map (own_slot c.args.instance)
    (take c.loop-variable.variable-index c.variables-variable-items.result.now)) ++ own_slot c.args.instance x ∷ [])
    c.variable-item.is
    ∙ mapped_more (own_slot c.args.instance) all c.variables-variable-items.result.now c.loop-variable.variable-index _
    c.loop-variable-test.true)

pub returns : goal.returns
returns c all e =
    c.loop-variable.invariant all e
    ∙ ap (λ (xs : List DeclaredVariable). take (4096 + 1) (all ++ map (own_slot c.args.instance) xs))
    (take_all c.loop-variable.variable-index c.variables-variable-items.result.now c.loop-variable-test.false
    ∙ c.variables-variable-items.ensures.value)
