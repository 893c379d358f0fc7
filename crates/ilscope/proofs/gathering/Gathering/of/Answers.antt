use Rattle.std.proofs.Common.{List, subst, sym, take}
use Rattle.ilsource.specs.declared.source.Element.{Element}
use Rattle.ildeclared.proofs.Least.{take_more}
use Rattle.ilscope.specs.ScopeSteps.{IsGathered}
use Rattle.ilscope.proofs.gathering.Gathering.of.Goals as goal

pub loop-element-preserved : goal.loop-element-preserved
loop-element-preserved c =
    let elements = c.args.elements.now in
    let new = c.add.new.self in
    subst
    (λ (es : List Element). IsGathered c.args.after c.args.lower.now es new.types new.programs.items
    new.variable_numbers.items
    new.block_numbers.items new.external_numbers.items new.functions.items new.own_numbers.items new.least)
    (sym (take_more elements c.loop-element.element-index c.element-item.result c.loop-element-test.true
    c.element-item.is))
    (c.in_ok-add.ensures (take c.loop-element.element-index elements) c.loop-element.invariant)
