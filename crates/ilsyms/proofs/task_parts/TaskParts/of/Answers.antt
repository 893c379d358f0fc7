use Rattle.std.proofs.Common.{◌≡◌, ◌∙◌, ◌++◌, List, flat_map, subst}
use Rattle.ilscope.specs.Uses.{uses_of}
use Rattle.ilsyms.specs.CountingSteps.{AreCounted}
use Rattle.ilsyms.specs.FunctionSteps.{Needs, marked}
use Rattle.ilsyms.specs.TaskSteps.{instances_of}
use Rattle.ilsyms.specs.Variables.{lines_of}
use Rattle.ilsyms.proofs.MarkedFunctions.{used_needs}
use Rattle.ilsyms.proofs.task_parts.TaskParts.of.Goals as goal

pub returns-clause-parts : goal.returns-clause-parts
returns-clause-parts c =
    let tree = c.args.scope.now.tree in
    let is = instances_of tree c.args.instances.now in
    let used = c.deref.ensures.value ∙ c.in_ok-used.ensures in
    let same : marked c.deref.result.now c.args.needs.now ≡ used_needs tree is =
    λ i. marked (used i) (c.requires.needs i) in
    record {
      there = c.requires.there;
      have = record {
        used = c.in_ok-used.ensures;
        slots = c.in_ok-slots.ensures;
        blocks = c.in_ok-blocks.ensures;
        counted = subst
            (λ (ns : List Needs). AreCounted (uses_of (lines_of is) ++ flat_map (λ (one : Needs). one.uses) ns)
            c.in_ok-counted.counted.constants c.in_ok-counted.counted.excess)
            same c.in_ok-counted.ensures;
      };
    }
