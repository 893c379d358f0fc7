use Rattle.ilscope.specs.Uses.{uses_of}
use Rattle.ilsyms.specs.TaskSteps.{instances_of}
use Rattle.ilsyms.specs.Variables.{lines_of}
use Rattle.ilsyms.proofs.counting.Counted.of.Goals as goal

pub returns : goal.returns
returns c =
    c.in_ok-add_functions.ensures (uses_of (lines_of (instances_of c.args.scope.now.tree c.args.instances.now)))
    c.in_ok-counted.ensures
