use Rattle.ilsyms.proofs.ExcessFaults.{least_of_limits}
use Rattle.ilsyms.proofs.excess.too_many.Goals as goal

pub returns : goal.returns
returns c =
    rw (c.lesser_of-2.ensures, c.lesser_of-declared.ensures, c.lesser_of.ensures)
    (least_of_limits c.args.scope.now.tree c.args.after c.task_past.result c.instance_past.result c.exceeding.result
    c.exceeding-2.result c.in_ok-within.within c.in_ok-functions.functions c.task_past.ensures c.instance_past.ensures
    c.exceeding.ensures c.exceeding-2.ensures c.in_ok-within.ensures c.in_ok-functions.ensures)
