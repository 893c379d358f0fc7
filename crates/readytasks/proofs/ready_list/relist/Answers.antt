use Rattle.std.proofs.Common.{length, sym, ◌∙◌}
use Rattle.readytasks.specs.TaskSetSteps.{rank_at}
use Rattle.readytasks.proofs.ready_list.relist.Goals as goal

pub returns-else-is-clause-order : goal.returns-else-is-clause-order
returns-else-is-clause-order c =
    c.leave.ensures.order (rank_at c.args.states.now) (length c.args.states.now) c.requires.order

pub returns-else-is-clause-listed : goal.returns-else-is-clause-listed
returns-else-is-clause-listed c =
    c.leave.ensures.left (rank_at c.args.states.now) (length c.args.states.now) c.requires.order ∙ sym c.if-is.false
