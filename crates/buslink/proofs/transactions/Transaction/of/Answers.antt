use Rattle.buslink.proofs.transactions.Transaction.of.Goals as goal

pub invariant_of-result : goal.invariant_of-result
invariant_of-result c = rw c.class.ensures.value (c.frames.ensures.legal c.args.task)

pub returns-clause-legal : goal.returns-clause-legal
returns-clause-legal c = rw c.class.ensures.value (c.frames.ensures.legal c.args.task)
