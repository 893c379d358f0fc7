use Rattle.readytasks.proofs.tasks.Tasks.note_frame.Goals as goal

pub heard_all-requires-clause-ready : goal.heard_all-requires-clause-ready
heard_all-requires-clause-ready c = (c.self.inside.moment, c.self.invariant)

pub invariant_of-self : goal.invariant_of-self
invariant_of-self c = c.heard_all.ensures.ready c.self.inside.moment c.self.invariant
