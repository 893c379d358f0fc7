use Rattle.plantlock.proofs.lock_notes.LockNotes.meet.Goals as goal

pub index_of-index-requires : goal.index_of-index-requires
index_of-index-requires g c = (g.J.LockStart.start.plant, rw c.role.ensures.value c.role.ensures.known)
