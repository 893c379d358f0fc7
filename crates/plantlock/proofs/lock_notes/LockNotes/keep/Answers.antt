use Rattle.std.proofs.Common.{sym, subst}
use Rattle.plantevents.specs.declared.role.Role.{Role}
use Rattle.plantlock.specs.Tied.{HasPlace}
use Rattle.plantlock.proofs.Filing.{keeps}
use Rattle.plantlock.proofs.lock_notes.LockNotes.keep.Goals as goal

pub returns-clause-tied : goal.returns-clause-tied
returns-clause-tied g c p role is has tied =
    let m = c.meet.ensures in
    let r = c.args.share.now.role in
    let mine = rw (m.same.0, m.same.1, (m.agree p tied).1) at c.keep.ensures.mine in
    let others = rw (m.same.0, m.same.1) at c.keep.ensures.others in
    let there : HasPlace r p = subst (λ (r : Role). HasPlace r p) (sym is) has in
    rw (m.same.0, ← is)
    (keeps g.J.LockStart.cells g.J.LockStart.start p (g.K.Tallies.number c.args.self.now.numbers)
    (g.K.Tallies.number c.keep.new.numbers) c.args.self.now.newest.items r tied m.known there mine others)
