use Rattle.std.proofs.Common.{sym, subst}
use Rattle.plant.specs.Shown.{Shown}
use Rattle.plantlock.specs.Tied.{AreTied}
use Rattle.plantlock.proofs.Filing.{starts}
use Rattle.plantlock.proofs.locked_plant.LockedPlant.new.Goals as goal

pub invariant_of-result : goal.invariant_of-result
invariant_of-result g c = (
  c.requires.cells,
  subst
      (λ (p : Shown).
      AreTied g.J.LockStart.cells g.J.LockStart.start p (g.K.Tallies.number c.args.numbers) c.args.newest.items)
      (sym c.requires.start)
      (starts g.J.LockStart.cells g.J.LockStart.start (g.K.Tallies.number c.args.numbers) c.args.newest.items
      c.requires.enough c.requires.newest.0 c.requires.newest.1 c.requires.numbers),
)
