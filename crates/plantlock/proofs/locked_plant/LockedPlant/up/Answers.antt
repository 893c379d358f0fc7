use Rattle.std.proofs.Common.{sym}
use Rattle.plantlock.proofs.Refusing.{error_as, bus_known, not_up, up_down}
use Rattle.plantlock.proofs.locked_plant.LockedPlant.up.Goals as goal

pub meet-requires : goal.meet-requires
meet-requires g c = record { tied = (c.self.inside.plant, c.self.invariant.1) }

pub invariant_of-self : goal.invariant_of-self
invariant_of-self g c = rw (c.in_err-up.ensures.err, c.meet.ensures.same.0) c.self.invariant

pub returns-in_err-up : goal.returns-in_err-up
returns-in_err-up g c =
    let p = c.self.inside.plant in
    let refusal = c.in_err-up.field-0.0 in
    rw (error_as c.from_residual.result refusal c.from_residual.ensures.1, ← c.self.view_is) (record {
      event = tt;
      noted = tt;
      down = tt;
      refused = c.in_err-up.ensures.refused;
      why = not_up p c.args.share.now c.args.bus refusal c.requires.role (c.meet.ensures.agree p c.self.invariant.1).0
          (c.what_a_part_shows.ensures.down c.args.bus p.history)
          (bus_known g.J.LockStart.start p _ c.args.bus c.requires.role c.meet.ensures.known
          c.self.invariant.1.same_plant)
          c.in_err-up.ensures.refused;
      err = (c.in_err-up.ensures.err, c.meet.ensures.same.1);
    })

pub file-requires : goal.file-requires
file-requires g c = record {
  cells = rw c.meet.ensures.same.0 c.self.invariant.0;
  tied = (c.self.inside.plant, c.in_ok-up.ensures.ok, rw c.meet.ensures.same.0 c.self.invariant.1);
  role = rw c.meet.ensures.same.1 (sym c.requires.role);
}

pub invariant_of-self-2 : goal.invariant_of-self-2
invariant_of-self-2 g c = (rw (c.file.ensures.cells, c.meet.ensures.same.0) c.self.invariant.0, c.file.ensures.tied)

pub returns : goal.returns
returns g c =
    let p = c.self.inside.plant in
    rw (← c.self.view_is) (record {
      event = c.in_ok-up.ensures.ok;
      noted = rw c.meet.ensures.same.1 at (c.file.ensures.noted p c.in_ok-up.ensures.ok);
      down = up_down p c.args.share.now c.args.bus c.requires.role (c.meet.ensures.agree p c.self.invariant.1).0
          (c.what_a_part_shows.ensures.down c.args.bus p.history) c.in_ok-up.ensures.refused;
      refused = c.in_ok-up.ensures.refused;
      why = tt;
      err = tt;
    })
