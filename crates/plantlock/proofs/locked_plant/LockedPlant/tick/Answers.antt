use Rattle.std.proofs.Common.{refl, sym}
use Rattle.plantlock.proofs.Refusing.{error_as, tick_accepted}
use Rattle.plantlock.proofs.locked_plant.LockedPlant.tick.Goals as goal

pub meet-requires : goal.meet-requires
meet-requires g c = record { tied = (c.self.inside.plant, c.self.invariant.1) }

pub invariant_of-self : goal.invariant_of-self
invariant_of-self g c = rw (c.in_err-tick.ensures.err, c.meet.ensures.same.0) c.self.invariant

pub returns-in_err-tick : goal.returns-in_err-tick
returns-in_err-tick g c =
    let p = c.self.inside.plant in
    let refusal = c.in_err-tick.field-0.0 in
    rw (error_as c.from_residual.result refusal c.from_residual.ensures.1, ← c.self.view_is) (record {
      event = tt;
      noted = tt;
      refused = c.in_err-tick.ensures.refused;
      err = (c.in_err-tick.ensures.err, c.meet.ensures.same.1);
      kept = λ place fits. absurd (tick_accepted p c.args.share.now c.args.moment refusal c.requires.role
          (c.meet.ensures.agree p c.self.invariant.1) (c.what_a_part_shows.ensures.clock p.history)
          c.in_err-tick.ensures.refused place fits);
    })

pub file-requires : goal.file-requires
file-requires g c = record {
  cells = rw c.meet.ensures.same.0 c.self.invariant.0;
  tied = (c.self.inside.plant, c.in_ok-tick.ensures.ok, rw c.meet.ensures.same.0 c.self.invariant.1);
  role = rw c.meet.ensures.same.1 (sym c.requires.role);
}

pub invariant_of-self-2 : goal.invariant_of-self-2
invariant_of-self-2 g c = (rw (c.file.ensures.cells, c.meet.ensures.same.0) c.self.invariant.0, c.file.ensures.tied)

pub returns : goal.returns
returns g c = rw (← c.self.view_is) (record {
  event = c.in_ok-tick.ensures.ok;
  noted = rw c.meet.ensures.same.1 at (c.file.ensures.noted c.self.inside.plant c.in_ok-tick.ensures.ok);
  refused = c.in_ok-tick.ensures.refused;
  err = tt;
  kept = λ _ _. refl;
})
