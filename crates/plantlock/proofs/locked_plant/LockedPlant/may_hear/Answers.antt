use Rattle.std.proofs.Common.{ap, subst, arith}
use Rattle.plantevents.specs.Plants.{Plant}
use Rattle.plantevents.specs.declared.role.Role.{Role}
use Rattle.plantevents.specs.declared.role.Role.TheVariants.{Bus}
use Rattle.plantreceipts.specs.Receipts.{IsRole}
use Rattle.plantlock.specs.Tied.{HasPlace}
use Rattle.plantlock.proofs.Refusing.{error_as, bus_known, heard_up, unheard}
use Rattle.plantlock.proofs.locked_plant.LockedPlant.may_hear.Goals as goal

pub meet-requires : goal.meet-requires
meet-requires g c = record { tied = (c.self.inside.plant, c.self.invariant.1) }

pub invariant_of-self : goal.invariant_of-self
invariant_of-self g c = rw (c.in_err-may_hear.ensures.err, c.meet.ensures.same.0) c.self.invariant

pub returns-in_err-may_hear : goal.returns-in_err-may_hear
returns-in_err-may_hear g c =
    let p = c.self.inside.plant in
    let refusal = c.in_err-may_hear.field-0.0 in
    rw (error_as c.from_residual.result refusal c.from_residual.ensures.1, ← c.self.view_is) (record {
      place = tt;
      reserved = tt;
      up = tt;
      refused = c.in_err-may_hear.ensures.refused;
      why = unheard p c.args.share.now c.args.bus refusal c.requires.role (c.meet.ensures.agree p c.self.invariant.1).0
          (c.what_a_part_shows.ensures.down c.args.bus p.history)
          (bus_known g.J.LockStart.start p _ c.args.bus c.requires.role c.meet.ensures.known
          c.self.invariant.1.same_plant)
          c.in_err-may_hear.ensures.refused;
      err = (c.in_err-may_hear.ensures.err, c.meet.ensures.same.1);
    })

pub keep-requires : goal.keep-requires
keep-requires g c = record { tied = (c.self.inside.plant, rw c.meet.ensures.same.0 c.self.invariant.1) }

pub invariant_of-self-2 : goal.invariant_of-self-2
invariant_of-self-2 g c =
    let p = c.self.inside.plant in
    let known = bus_known g.J.LockStart.start p _ c.args.bus c.requires.role c.meet.ensures.known
    c.self.invariant.1.same_plant in
    let here : HasPlace (Bus c.args.bus) p = omega (arith, c.len-places.ensures.places, known) in (
      rw (c.keep.ensures.cells, c.meet.ensures.same.0) c.self.invariant.0,
      rw c.in_ok-may_hear.ensures.ok
          (c.keep.ensures.tied p (Bus c.args.bus) (rw c.meet.ensures.same.1 c.requires.role) here
          (rw c.meet.ensures.same.0 c.self.invariant.1)),
    )

pub returns : goal.returns
returns g c =
    let p = c.self.inside.plant in
    rw (← c.self.view_is) (record {
      place = c.in_ok-may_hear.ensures.ok;
      reserved = rw c.meet.ensures.same.1 at c.keep.ensures.reserved;
      up = heard_up p c.args.share.now c.args.bus c.requires.role (c.meet.ensures.agree p c.self.invariant.1).0
          (c.what_a_part_shows.ensures.down c.args.bus p.history) c.in_ok-may_hear.ensures.refused;
      refused = c.in_ok-may_hear.ensures.refused;
      why = tt;
      err = tt;
    })
