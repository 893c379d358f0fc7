use Rattle.std.proofs.Common.{refl}
use Rattle.plantevents.specs.declared.role.Role.TheVariants.{Clock}
use Rattle.plantlock.proofs.Refusing.{error_as}
use Rattle.plantlock.proofs.locked_plant.LockedPlant.may_tick.Goals as goal

pub invariant_of-self : goal.invariant_of-self
invariant_of-self g c = rw c.in_err-may_tick.ensures.err c.self.invariant

pub returns-in_err-may_tick : goal.returns-in_err-may_tick
returns-in_err-may_tick g c =
    rw (error_as c.from_residual.result c.in_err-may_tick.field-0.0 c.from_residual.ensures.1, ← c.self.view_is)
    (record {
      place = tt;
      reserved = tt;
      refused = c.in_err-may_tick.ensures.refused;
      err = (c.in_err-may_tick.ensures.err, refl);
    })

pub keep-requires : goal.keep-requires
keep-requires g c = record { tied = (c.self.inside.plant, c.self.invariant.1) }

pub invariant_of-self-2 : goal.invariant_of-self-2
invariant_of-self-2 g c = (
  rw c.keep.ensures.cells c.self.invariant.0,
  rw c.in_ok-may_tick.ensures.ok
      (c.keep.ensures.tied c.self.inside.plant Clock c.requires.role tt c.self.invariant.1),
)

pub returns : goal.returns
returns g c = rw (← c.self.view_is) (record {
  place = c.in_ok-may_tick.ensures.ok;
  reserved = c.keep.ensures.reserved;
  refused = c.in_ok-may_tick.ensures.refused;
  err = tt;
})
