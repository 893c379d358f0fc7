use Rattle.std.proofs.Common.{◌∙◌, ap, sym}
use Rattle.plantevents.specs.Plants.{Plant, tries_of}
use Rattle.plantlock.proofs.Refusing.{error_as, hand_up}
use Rattle.plantlock.proofs.locked_plant.LockedPlant.hand.Goals as goal

pub meet-requires : goal.meet-requires
meet-requires g c = record { tied = (c.self.inside.plant, c.self.invariant.1) }

pub invariant_of-self : goal.invariant_of-self
invariant_of-self g c = rw (c.in_err-handed.ensures.err, c.meet.ensures.same.0) c.self.invariant

pub returns-in_err-handed : goal.returns-in_err-handed
returns-in_err-handed g c =
    rw (error_as c.from_residual.result c.in_err-handed.field-0.0 c.from_residual.ensures.1, ← c.self.view_is)
    (record {
      event = tt;
      noted = tt;
      number = tt;
      tries = tt;
      range = tt;
      up = tt;
      refused = c.in_err-handed.ensures.refused;
      err = (c.in_err-handed.ensures.err, c.meet.ensures.same.1);
    })

pub file-requires : goal.file-requires
file-requires g c = record {
  cells = rw c.meet.ensures.same.0 c.self.invariant.0;
  tied = (
    c.self.inside.plant,
    rw c.copy_of.ensures c.in_ok-handed.ensures.grown,
    rw c.meet.ensures.same.0 c.self.invariant.1,
  );
  role = rw c.meet.ensures.same.1 (sym c.requires.role);
}

pub invariant_of-self-2 : goal.invariant_of-self-2
invariant_of-self-2 g c = (rw (c.file.ensures.cells, c.meet.ensures.same.0) c.self.invariant.0, c.file.ensures.tied)

pub returns : goal.returns
returns g c =
    let p = c.self.inside.plant in
    let given = c.in_ok-handed.ensures in
    rw (← c.self.view_is) (record {
      event = given.grown;
      noted = rw (given.number)
          (rw (c.meet.ensures.same.1, c.copy_of.ensures) at (c.file.ensures.noted p (rw c.copy_of.ensures given.grown)));
      number = given.number;
      tries = given.tries ∙ ap (λ (x : Plant). tries_of x c.args.bus) c.self.invariant.1.same_plant;
      range = given.range;
      up = hand_up p c.args.share.now c.args.bus c.requires.role (c.meet.ensures.agree p c.self.invariant.1).0
          (c.what_a_part_shows.ensures.down c.args.bus p.history) given.refused;
      refused = given.refused;
      err = tt;
    })
