use Rattle.std.proofs.Common.{◌≡◌, ◌∙◌, Err, refl, sym}
use Rattle.plant.specs.declared.plant.taking.Order.{Order}
use Rattle.plantlock.proofs.Refusing.{error_as, take_gives}
use Rattle.plantlock.proofs.locked_plant.LockedPlant.take.Goals as goal

pub invariant_of-self : goal.invariant_of-self
invariant_of-self g c = rw c.in_err-order.ensures.err c.self.invariant

pub returns-in_err-order : goal.returns-in_err-order
returns-in_err-order g c =
    let error = c.in_err-order.field-0.0 in
    rw (error_as c.from_residual.result error c.from_residual.ensures.1) (record {
      event = tt;
      noted = tt;
      number = tt;
      refused = take_gives {A = Order} c.self.inside.plant c.args.self.now c.args.worker (Err error) c.self.view_is
          c.in_err-order.ensures.refused;
      err = (c.in_err-order.ensures.err ∙ c.self.view_is, refl);
    })

pub file-requires : goal.file-requires
file-requires g c =
    let noted : c.of.result ≡ c.in_ok-order.order.work.snapshot = cc in
    record {
      cells = c.self.invariant.0;
      tied = (c.self.inside.plant, rw noted c.in_ok-order.ensures.grown, c.self.invariant.1);
      role = sym c.requires.role;
    }

pub invariant_of-self-2 : goal.invariant_of-self-2
invariant_of-self-2 g c = (rw c.file.ensures.cells c.self.invariant.0, c.file.ensures.tied)

pub returns : goal.returns
returns g c =
    let given = c.in_ok-order.ensures in
    let noted : c.of.result ≡ c.in_ok-order.order.work.snapshot = cc in
    rw (← c.self.view_is) (record {
      event = given.grown;
      noted = rw given.number.0 (rw noted at (c.file.ensures.noted c.self.inside.plant (rw noted given.grown)));
      number = (given.number.0, given.number.1 ∙ sym given.number.0);
      refused = given.refused;
      err = tt;
    })
