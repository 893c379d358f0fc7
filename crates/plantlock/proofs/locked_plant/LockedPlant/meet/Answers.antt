use Rattle.std.proofs.Common.{subst}
use Rattle.plant.specs.Shown.{Shown}
use Rattle.plantlock.specs.Answers.{IsUnderLock}
use Rattle.plantlock.proofs.locked_plant.LockedPlant.meet.Goals as goal

pub returns-clause-under : goal.returns-clause-under
returns-clause-under g c =
    let p = c.self.inside.plant in
    let tied = c.self.invariant.1 in
    let agree = c.meet.ensures.agree p tied in
    subst (λ (q : Shown). IsUnderLock g.J.LockStart.start c.args.share.now q) c.self.view_is (record {
      plant = tied.same_plant;
      limit = tied.same_limit;
      front = tied.front;
      legal = c.len-legal.ensures.legal;
      part = agree.0;
      place = agree.1;
    })
