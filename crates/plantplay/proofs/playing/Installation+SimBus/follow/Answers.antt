use Rattle.std.proofs.Common.{length, ap, arith, refl}
use Rattle.wordlines.specs.Happenings.{happenings}
use Rattle.plantdriving.proofs.Tellings.{stopped_then, told_none, told_then}
use Rattle.plantplay.specs.Installations.{stage_of}
use Rattle.plantplay.proofs.Followed.{few_happenings, none_followed, one_followed}
use Rattle.plantplay.proofs.playing.Installation+SimBus.follow.Goals as goal

pub loop-init : goal.loop-init
loop-init g c = record {
  followed = none_followed (happenings c.args.scenario.now) c.happenings-happenings.result (stage_of c.args.self.now)
      c.happenings-happenings.ensures;
  few = let e = ap length c.happenings-happenings.ensures in let few = few_happenings c.args.scenario.now in omega arith;
  told = told_none c.args.self.now.plant.history c.args.self.now.plant.history (g.O.Observer.told c.args.observer.now)
      (g.O.Observer.told c.args.observer.now) refl refl;
}

pub loop-preserved : goal.loop-preserved
loop-preserved g c = record {
  followed = one_followed (happenings c.args.scenario.now) c.loop.happenings c.in-Some.happening c.next.new.self
      (stage_of c.args.self.now) (stage_of c.loop.self) (stage_of c.happen.new.self) c.in-Some.ensures
      c.loop.invariant.followed c.in_ok-happen-in-Some.ensures.happens;
  few = let e = ap length c.in-Some.ensures in let few = c.loop.invariant.few in omega arith;
  told = told_then c.args.self.now.plant.history c.loop.self.plant.history c.happen.new.self.plant.history
      (g.O.Observer.told c.args.observer.now) (g.O.Observer.told c.loop.observer)
      (g.O.Observer.told c.happen.new.observer) c.loop.invariant.told c.in_ok-happen-in-Some.ensures.told;
}

pub returns-in_err-happen-in-Some-clause-told : goal.returns-in_err-happen-in-Some-clause-told
returns-in_err-happen-in-Some-clause-told g c =
    stopped_then c.args.self.now.plant c.loop.self.plant c.happen.new.self.plant (g.O.Observer.told c.args.observer.now)
    (g.O.Observer.told c.loop.observer) (g.O.Observer.told c.happen.new.observer) c.in_err-happen-in-Some.field-0.0
    c.from_residual.result c.from_residual.ensures.1 c.loop.invariant.told c.in_err-happen-in-Some.ensures.told
