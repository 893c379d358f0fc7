use Rattle.std.proofs.Common.{arith, refl}
use Rattle.plantdriving.specs.Quiet.{HasNoFrame}
use Rattle.plantdriving.proofs.Hearing.{heard_nothing, hearing_then}
use Rattle.plantdriving.proofs.Linked.{step_nothing, step_then}
use Rattle.plantdriving.proofs.Settled.{long_enough}
use Rattle.plantdriving.proofs.Tellings.{stopped_then, told_none, told_then}
use Rattle.plantdriving.proofs.serving.hear_all.Goals as goal

pub returns-in_err-hear_next-clause-step : goal.returns-in_err-hear_next-clause-step
returns-in_err-hear_next-clause-step g c =
    step_then c.args.bus c.args.plant.now c.loop.plant c.hear_next.new.plant (g.B.Bus.log c.args.line.now)
    (g.B.Bus.log c.loop.line) (g.B.Bus.log c.hear_next.new.line) c.loop.invariant.step c.in_err-hear_next.ensures.step

pub returns-in_err-hear_next-clause-only : goal.returns-in_err-hear_next-clause-only
returns-in_err-hear_next-clause-only g c =
    hearing_then c.args.bus c.args.plant.now c.loop.plant c.hear_next.new.plant c.loop.invariant.only
    c.in_err-hear_next.ensures.only

pub returns-then-not-branch-clause-only : goal.returns-then-not-branch-clause-only
returns-then-not-branch-clause-only g c =
    hearing_then c.args.bus c.args.plant.now c.loop.plant c.hear_next.new.plant c.loop.invariant.only
    c.in_ok-hear_next.ensures.only

pub loop-preserved : goal.loop-preserved
loop-preserved g c = record {
  step = step_then c.args.bus c.args.plant.now c.loop.plant c.hear_next.new.plant (g.B.Bus.log c.args.line.now)
      (g.B.Bus.log c.loop.line) (g.B.Bus.log c.hear_next.new.line) c.loop.invariant.step
      c.in_ok-hear_next.ensures.step;
  only = hearing_then c.args.bus c.args.plant.now c.loop.plant c.hear_next.new.plant c.loop.invariant.only
      c.in_ok-hear_next.ensures.only;
  long = long_enough c.args.plant.now c.loop.plant c.hear_next.new.plant c.loop.counter
      (HasNoFrame c.loop.plant c.args.bus (g.B.Bus.log c.loop.line) (g.B.Bus.log c.hear_next.new.line))
      c.in_ok-hear_next.field-0 c.loop.invariant.long c.in_ok-hear_next.ensures.turn c.if-not-branch.false;
  told = told_then c.args.plant.now.history c.loop.plant.history c.hear_next.new.plant.history
      (g.O.Observer.told c.args.observer.now) (g.O.Observer.told c.loop.observer)
      (g.O.Observer.told c.hear_next.new.observer) c.loop.invariant.told c.in_ok-hear_next.ensures.told;
}

pub returns-in_err-hear_next-clause-told : goal.returns-in_err-hear_next-clause-told
returns-in_err-hear_next-clause-told g c =
    stopped_then c.args.plant.now c.loop.plant c.hear_next.new.plant (g.O.Observer.told c.args.observer.now)
    (g.O.Observer.told c.loop.observer) (g.O.Observer.told c.hear_next.new.observer) c.in_err-hear_next.field-0.0
    c.from_residual.result c.from_residual.ensures.1 c.loop.invariant.told c.in_err-hear_next.ensures.told

pub returns-then-not-branch-clause-told : goal.returns-then-not-branch-clause-told
returns-then-not-branch-clause-told g c =
    told_then c.args.plant.now.history c.loop.plant.history c.hear_next.new.plant.history
    (g.O.Observer.told c.args.observer.now) (g.O.Observer.told c.loop.observer)
    (g.O.Observer.told c.hear_next.new.observer) c.loop.invariant.told c.in_ok-hear_next.ensures.told

pub loop-init : goal.loop-init
loop-init g c = record {
  step = step_nothing c.args.bus c.args.plant.now (g.B.Bus.log c.args.line.now);
  only = heard_nothing c.args.bus c.args.plant.now c.args.plant.now refl;
  long = omega arith;
  told = told_none c.args.plant.now.history c.args.plant.now.history (g.O.Observer.told c.args.observer.now)
      (g.O.Observer.told c.args.observer.now) refl refl;
}
