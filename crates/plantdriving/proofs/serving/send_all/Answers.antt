use Rattle.std.proofs.Common.{refl}
use Rattle.plantdriving.specs.Order.{sends_at}
use Rattle.plantdriving.specs.Quiet.{HasNoHandout}
use Rattle.plantdriving.proofs.Again.{turned_more, turned_none, turned_out}
use Rattle.plantdriving.proofs.Linked.{step_nothing, step_then}
use Rattle.plantdriving.proofs.Order.{none_left, on_and_on, stays_same}
use Rattle.plantdriving.proofs.Turned.{handout_moved}
use Rattle.plantdriving.proofs.Tellings.{stopped_then, told_none, told_then}
use Rattle.plantdriving.proofs.serving.send_all.Goals as goal

pub returns-in_err-send_turn-clause-step : goal.returns-in_err-send_turn-clause-step
returns-in_err-send_turn-clause-step g c =
    step_then c.args.bus c.args.plant.now c.loop.plant c.send_turn.new.plant (g.B.Bus.log c.args.line.now)
    (g.B.Bus.log c.loop.line) (g.B.Bus.log c.send_turn.new.line) c.loop.invariant.step c.in_err-send_turn.ensures.step

pub returns-then-not-branch-clause-turn : goal.returns-then-not-branch-clause-turn
returns-then-not-branch-clause-turn g c =
    turned_out c.args.plant.now c.loop.plant c.send_turn.new.plant c.loop.counter c.loop.any c.in_ok-send_turn.field-0
    (HasNoHandout c.loop.plant c.args.bus) (HasNoHandout c.args.plant.now c.args.bus) c.loop.invariant.turned
    c.in_ok-send_turn.ensures.turn c.if-not-branch.true
    (λ same none.
    handout_moved c.args.plant.now c.loop.plant c.args.bus same c.loop.invariant.step.later.plant none)

pub loop-preserved : goal.loop-preserved
loop-preserved g c = record {
  step = step_then c.args.bus c.args.plant.now c.loop.plant c.send_turn.new.plant (g.B.Bus.log c.args.line.now)
      (g.B.Bus.log c.loop.line) (g.B.Bus.log c.send_turn.new.line) c.loop.invariant.step
      c.in_ok-send_turn.ensures.step;
  goes_on = let at = sends_at c.args.bus in
      on_and_on at at at c.args.plant.now c.loop.plant c.send_turn.new.plant c.loop.invariant.goes_on
      c.in_ok-send_turn.ensures.goes_on;
  turned = turned_more c.args.plant.now c.loop.plant c.send_turn.new.plant c.loop.counter c.loop.any
      c.in_ok-send_turn.field-0 (HasNoHandout c.loop.plant c.args.bus) c.loop.invariant.turned
      c.in_ok-send_turn.ensures.turn c.if-not-branch.false;
  told = told_then c.args.plant.now.history c.loop.plant.history c.send_turn.new.plant.history
      (g.O.Observer.told c.args.observer.now) (g.O.Observer.told c.loop.observer)
      (g.O.Observer.told c.send_turn.new.observer) c.loop.invariant.told c.in_ok-send_turn.ensures.told;
}

pub returns-in_err-send_turn-clause-goes_on : goal.returns-in_err-send_turn-clause-goes_on
returns-in_err-send_turn-clause-goes_on g c =
    let at = sends_at c.args.bus in
    on_and_on at at at c.args.plant.now c.loop.plant c.send_turn.new.plant c.loop.invariant.goes_on
    c.in_err-send_turn.ensures.goes_on

pub returns-then-not-branch-clause-goes_on : goal.returns-then-not-branch-clause-goes_on
returns-then-not-branch-clause-goes_on g c =
    let at = sends_at c.args.bus in
    on_and_on at at at c.args.plant.now c.loop.plant c.send_turn.new.plant c.loop.invariant.goes_on
    c.in_ok-send_turn.ensures.goes_on

pub returns-then-not-branch-clause-none : goal.returns-then-not-branch-clause-none
returns-then-not-branch-clause-none g c =
    none_left c.args.bus c.loop.plant c.send_turn.new.plant c.in_ok-send_turn.field-0
    c.in_ok-send_turn.ensures.step.later.plant c.in_ok-send_turn.ensures.turn c.if-not-branch.true

pub returns-in_err-send_turn-clause-told : goal.returns-in_err-send_turn-clause-told
returns-in_err-send_turn-clause-told g c =
    stopped_then c.args.plant.now c.loop.plant c.send_turn.new.plant (g.O.Observer.told c.args.observer.now)
    (g.O.Observer.told c.loop.observer) (g.O.Observer.told c.send_turn.new.observer) c.in_err-send_turn.field-0.0
    c.from_residual.result c.from_residual.ensures.1 c.loop.invariant.told c.in_err-send_turn.ensures.told

pub returns-then-not-branch-clause-told : goal.returns-then-not-branch-clause-told
returns-then-not-branch-clause-told g c =
    told_then c.args.plant.now.history c.loop.plant.history c.send_turn.new.plant.history
    (g.O.Observer.told c.args.observer.now) (g.O.Observer.told c.loop.observer)
    (g.O.Observer.told c.send_turn.new.observer) c.loop.invariant.told c.in_ok-send_turn.ensures.told

pub loop-init : goal.loop-init
loop-init g c = record {
  step = step_nothing c.args.bus c.args.plant.now (g.B.Bus.log c.args.line.now);
  goes_on = stays_same c.args.plant.now c.args.plant.now (sends_at c.args.bus) refl;
  turned = turned_none c.args.plant.now;
  told = told_none c.args.plant.now.history c.args.plant.now.history (g.O.Observer.told c.args.observer.now)
      (g.O.Observer.told c.args.observer.now) refl refl;
}
