use Rattle.std.specs.Prelude.{None, Some}
use Rattle.commissioning.proofs.Hearing.{nothing_yet, nothing_more, nothing_recorded_yet, more_recorded, recorded_as}
use Rattle.commissioning.proofs.listening.listen.Goals as goal

pub loop-init : goal.loop-init
loop-init g c = (
  nothing_yet (g.B.Bus.log c.args.bus.now),
  nothing_recorded_yet c.args.number (g.B.Bus.log c.args.bus.now) (g.P.Write.contents c.args.scenario.now),
)

pub returns-in_default-millis_since-clause-silent : goal.returns-in_default-millis_since-clause-silent
returns-in_default-millis_since-clause-silent g c = c.loop.invariant.0

pub returns-in_default-millis_since-clause-listened : goal.returns-in_default-millis_since-clause-listened
returns-in_default-millis_since-clause-listened g c = c.loop.invariant.1

pub returns-then-is_over-clause-silent : goal.returns-then-is_over-clause-silent
returns-then-is_over-clause-silent g c = c.loop.invariant.0

pub returns-then-is_over-clause-listened : goal.returns-then-is_over-clause-listened
returns-then-is_over-clause-listened g c = c.loop.invariant.1

pub returns-in_err-fault-clause-silent : goal.returns-in_err-fault-clause-silent
returns-in_err-fault-clause-silent g c =
    nothing_more (g.B.Bus.log c.args.bus.now) (g.B.Bus.log c.loop.bus) (g.B.Bus.log c.listen_once.new.bus)
    c.loop.invariant.0 c.listen_once.ensures.silent

pub returns-in-Some-2-clause-silent : goal.returns-in-Some-2-clause-silent
returns-in-Some-2-clause-silent g c =
    nothing_more (g.B.Bus.log c.args.bus.now) (g.B.Bus.log c.loop.bus) (g.B.Bus.log c.listen_once.new.bus)
    c.loop.invariant.0 c.listen_once.ensures.silent

pub returns-in-Some-2-clause-listened : goal.returns-in-Some-2-clause-listened
returns-in-Some-2-clause-listened g c =
    more_recorded c.args.number (Some c.in-Some-2.fault) (g.B.Bus.log c.args.bus.now) (g.B.Bus.log c.loop.bus)
    (g.B.Bus.log c.listen_once.new.bus) (g.P.Write.contents c.args.scenario.now) (g.P.Write.contents c.loop.scenario)
    (g.P.Write.contents c.listen_once.new.scenario) c.loop.invariant.1
    (recorded_as c.args.number c.in_ok-fault.field-0 (Some c.in-Some-2.fault) (g.B.Bus.log c.loop.bus)
    (g.B.Bus.log c.listen_once.new.bus) (g.P.Write.contents c.loop.scenario)
    (g.P.Write.contents c.listen_once.new.scenario) c.in-Some-2.is c.in_ok-fault.ensures.turn)

pub loop-preserved : goal.loop-preserved
loop-preserved g c = (
  nothing_more (g.B.Bus.log c.args.bus.now) (g.B.Bus.log c.loop.bus) (g.B.Bus.log c.listen_once.new.bus)
      c.loop.invariant.0 c.listen_once.ensures.silent,
  more_recorded c.args.number None (g.B.Bus.log c.args.bus.now) (g.B.Bus.log c.loop.bus)
      (g.B.Bus.log c.listen_once.new.bus) (g.P.Write.contents c.args.scenario.now) (g.P.Write.contents c.loop.scenario)
      (g.P.Write.contents c.listen_once.new.scenario) c.loop.invariant.1
      (recorded_as c.args.number c.in_ok-fault.field-0 None (g.B.Bus.log c.loop.bus)
      (g.B.Bus.log c.listen_once.new.bus) (g.P.Write.contents c.loop.scenario)
      (g.P.Write.contents c.listen_once.new.scenario) c.in_default-2.is c.in_ok-fault.ensures.turn),
)

pub returns-clause-silent : goal.returns-clause-silent
returns-clause-silent g c = c.loop.invariant.0

pub returns-clause-listened : goal.returns-clause-listened
returns-clause-listened g c = c.loop.invariant.1
