use Rattle.std.specs.Prelude.{None}
use Rattle.commissioning.specs.Listening.{IsRecorded, SendsNothing}
use Rattle.commissioning.proofs.listening.listen.Given as goal

abbrev pub invariant-loop : goal.invariant-loop
invariant-loop g l =
    SendsNothing (g.B.Bus.log l.initial.bus) (g.B.Bus.log l.bus)
    × IsRecorded l.number None (g.B.Bus.log l.initial.bus) (g.B.Bus.log l.bus)
    (g.P.Write.contents l.initial.scenario) (g.P.Write.contents l.scenario)
