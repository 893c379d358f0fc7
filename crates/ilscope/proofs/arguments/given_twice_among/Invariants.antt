use Rattle.std.proofs.Common.{take}
use Rattle.ilsource.specs.Names.{folded}
use Rattle.ildeclared.specs.Faults.{IsNextOf, OfCause}
use Rattle.ildeclared.specs.declared.fault.NameCause.TheVariants.{Twice}
use Rattle.ilscope.specs.Faults.{IsTwiceIn}
use Rattle.ilscope.proofs.ArgumentPorts.{given, AreKnown}
use Rattle.ilscope.proofs.arguments.given_twice_among.Given as goal

abbrev pub invariant-loop-number : goal.invariant-loop-number
invariant-loop-number l = record {
  known : AreKnown l.fn.scope.tree.text (given (take l.number l.fn.arguments)) l.given;
  twice : IsNextOf l.fn.after
      (OfCause Twice (IsTwiceIn (folded l.fn.scope.tree.text) (given (take l.number l.fn.arguments)))) l.least;
}
