use Rattle.std.proofs.Common.{take}
use Rattle.ilsource.specs.Names.{folded}
use Rattle.ildeclared.specs.Faults.{IsNextOf, OfCause}
use Rattle.ildeclared.specs.declared.fault.NameCause.TheVariants.{Twice}
use Rattle.ilscope.specs.Faults.{IsTwiceIn}
use Rattle.ilscope.specs.UseFaults.{labels_of}
use Rattle.ilscope.specs.Labels.{AreNumbered}
use Rattle.ilscope.proofs.labels.number_labels.Given as goal

abbrev pub invariant-loop-number : goal.invariant-loop-number
invariant-loop-number l = record {
  numbers : AreNumbered l.fn.scope.tree.text (take l.number l.fn.lines) l.numbers;
  twice : IsNextOf l.fn.after
      (OfCause Twice (IsTwiceIn (folded l.fn.scope.tree.text) (labels_of (take l.number l.fn.lines)))) l.least;
}
