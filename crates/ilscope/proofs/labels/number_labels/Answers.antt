use Rattle.std.proofs.Common.{List, subst}
use Rattle.std.proofs.lemmas.List.{take_all}
use Rattle.ilsource.specs.declared.instruction.Line.{Line}
use Rattle.ilsource.specs.Names.{folded}
use Rattle.ilsource.specs.declared.name.Name.{Name}
use Rattle.ilsource.specs.declared.symbol.Symbol.{Symbol}
use Rattle.ildeclared.specs.Faults.{IsNextOf, OfCause}
use Rattle.ildeclared.specs.declared.fault.NameCause.TheVariants.{Twice}
use Rattle.ilscope.specs.Faults.{IsTwiceIn}
use Rattle.ilscope.specs.UseFaults.{labels_of}
use Rattle.ilscope.specs.Labels.{AreNumbered}
use Rattle.ilscope.proofs.LabelNumbers.{numbered_more, labels_twice_more}
use Rattle.ilscope.proofs.labels.number_labels.Goals as goal

pub loop-number-preserved : goal.loop-number-preserved
loop-number-preserved c =
    let text = c.args.scope.now.tree.text in
    record {
      numbers =
          numbered_more text c.args.lines.now c.loop-number.number c.index-lines-number.result c.loop-number-test.true
          c.index-lines-number.is c.loop-number.numbers c.add_name.new.numbers c.in_ok-again.ensures.numbers
          c.loop-number.invariant.numbers;
      twice =
          rw c.lesser_of-least.ensures
          (labels_twice_more text c.args.lines.now c.loop-number.number c.index-lines-number.result
          c.loop-number-test.true
          c.index-lines-number.is c.args.after c.loop-number.numbers c.loop-number.least c.in_ok-again.again
          c.loop-number.invariant.numbers
          c.loop-number.invariant.twice c.in_ok-again.ensures.twice);
    }

pub returns-clause-numbers : goal.returns-clause-numbers
returns-clause-numbers c =
    subst (λ (ls : List (Line Symbol Name)). AreNumbered c.args.scope.now.tree.text ls c.loop-number.numbers)
    (take_all c.loop-number.number c.args.lines.now c.loop-number-test.false) c.loop-number.invariant.numbers

pub returns-clause-twice : goal.returns-clause-twice
returns-clause-twice c =
    subst (λ (ls : List (Line Symbol Name)). IsNextOf c.args.after
    (OfCause Twice (IsTwiceIn (folded c.args.scope.now.tree.text) (labels_of ls))) c.loop-number.least)
    (take_all c.loop-number.number c.args.lines.now c.loop-number-test.false) c.loop-number.invariant.twice
