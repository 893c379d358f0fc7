use Rattle.std.proofs.Common.{List, subst}
use Rattle.std.proofs.lemmas.List.{take_all}
use Rattle.ilsource.specs.declared.instruction.Line.{Line}
use Rattle.ilsource.specs.Names.{folded}
use Rattle.ilsource.specs.declared.name.Name.{Name}
use Rattle.ilsource.specs.declared.symbol.Symbol.{Symbol}
use Rattle.ildeclared.specs.Faults.{IsNextOf, OfCause, SomeOf}
use Rattle.ildeclared.specs.declared.fault.NameCause.TheVariants.{Twice}
use Rattle.ildeclared.proofs.Least.{next_of_more, of_one_cause}
use Rattle.ilscope.specs.Faults.{IsTwiceIn}
use Rattle.ilscope.specs.UseFaults.{ports_given}
use Rattle.ilscope.proofs.arguments.given_twice.Goals as goal

pub loop-line-preserved : goal.loop-line-preserved
loop-line-preserved c =
    let text = c.args.scope.now.tree.text in
    rw c.lesser_of-least.ensures
    (next_of_more c.args.after (λ (line : Line Symbol Name). OfCause Twice
    (IsTwiceIn (folded text) (ports_given line.instruction)))
    c.args.lines.now c.loop-line.line-index c.line-item.result c.loop-line.least c.in_ok-again.again
    c.loop-line-test.true c.line-item.is c.loop-line.invariant c.in_ok-again.ensures)

pub returns : goal.returns
returns c =
    let text = c.args.scope.now.tree.text in
    of_one_cause c.args.after Twice
    (λ (line : Line Symbol Name) place. IsTwiceIn (folded text) (ports_given line.instruction) place) c.args.lines.now
    c.loop-line.least
    (subst (λ (ls : List (Line Symbol Name)). IsNextOf c.args.after
    (λ place cause. SomeOf
    (λ line. OfCause Twice (IsTwiceIn (folded text) (ports_given line.instruction)) place cause) ls) c.loop-line.least)
    (take_all c.loop-line.line-index c.args.lines.now c.loop-line-test.false) c.loop-line.invariant)
