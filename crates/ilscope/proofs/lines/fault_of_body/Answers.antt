use Rattle.std.proofs.Common.{List, subst}
use Rattle.ilsource.specs.declared.instruction.Line.{Line}
use Rattle.ilsource.specs.declared.name.Name.{Name}
use Rattle.ilsource.specs.declared.symbol.Symbol.{Symbol}
use Rattle.ildeclared.specs.Faults.{IsNextOf}
use Rattle.ildeclared.proofs.Least.{both_next}
use Rattle.ilscope.specs.UseFaults.{IsFaultOfCalls, IsFaultOfLines}
use Rattle.ilscope.proofs.lines.fault_of_body.Goals as goal

pub returns : goal.returns
returns c p at same =
    let tree = c.args.scope.now.tree in
    rw c.lesser_of.ensures
    (both_next c.args.after (IsFaultOfLines tree.text p.program.lines) (IsFaultOfCalls tree p p.program.lines)
    c.in_ok-said.said
    c.in_ok-called.called
    (subst (λ (ls : List (Line Symbol Name)). IsNextOf c.args.after (IsFaultOfLines tree.text ls) c.in_ok-said.said)
    same
    c.in_ok-said.ensures)
    (subst (λ (ls : List (Line Symbol Name)). IsNextOf c.args.after (IsFaultOfCalls tree p ls) c.in_ok-called.called)
    same
    (c.in_ok-called.ensures p at)))
