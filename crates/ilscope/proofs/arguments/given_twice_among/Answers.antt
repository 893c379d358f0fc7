use Rattle.std.proofs.Common.{List, subst}
use Rattle.std.proofs.lemmas.List.{take_all}
use Rattle.ilsource.specs.declared.arguments.Argument.{Argument}
use Rattle.ilsource.specs.Names.{folded}
use Rattle.ilsource.specs.declared.symbol.Symbol.{Symbol}
use Rattle.ildeclared.specs.Faults.{IsNextOf, OfCause}
use Rattle.ildeclared.specs.declared.fault.NameCause.TheVariants.{Twice}
use Rattle.ilscope.specs.Faults.{IsTwiceIn}
use Rattle.ilscope.proofs.ArgumentPorts.{given, given_more, given_twice_more}
use Rattle.ilscope.proofs.arguments.given_twice_among.Goals as goal

pub loop-number-preserved : goal.loop-number-preserved
loop-number-preserved c =
    let text = c.args.scope.now.tree.text in
    record {
      known =
          given_more text c.args.arguments.now c.loop-number.number _ c.loop-number-test.true
          c.port_in.result c.port_in.ensures c.loop-number.given c.add_name.new.numbers
          (c.in_ok-again.ensures.numbers) c.loop-number.invariant.known;
      twice =
          rw c.lesser_of-least.ensures
          (given_twice_more text c.args.arguments.now c.loop-number.number _ c.loop-number-test.true
          c.port_in.result c.port_in.ensures c.args.after c.loop-number.given c.loop-number.least
          c.in_ok-again.again c.loop-number.invariant.known c.loop-number.invariant.twice c.in_ok-again.ensures.twice);
    }

pub returns : goal.returns
returns c =
    subst (λ (xs : List (Argument Symbol)). IsNextOf c.args.after
    (OfCause Twice (IsTwiceIn (folded c.args.scope.now.tree.text) (given xs))) c.loop-number.least)
    (take_all c.loop-number.number c.args.arguments.now c.loop-number-test.false) c.loop-number.invariant.twice
