use Rattle.std.proofs.Common.{List, ap, sym, subst}
use Rattle.std.specs.Prelude.{IfOk}
use Rattle.ilsource.specs.Names.{folded}
use Rattle.ilsource.specs.declared.name.Name.{Name}
use Rattle.ildeclared.specs.Faults.{IsNextOf, OfCause}
use Rattle.ildeclared.specs.declared.fault.NameCause.TheVariants.{Twice}
use Rattle.ilscope.specs.Faults.{IsTwiceIn}
use Rattle.ilscope.specs.UseFaults.{ports_given}
use Rattle.ilscope.proofs.arguments.given_twice_in.Goals as goal

pub returns-in-Some : goal.returns-in-Some
returns-in-Some c =
    subst
    (λ (ports : List Name).
    IfOk c.given_twice_by.result (λ found.
    IsNextOf c.args.after (OfCause Twice (IsTwiceIn (folded c.args.scope.now.tree.text) ports)) found))
    (sym (ap ports_given c.in-Some.is)) c.given_twice_by.ensures
