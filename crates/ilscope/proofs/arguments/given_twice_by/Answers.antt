use Rattle.std.proofs.Common.{List, ap, sym, subst, ◌∙◌}
use Rattle.std.specs.Prelude.{Some, IfOk}
use Rattle.ilsource.specs.Names.{folded}
use Rattle.ilsource.specs.declared.name.Name.{Name}
use Rattle.ildeclared.specs.Faults.{IsNextOf, OfCause}
use Rattle.ildeclared.specs.declared.fault.NameCause.TheVariants.{Twice}
use Rattle.ilscope.specs.Faults.{IsTwiceIn}
use Rattle.ilscope.specs.UseFaults.{ports_given}
use Rattle.ilscope.proofs.ArgumentPorts.{given}
use Rattle.ilscope.proofs.arguments.given_twice_by.Goals as goal

pub returns-in-Call : goal.returns-in-Call
returns-in-Call c =
    subst
    (λ (ports : List Name).
    IfOk c.given_twice_among.result (λ found.
    IsNextOf c.args.after (OfCause Twice (IsTwiceIn (folded c.args.scope.now.tree.text) ports)) found))
    (ap given c.as_slice.ensures ∙ sym (ap (λ i. ports_given (Some i)) c.in-Call.is)) c.given_twice_among.ensures
