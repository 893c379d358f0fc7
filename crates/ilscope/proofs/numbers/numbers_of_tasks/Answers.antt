use Rattle.std.proofs.Common.{◌∙◌, ap, List, subst, map}
use Rattle.std.specs.Prelude.{IfOk}
use Rattle.ilsource.specs.Names.{text_of}
use Rattle.ilsource.specs.declared.name.Name.{Name}
use Rattle.ilsource.specs.declared.configuration.TaskDeclaration.{TaskDeclaration}
use Rattle.ildeclared.specs.Faults.{IsNextOf, OfCause}
use Rattle.ildeclared.specs.declared.fault.NameCause.TheVariants.{Twice}
use Rattle.ilscope.specs.Faults.{IsTwiceIn}
use Rattle.ilscope.proofs.numbers.numbers_of_tasks.Goals as goal

pub returns-clause-twice : goal.returns-clause-twice
returns-clause-twice c =
    let AreTwice = λ (names : List Name). IfOk c.numbers_of.result (λ r.
    IsNextOf c.args.after (OfCause Twice (IsTwiceIn (text_of c.args.lower.now) names)) r.1) in
    let names =
    c.deref.ensures.value ∙ c.in_ok-names.ensures
    ∙ ap (λ (ts : List TaskDeclaration). map (λ t. t.name) ts) c.tasks_of.ensures
    in
    subst AreTwice names c.numbers_of.ensures.twice
