use Rattle.std.proofs.Common.{◌∙◌, List, ap, subst}
use Rattle.ilsource.specs.Programs.{DeclaredNames}
use Rattle.ildeclared.specs.Faults.{AreBlocksIn, IsNextOf, OfCause, SomeOf}
use Rattle.ildeclared.specs.declared.fault.NameCause.TheVariants.{BadDeclaration}
use Rattle.ildeclared.proofs.Least.{either_next}
use Rattle.ilscope.specs.Faults.{HasNoInput}
use Rattle.ilscope.proofs.functions.bad_function.Goals as goal

pub returns : goal.returns
returns c =
    let f = c.args.function.now in
    let blocks = c.fault_of_blocks.result in
    rw c.lesser_of.ensures
    (either_next c.args.after BadDeclaration (λ place. HasNoInput place f)
    (λ place. SomeOf (AreBlocksIn place) f.function.variables) c.no_input.result blocks c.no_input.ensures
    (subst (λ (ds : List DeclaredNames). IsNextOf c.args.after
    (OfCause BadDeclaration (λ place. SomeOf (AreBlocksIn place) ds))
    blocks) (c.variables.ensures.value ∙ ap (λ g. g.variables) c.function.ensures.value) c.fault_of_blocks.ensures))
