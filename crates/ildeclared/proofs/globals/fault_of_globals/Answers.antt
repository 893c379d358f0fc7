use Rattle.std.proofs.Common.{List, subst}
use Rattle.std.proofs.lemmas.List.{take_all}
use Rattle.ilsource.specs.Configurations.{DeclaredGlobals}
use Rattle.ilsource.specs.Programs.{DeclaredNames}
use Rattle.ilsource.specs.declared.declaration.Declared.TheVariants as declared_as
use Rattle.ildeclared.specs.Faults.{IsNextOf, SomeOf, IsFaultIn}
use Rattle.ildeclared.specs.Globals.{as_variables}
use Rattle.ildeclared.specs.Kept.{types_in}
use Rattle.ildeclared.proofs.Least.{next_of_more}
use Rattle.ildeclared.proofs.globals.fault_of_globals.Goals as goal

pub loop-declaration-preserved : goal.loop-declaration-preserved
loop-declaration-preserved c =
    let types_above = types_in c.args.lower.now c.args.types.now in
    rw c.lesser_of-least.ensures
    (next_of_more c.args.after (λ (d : DeclaredGlobals). IsFaultIn types_above (as_variables d)) c.args.declarations.now
    c.loop-declaration.declaration-index
    c.declaration-item.result c.loop-declaration.least c.fault_of-fault.result c.loop-declaration-test.true
    c.declaration-item.is
    c.loop-declaration.invariant
    (subst (λ (d : DeclaredNames). IsNextOf c.args.after (IsFaultIn types_above d) c.fault_of-fault.result)
    (λ i. record {
      names = c.names.ensures.value i;
      declared = declared_as.Variables (c.specification.ensures.value i) (c.initial.ensures.value i);
    }) c.fault_of-fault.ensures))

pub returns : goal.returns
returns c =
    subst (λ (ds : List DeclaredGlobals). IsNextOf c.args.after
    (λ place cause. SomeOf (λ d. IsFaultIn (types_in c.args.lower.now c.args.types.now) (as_variables d) place cause)
    ds)
    c.loop-declaration.least)
    (take_all c.loop-declaration.declaration-index c.args.declarations.now c.loop-declaration-test.false)
    c.loop-declaration.invariant
