use Rattle.std.proofs.Common.{List, subst}
use Rattle.std.proofs.lemmas.List.{take_all}
use Rattle.ilsource.specs.Programs.{DeclaredNames}
use Rattle.ildeclared.specs.Faults.{IsNextOf, SomeOf, IsFaultIn}
use Rattle.ildeclared.specs.Kept.{types_in}
use Rattle.ildeclared.proofs.Least.{next_of_more}
use Rattle.ildeclared.proofs.declarations.fault_of_all.Goals as goal

pub loop-declaration-preserved : goal.loop-declaration-preserved
loop-declaration-preserved c =
    rw c.lesser_of-least.ensures
    (next_of_more c.args.after (IsFaultIn (types_in c.args.lower.now c.args.types.now)) c.args.declarations.now
    c.loop-declaration.declaration-index
    c.declaration-item.result c.loop-declaration.least c.fault_of-fault.result c.loop-declaration-test.true
    c.declaration-item.is
    c.loop-declaration.invariant
    (subst (λ (d : DeclaredNames). IsNextOf c.args.after (IsFaultIn (types_in c.args.lower.now c.args.types.now) d)
    c.fault_of-fault.result)
    (λ i. record { names = c.names.ensures i; declared = c.declared_kind.ensures i }) c.fault_of-fault.ensures))

pub returns : goal.returns
returns c =
    subst (λ (ds : List DeclaredNames). IsNextOf c.args.after
    (λ place cause. SomeOf (λ d. IsFaultIn (types_in c.args.lower.now c.args.types.now) d place cause) ds)
    c.loop-declaration.least)
    (take_all c.loop-declaration.declaration-index c.args.declarations.now c.loop-declaration-test.false)
    c.loop-declaration.invariant
