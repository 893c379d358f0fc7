use Rattle.std.proofs.Common.{subst, sym}
use Rattle.ilsource.specs.declared.declaration.Declared.{Declared}
use Rattle.ildeclared.specs.Faults.{IsNextOf, IsFaultIn}
use Rattle.ildeclared.specs.Kept.{types_in}
use Rattle.ildeclared.proofs.ExternalFaults.{external_fault}
use Rattle.ildeclared.proofs.declarations.fault_of.Goals as goal

pub returns-in-External : goal.returns-in-External
returns-in-External c =
    let types_above = types_in c.args.lower.now c.args.types.now in
    let names = c.args.names.now in
    subst
    (λ (d : Declared). IsNextOf c.args.after (IsFaultIn types_above (record { names = names; declared = d }))
    c.fault_of_variables-in-External.result)
    (sym c.in-External.is)
    (external_fault c.args.after types_above names c.in-External.specification c.fault_of_variables-in-External.result
    c.fault_of_variables-in-External.ensures)
