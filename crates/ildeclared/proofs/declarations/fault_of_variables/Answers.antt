use Rattle.ilsource.specs.declared.declaration.Declared.TheVariants.{Variables}
use Rattle.ildeclared.specs.Faults.{IsBadIn, IsUnknownIn, OfCause}
use Rattle.ildeclared.specs.Kept.{types_in}
use Rattle.ildeclared.specs.declared.fault.NameCause.TheVariants.{BadDeclaration, Unknown}
use Rattle.ildeclared.proofs.Least.{both_next}
use Rattle.ildeclared.proofs.declarations.fault_of_variables.Goals as goal

pub returns : goal.returns
returns c =
    let types_above = types_in c.args.lower.now c.args.types.now in
    rw c.lesser_of.ensures
    (both_next c.args.after (OfCause Unknown (λ at. IsUnknownIn types_above at c.args.specification))
    (OfCause BadDeclaration
    (λ at. IsBadIn types_above at
    (record { names = c.args.names.now; declared = Variables c.args.specification c.args.initial })))
    c.unknown_type.result c.bad_declaration.result c.unknown_type.ensures c.bad_declaration.ensures)
