use Rattle.std.proofs.Common.{ℕ, [], ◌∷◌, None, Some, pos, inl, inr, refl, sym, arith}
use Rattle.iltypes.specs.declared.function.IntegerType.TheVariants.{Int}
use Rattle.ilsource.specs.declared.declaration.Declared.TheVariants.{Variables}
use Rattle.ilsource.specs.declared.declaration.Specification.TheVariants.{Subrange}
use Rattle.ilsource.specs.declared.name.Name.{Name}
use Rattle.ilsource.specs.Programs.{DeclaredNames}
use Rattle.ildeclared.specs.DataTypes.{TypeNames}
use Rattle.ildeclared.specs.Faults.{IsFaultIn, IsLeast, IsNotAfter}
use Rattle.ildeclared.specs.Kept.{types_in}
use Rattle.ildeclared.specs.declared.fault.NameCause.{NameCause}
use Rattle.ildeclared.specs.declared.fault.NameCause.TheVariants.{BadDeclaration}
use Rattle.ildeclared.proofs.FoundOrder.{first_next}
use Rattle.ilscope.proofs.OneFault.{one_least}
use Rattle.refusalslanguage.proofs.declared.empty_subrange_is_a_fault.Goals as goal

abbrev from_9_to_3 : Name → DeclaredNames
from_9_to_3 name = record { names = name ∷ []; declared = Variables (Subrange Int (pos 9) (pos 3)) None }

no_other : (types : TypeNames) (name : Name) (place : ℕ) (cause : NameCause)
    → IsFaultIn types (from_9_to_3 name) place cause → IsNotAfter name.from BadDeclaration place cause
no_other types name place cause (inl unknown) = absurd unknown.1
no_other types name place cause (inr bad) =
    inr (sym bad.1.1, rw bad.0 (omega arith))

empty : (types : TypeNames) (name : Name) → IsLeast (IsFaultIn types (from_9_to_3 name)) name.from BadDeclaration
empty types name = record {
  is = inr (refl, (inl (inl (record { lt = tt })), refl));
  least = no_other types name;
}

pub returns : goal.returns
returns c =
    let types = types_in c.args.lower.now c.args.types.now in
    let name = c.args.name in
    one_least (IsFaultIn types (from_9_to_3 name)) c.fault_of.result
    (Some (record { at = name.from; cause = BadDeclaration }))
    (first_next (IsFaultIn types (from_9_to_3 name)) c.fault_of.result c.fault_of.ensures) (empty types name)
