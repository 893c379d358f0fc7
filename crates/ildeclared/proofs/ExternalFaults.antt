-- The faults of an external's type are those of a variable's without an initial value.
use Rattle.std.proofs.Common.{List, ◌⊎◌, inl, inr}
use Rattle.std.specs.Prelude.{Option, Some, None}
use Rattle.ilsource.specs.declared.declaration.Declared.TheVariants as declared_as
use Rattle.ilsource.specs.declared.declaration.Specification.{Specification}
use Rattle.ilsource.specs.declared.name.Name.{Name}
use Rattle.ildeclared.specs.DataTypes.{TypeNames, data_type}
use Rattle.ildeclared.specs.Faults.{IsBadInitial, IsBadSubrange, IsNextOf, IsFaultIn}
use Rattle.ildeclared.specs.declared.data_type.DataType.{DataType}
use Rattle.ildeclared.specs.declared.found.Found.{Found}
use Rattle.ildeclared.proofs.FoundOrder.{next_same, or_else}

no_initial : (type : Option DataType) → ¬ IsBadInitial type None
no_initial None bad = bad
no_initial (Some type) bad = bad

only_subrange : (types : TypeNames) (specification : Specification)
    → IsBadSubrange specification ⊎ IsBadInitial (data_type types specification) None → IsBadSubrange specification
only_subrange types specification bad =
    or_else (λ b. b) (λ i. absurd (no_initial (data_type types specification) i)) bad

pub external_fault : (after : Option Found) (types : TypeNames) (names : List Name) (specification : Specification)
    (found : Option Found) →
    IsNextOf after (IsFaultIn types (record { names = names; declared = declared_as.Variables specification None }))
    found →
    IsNextOf after (IsFaultIn types (record { names = names; declared = declared_as.External specification })) found
external_fault after types names specification found least =
    next_same after _ _ found
    (λ place cause fault.
    or_else (λ u. inl u) (λ b. inr (b.0, (only_subrange types specification b.1.0, b.1.1))) fault)
    (λ place cause fault. or_else (λ u. inl u) (λ b. inr (b.0, (inl b.1.0, b.1.1))) fault)
    least
