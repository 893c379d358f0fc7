-- How the different constants of uses are counted, one use after another.
use Rattle.std.specs.Prelude.{◌≡◌, ◌↔◌, ℕ, List, Bool, true, Option, Some, slice_get}
use Rattle.iltypes.specs.declared.value.Value.{Value}
use Rattle.ilsource.specs.declared.uses.Use.{Use}
use Rattle.ilplan.specs.Constants.{constants_used, each_once}
use Rattle.ilsource.specs.SourceTrees.{Tree}
use Rattle.ildeclared.specs.Faults.{SomeOf}
use Rattle.ilscope.specs.Declarations.{declared_programs}
use Rattle.ilsyms.specs.Faults.{MakesTooManyConstants}
use Rattle.ilsyms.specs.Tasks.{NamedProgram}

-- the different constants of the uses, and the place of the one that makes them too many, if there is one
pub record AreCounted {N : Type 0} (uses : List (Use N)) (constants : List Value) (excess : Option ℕ) : Type 0 where
  pub different : constants ≡ each_once (constants_used uses)
  pub too_many : (place : ℕ) → (excess ≡ Some place) ↔ MakesTooManyConstants uses place

-- the programs that are marked are those of some of the instances
abbrev pub AreSeen : Tree → List NamedProgram → List Bool → Type 0
AreSeen tree instances marks =
    (number : ℕ) → slice_get marks number ≡ Some true
    → SomeOf (λ i. slice_get (declared_programs tree) number ≡ Some i.program) instances
