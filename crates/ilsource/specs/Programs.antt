-- Programs and functions as contracts see them (IEC 61131-3, 2.4.3, 2.5.1 and 3.2).
use Rattle.std.specs.Prelude.{ℕ, List, flat_map, None, ⊤}
use Rattle.std.specs.List.{AllByRecursion}
use Rattle.ilsource.specs.declared.instruction.Line.{Line}
use Rattle.ilsource.specs.declared.operand.Operand.{Operand}
use Rattle.ilsource.specs.declared.operand.Operand.TheVariants.{Name as Named}
use Rattle.ilsource.specs.declared.uses.Purpose.{Purpose}
use Rattle.ilsource.specs.declared.uses.Purpose.TheVariants.{Read, Write, Call, Pass, Invoke}
use Rattle.ilsource.specs.declared.uses.Use.{Use}
use Rattle.ilsource.specs.Uses.{uses_in}
use Rattle.ilsource.specs.declared.name.Name.{Name}
use Rattle.ilsource.specs.declared.declaration.Declared.{Declared}
use Rattle.ilsource.specs.declared.declaration.Declared.TheVariants.{Variables, External}
use Rattle.ilsource.specs.declared.declaration.Specification.{Specification}
use Rattle.ilsource.specs.declared.symbol.Symbol.{Symbol}
use Rattle.ilsource.specs.declared.symbol.Symbol.TheVariants.{Port, Block, Function}

-- names that are declared together
pub record DeclaredNames : Type 0 where
  pub names : List Name
  pub declared : Declared

-- a program as it is written
pub record Written : Type 0 where
  pub name : Name
  pub declarations : List DeclaredNames
  pub lines : List (Line Symbol Name)

-- a function as it is written: the place of the word FUNCTION, its name, the type of its result, its inputs, its VAR
pub record WrittenFunction : Type 0 where
  pub at : ℕ
  pub name : Name
  pub result_type : Specification
  pub inputs : List DeclaredNames
  pub variables : List DeclaredNames
  pub lines : List (Line Symbol Name)

-- what VAR_INPUT declares: variables with no initial value
abbrev pub IsInput : Declared → Type 0
IsInput (Variables specification None) = ⊤
IsInput declared = ⊥

-- what a function's VAR declares: no global variable
abbrev pub IsInFunction : Declared → Type 0
IsInFunction (External specification) = ⊥
IsInFunction declared = ⊤

abbrev pub AreInputs : List DeclaredNames → Type 0
AreInputs inputs = AllByRecursion (λ d. IsInput d.declared) inputs

abbrev pub AreInFunction : List DeclaredNames → Type 0
AreInFunction variables = AllByRecursion (λ d. IsInFunction d.declared) variables

-- what may stand where a line uses it: a block instance is called, and it is neither an operand nor written; an argument
-- is given to a port; a function is invoked, and nothing else
abbrev pub MayStand : Purpose → Operand Symbol → Type 0
MayStand Read (Named (Block name)) = ⊥
MayStand Read (Named (Function name)) = ⊥
MayStand Read operand = ⊤
MayStand Write (Named (Block name)) = ⊥
MayStand Write (Named (Function name)) = ⊥
MayStand Write operand = ⊤
MayStand Call (Named (Block name)) = ⊤
MayStand Call operand = ⊥
MayStand Pass (Named (Port block port)) = ⊤
MayStand Pass operand = ⊥
MayStand Invoke (Named (Function name)) = ⊤
MayStand Invoke operand = ⊥

abbrev pub MayBeUsed : Use Symbol → Type 0
MayBeUsed u = MayStand u.purpose u.operand

abbrev pub AreSorted : List (Line Symbol Name) → Type 0
AreSorted lines = AllByRecursion MayBeUsed (flat_map uses_in lines)
