-- Where names have their places in the store of a task (IEC 61131-3, 2.1.2, 2.4.3, 2.5.2 and 2.7.2). Each program
-- instance has variables and block instances of its own, one for each that its program declares. A global variable is
-- there once, for all programs that name it in VAR_EXTERNAL. A function has a store of its own, with its inputs, its
-- result and its VAR, and is known by one number wherever it is called (2.5.1). Letter case does not matter in names.
use Rattle.std.specs.Prelude.{◌≡◌, ◌↔◌, ◌⊎◌, ℕ, ◌<◌, List, slice_get, Some, IsSomeAnd}
use Rattle.std.specs.List.{AllByRecursion, enumerate_from}
use Rattle.ilsource.specs.declared.operand.Operand.TheVariants.{Name as Named}
use Rattle.ilblocks.specs.Ports.{ports_of, spelling}
use Rattle.ilsource.specs.Names.{SameName, folded}
use Rattle.ilsource.specs.SourceTrees.{Tree}
use Rattle.ilsource.specs.declared.name.Name.{Name}
use Rattle.ilsource.specs.declared.symbol.Symbol.{Symbol}
use Rattle.ilsource.specs.declared.symbol.Symbol.TheVariants.{Variable, Port, Block, Function}
use Rattle.ildeclared.specs.Faults.{SomeOf}
use Rattle.ilscope.specs.Configured.{globals_of}
use Rattle.ilscope.specs.Declarations.{DeclaredProgram, declared_functions}
use Rattle.ilscope.specs.Tables.{lowered}
use Rattle.ilscope.specs.Uses.{uses_of}
use Rattle.ilplan.specs.declared.instance.FunctionBlock.{FunctionBlock}
use Rattle.ilplan.specs.declared.place.Place.{Place}
use Rattle.ilplan.specs.declared.place.Place.TheVariants as places
use Rattle.ilplan.specs.declared.slot.Slot.{Slot}
use Rattle.ilsyms.specs.Meaning.{place_of}
use Rattle.ilsyms.specs.Tasks.{NamedProgram, tasks_of}
use Rattle.ilsyms.specs.Variables.{alone, blocks_of, function_block, global_slot, own_slot, slots_of}

-- a name in the lines of one of these instances, the one of this number
pub record NameInLines (instances : List NamedProgram) : Type 0 where
  pub number : ℕ
  pub instance : NamedProgram
  pub symbol : Symbol
  pub there : slice_get instances number ≡ Some instance
  pub used : SomeOf (λ u. u.operand ≡ Named symbol) (uses_of instance.program.program.lines)

-- the place that it has in their store
abbrev pub place_in : Tree → (instances : List NamedProgram) → NameInLines instances → Place
place_in tree instances one = place_of tree (slots_of tree instances) (blocks_of instances) one.instance one.symbol

-- ---- what a name means

-- in the lines of the instance the name means its own variable that is declared under the name, with the type and the
-- initial value of the declaration
abbrev pub MeansOwn : List ℕ → NamedProgram → Name → Slot → Type 0
MeansOwn text instance name slot =
    SomeOf (λ v. SameName text name v.name × (slot ≡ own_slot instance.name v)) instance.program.variables

-- the program has the name in VAR_EXTERNAL
abbrev pub HasExternal : List ℕ → DeclaredProgram → Name → Type 0
HasExternal text p name = SomeOf (λ e. SameName text name e.name) p.externals

-- the name means the global variable that is declared under the name
abbrev pub MeansGlobal : Tree → Name → Slot → Type 0
MeansGlobal tree name slot =
    SomeOf
    (λ g. SameName tree.text name g.1.name × (slot ≡ global_slot g.0 g.1)) (enumerate_from 0 (globals_of tree))

-- in the lines of the instance the name means a variable: its own, or the global one that its program names
abbrev pub MeansVariable : Tree → NamedProgram → Name → Slot → Type 0
MeansVariable tree instance name slot =
    MeansOwn tree.text instance name slot
    ⊎ (HasExternal tree.text instance.program name × MeansGlobal tree name slot)

-- there the name means the instance's own block instance that is declared under the name
abbrev pub MeansBlock : List ℕ → NamedProgram → Name → FunctionBlock → Type 0
MeansBlock text instance name block =
    SomeOf (λ b. SameName text name b.name × (block ≡ function_block instance.name b)) instance.program.blocks

-- of the block instance the name means the port of this number
abbrev pub MeansPort : List ℕ → Name → ℕ → FunctionBlock → Type 0
MeansPort text name number block =
    IsSomeAnd (slice_get (ports_of block.kind) number) (λ port. folded text name ≡ lowered (spelling port.name))

-- the name means the function of this number: it is declared under the name, above the program
abbrev pub MeansFunction : Tree → DeclaredProgram → Name → ℕ → Type 0
MeansFunction tree p name number =
    (number < p.functions)
    × IsSomeAnd (slice_get (declared_functions tree) number) (λ f. SameName tree.text name f.function.name)

-- at the place in the store of these instances stands what the name means in the lines of one of them
abbrev pub IsPlaceOf : Tree → List NamedProgram → NamedProgram → Symbol → Place → Type 0
IsPlaceOf tree instances instance (Variable name) (places.Slot number) =
    IsSomeAnd (slice_get (slots_of tree instances) number) (MeansVariable tree instance name)
IsPlaceOf tree instances instance (Port block port) (places.Port number its) =
    IsSomeAnd
    (slice_get (blocks_of instances) number)
    (λ b. MeansBlock tree.text instance block b × MeansPort tree.text port its b)
IsPlaceOf tree instances instance (Block name) (places.Block number) =
    IsSomeAnd (slice_get (blocks_of instances) number) (MeansBlock tree.text instance name)
IsPlaceOf tree instances instance (Function name) (places.Function number) =
    MeansFunction tree instance.program name number
IsPlaceOf tree instances instance _ _ = ⊥

-- ---- which names mean one thing

-- both mean one variable: they are one name, in one instance or in VAR_EXTERNAL of both programs
abbrev pub MeanOneVariable : List ℕ → {is : List NamedProgram} → NameInLines is → NameInLines is → Name → Name → Type 0
MeanOneVariable text one other name its =
    SameName text name its
    × ((one.number ≡ other.number)
    ⊎ (HasExternal text one.instance.program name × HasExternal text other.instance.program its))

-- both mean one block instance: they are one name, in one program instance
abbrev pub MeanOneBlock : List ℕ → {is : List NamedProgram} → NameInLines is → NameInLines is → Name → Name → Type 0
MeanOneBlock text one other name its = SameName text name its × (one.number ≡ other.number)

-- both mean one variable, one port of one block instance, one block instance, or one function
abbrev pub MeanOne : List ℕ → {is : List NamedProgram} → NameInLines is → NameInLines is → Symbol → Symbol → Type 0
MeanOne text one other (Variable name) (Variable its) = MeanOneVariable text one other name its
MeanOne text one other (Port block port) (Port its_block its) =
    MeanOneBlock text one other block its_block × SameName text port its
MeanOne text one other (Block name) (Block its) = MeanOneBlock text one other name its
MeanOne text one other (Function name) (Function its) = SameName text name its
MeanOne text one other _ _ = ⊥

-- ---- the law

-- a name in the lines of these instances has exactly the place at which what it means stands, and two names have one
-- place exactly where they mean one thing
pub record HavePlacesIn (tree : Tree) (instances : List NamedProgram) : Type 0 where
  pub each : (one : NameInLines instances) (place : Place)
      → (place_in tree instances one ≡ place) ↔ IsPlaceOf tree instances one.instance one.symbol place
  pub shared : (one other : NameInLines instances)
      → (place_in tree instances one ≡ place_in tree instances other)
      ↔ MeanOne tree.text one other one.symbol other.symbol

-- so it is in each task, and in each function by itself
pub record HavePlaces (tree : Tree) : Type 0 where
  pub tasks : AllByRecursion (λ task. HavePlacesIn tree task.instances) (tasks_of tree)
  pub functions : AllByRecursion (λ f. HavePlacesIn tree (alone f)) (declared_functions tree)
