-- What a scope keeps of a source program, and how it is gathered from its elements.
use Rattle.std.specs.Prelude.{◌≡◌, ◌⊎◌, ℕ, List, [], ◌∷◌, bytes_eq, map, Option, filter_map, ⊤}
use Rattle.std.specs.Map.{lookup}
use Rattle.iltypes.specs.declared.value.IlType.{IlType}
use Rattle.ilsource.specs.Names.{folded, text_of}
use Rattle.ilsource.specs.SourceTrees.{Tree, types_of}
use Rattle.ilsource.specs.declared.configuration.TaskDeclaration.{TaskDeclaration}
use Rattle.ilsource.specs.declared.name.Name.{Name}
use Rattle.ilsource.specs.declared.source.Element.{Element}
use Rattle.ilsource.specs.declared.source.Element.TheVariants.{DerivedType, Function, Program}
use Rattle.ildeclared.specs.DataTypes.{types_below}
use Rattle.ildeclared.specs.Declarations.{function_names, names_of}
use Rattle.ildeclared.specs.Faults.{IsAddressTwice, IsFaultIn, IsNextOf, OfCause, SomeOf}
use Rattle.ildeclared.specs.Globals.{as_variables}
use Rattle.ildeclared.specs.Kept.{Kept, types_in}
use Rattle.ildeclared.specs.declared.data_type.DataType.{DataType}
use Rattle.ildeclared.specs.declared.fault.NameCause.{NameCause}
use Rattle.ildeclared.specs.declared.fault.NameCause.TheVariants.{Unknown, Twice, BadAddress, InputRangeTooSmall}
use Rattle.ildeclared.specs.declared.fault.NameCause.TheVariants.{WritesInput, NoTask, BadDeclaration}
use Rattle.ildeclared.specs.declared.found.Found.{Found}
use Rattle.ildeclared.specs.declared.global.DeclaredGlobal.{DeclaredGlobal}
use Rattle.ilscope.specs.Configured.{addresses_of, declared_globals_of, globals_of, instance_declarations}
use Rattle.ilscope.specs.Configured.{task_declarations, types_of_text, value_types_of}
use Rattle.ilscope.specs.Declarations.{DeclaredFunction, DeclaredProgram, Standing, as_program, declarations_in}
use Rattle.ilscope.specs.Declarations.{declared_function, declared_functions, declared_program, declared_programs}
use Rattle.ilscope.specs.Declarations.{name_of, standing, types_at}
use Rattle.ilscope.specs.Faults.{HasNoTask, IsBadAddress, IsBadFunction, IsBadTaskAt, IsBadlyLocated, IsInputGiven}
use Rattle.ilscope.specs.Faults.{IsInputTooSmall, IsNoTrigger, IsOtherExternal, IsTwiceIn, IsUnknownExternal}
use Rattle.ilscope.specs.Faults.{IsUnknownProgram, IsUnknownTask, IsUnknownTrigger}
use Rattle.ilscope.specs.Scoped.{Scoped}
use Rattle.ilscope.specs.Tables.{first_at, lowered}

-- the names in the space of an element of its own
abbrev pub names_in : Element → List Name
names_in (DerivedType type) = []
names_in (Function function) = function_names function
names_in (Program program) = names_of program

-- a fault of one element apart from its own name
abbrev pub IsFaultOfElement : (Name → List ℕ) → Standing → ℕ → NameCause → Type 0
IsFaultOfElement spelled one place cause =
    OfCause Twice (IsTwiceIn spelled (names_in one.element)) place cause
    ⊎ SomeOf (λ d. IsFaultIn (types_at spelled one) d place cause) (declarations_in one.element)

-- the names of a program's variables
abbrev pub variable_names : DeclaredProgram → List Name
variable_names program = map (λ v. v.name) program.variables

-- the names of its block instances
abbrev pub block_names : DeclaredProgram → List Name
block_names program = map (λ b. b.name) program.blocks

-- the names of its externals
abbrev pub external_names : DeclaredProgram → List Name
external_names program = map (λ e. e.name) program.externals

-- the names of a function's inputs and other variables
abbrev pub names_of_function : DeclaredFunction → List Name
names_of_function function = variable_names (as_program function)

-- under each of these names the number of the first with that name is kept
abbrev pub AreNumbersOf : (Name → List ℕ) → List Name → Kept ℕ → Type 0
AreNumbersOf spelled names numbers =
    (key : List ℕ) → lookup (bytes_eq key) numbers ≡ first_at (bytes_eq key) (map spelled names)

-- the same for each program or function, of these names in it
abbrev pub AreAllNumbers : {X : Type 0} → (Name → List ℕ) → (X → List Name) → List X → List (Kept ℕ) → Type 0
AreAllNumbers spelled names [] [] = ⊤
AreAllNumbers spelled names (x ∷ xs) (numbers ∷ more) =
    AreNumbersOf spelled (names x) numbers × AreAllNumbers spelled names xs more
AreAllNumbers spelled names _ _ = ⊥

-- what stands above what stands next below some elements
abbrev pub above_all : List Element → List Element → List Element
above_all above [] = above
above_all above (element ∷ more) = above_all (element ∷ above) more

-- what is gathered from the elements up to a place: what the types mean, the programs and functions with what they
-- declare, for each program the numbers of its variables, block instances and externals, for each function those of its
-- variables, and the least fault that comes after another
pub record IsGathered (after : Option Found) (lower : List ℕ) (front : List Element) (types : Kept (Option DataType))
    (programs : List DeclaredProgram) (variables blocks externals : List (Kept ℕ)) (functions : List DeclaredFunction)
    (own : List (Kept ℕ)) (least : Option Found) : Type 0 where
  pub meant : (name : Name)
      → types_in lower types name ≡ types_below (text_of lower) (types_of (above_all [] front)) name
  pub declared : programs ≡ filter_map (declared_program (text_of lower)) (standing [] front)
  pub variables_numbered : AreAllNumbers (text_of lower) variable_names programs variables
  pub blocks_numbered : AreAllNumbers (text_of lower) block_names programs blocks
  pub externals_numbered : AreAllNumbers (text_of lower) external_names programs externals
  pub functions_declared : functions ≡ filter_map (declared_function (text_of lower)) (standing [] front)
  pub own_numbered : AreAllNumbers (text_of lower) names_of_function functions own
  pub fault : IsNextOf after
      (λ place cause. SomeOf (λ one. IsFaultOfElement (text_of lower) one place cause) (standing [] front)) least

-- what is kept of a text: the text in lower case, what its types mean, the programs and functions with what they
-- declare, for each program the numbers of its variables, block instances and externals, for each function those of its
-- variables, the global variables and their types, and the numbers of global variables, tasks, programs and functions
-- by their names
pub record AreTablesOf (tree : Tree) (lower : List ℕ) (types : Kept (Option DataType)) (programs : List DeclaredProgram)
    (variables blocks externals : List (Kept ℕ)) (functions : List DeclaredFunction) (own : List (Kept ℕ))
    (globals : List DeclaredGlobal) (value_types : List (Option IlType))
    (global_numbers task_numbers program_numbers function_numbers : Kept ℕ) : Type 0 where
  pub text : lower ≡ lowered tree.text
  pub meant : types_in lower types ≡ types_of_text tree
  pub declared : programs ≡ declared_programs tree
  pub variables_numbered : AreAllNumbers (folded tree.text) variable_names programs variables
  pub blocks_numbered : AreAllNumbers (folded tree.text) block_names programs blocks
  pub externals_numbered : AreAllNumbers (folded tree.text) external_names programs externals
  pub functions_declared : functions ≡ declared_functions tree
  pub own_numbered : AreAllNumbers (folded tree.text) names_of_function functions own
  pub global_variables : globals ≡ globals_of tree
  pub global_types : value_types ≡ value_types_of tree
  pub globals_numbered : AreNumbersOf (folded tree.text) (map (λ g. g.name) (globals_of tree)) global_numbers
  pub tasks_numbered : AreNumbersOf (folded tree.text) (map (λ t. t.name) (task_declarations tree)) task_numbers
  pub programs_numbered :
      AreNumbersOf (folded tree.text) (map (λ p. p.program.name) (declared_programs tree)) program_numbers
  pub functions_numbered :
      AreNumbersOf (folded tree.text) (map (λ f. f.function.name) (declared_functions tree)) function_numbers

-- ---- the faults of declarations, by the steps in which they are found

-- a global variable or a task has the name of an earlier one
abbrev pub IsGlobalOrTaskTwice : (Name → List ℕ) → List DeclaredGlobal → List TaskDeclaration → ℕ → Type 0
IsGlobalOrTaskTwice spelled globals tasks place =
    IsTwiceIn spelled (map (λ g. g.name) globals) place ⊎ IsTwiceIn spelled (map (λ t. t.name) tasks) place

-- those that are found while names are numbered
abbrev pub IsTwiceNumbered : Tree → ℕ → Type 0
IsTwiceNumbered tree place =
    IsTwiceIn (folded tree.text) (map name_of tree.elements) place
    ⊎ IsTwiceIn (folded tree.text) (map (λ g. g.name) (globals_of tree)) place
    ⊎ IsTwiceIn (folded tree.text) (map (λ t. t.name) (task_declarations tree)) place

abbrev pub IsFaultInElements : Tree → ℕ → NameCause → Type 0
IsFaultInElements tree place cause =
    SomeOf (λ one. IsFaultOfElement (folded tree.text) one place cause) (standing [] tree.elements)

abbrev pub IsFaultInTables : Tree → ℕ → NameCause → Type 0
IsFaultInTables tree place cause = IsFaultInElements tree place cause ⊎ OfCause Twice (IsTwiceNumbered tree) place cause

-- the other faults of a configuration, and of functions as such
abbrev pub IsFaultInGlobals : Tree → ℕ → NameCause → Type 0
IsFaultInGlobals tree place cause =
    SomeOf (λ d. IsFaultIn (types_of_text tree) (as_variables d) place cause) (declared_globals_of tree)

abbrev pub IsUnknownNamed : Tree → ℕ → Type 0
IsUnknownNamed tree place =
    IsUnknownExternal tree place ⊎ IsUnknownTrigger tree place ⊎ IsUnknownTask tree place ⊎ IsUnknownProgram tree place

abbrev pub IsTwiceInConfiguration : Tree → ℕ → Type 0
IsTwiceInConfiguration tree place =
    IsTwiceIn (folded tree.text) (map (λ i. i.name) (instance_declarations tree)) place
    ⊎ IsAddressTwice (addresses_of tree) place

abbrev pub IsBadInConfiguration : Tree → ℕ → Type 0
IsBadInConfiguration tree place =
    IsOtherExternal tree place
    ⊎ IsBadlyLocated tree place
    ⊎ SomeOf (IsBadTaskAt place) (task_declarations tree)
    ⊎ SomeOf (IsBadFunction place) (declared_functions tree)

abbrev pub IsFaultOfInput : Tree → ℕ → NameCause → Type 0
IsFaultOfInput tree place cause =
    OfCause InputRangeTooSmall (IsInputTooSmall tree) place cause ⊎ OfCause WritesInput (IsInputGiven tree) place cause

abbrev pub IsFaultOfConfiguration : Scoped → ℕ → NameCause → Type 0
IsFaultOfConfiguration scoped place cause =
    (IsFaultInGlobals scoped.tree place cause ⊎ OfCause Unknown (IsUnknownNamed scoped.tree) place cause)
    ⊎ (OfCause Twice (IsTwiceInConfiguration scoped.tree) place cause
    ⊎ OfCause BadDeclaration (IsBadInConfiguration scoped.tree) place cause)
    ⊎ (OfCause BadAddress (λ at. IsBadAddress scoped.tree scoped.wiring at ⊎ IsNoTrigger scoped.tree at) place cause
    ⊎ IsFaultOfInput scoped.tree place cause)
    ⊎ OfCause NoTask (HasNoTask scoped.tree) place cause
