-- Faults of declarations in a source program: each stands at a place of the text, a byte's offset, and has a cause
-- (IEC 61131-3, 2.3.3.1, 2.4.3, 2.5.1 and 2.7.1: a name is declared once, a type above its use, an initial value is of
-- the type, an external is a global variable of the same type, a program instance is one of a program, with a task;
-- the profile's is that a function has an input and no block instance).
use Rattle.std.specs.Prelude.{◌≡◌, ◌≢◌, ◌⊎◌, ⊤, ℕ, pos, ◌<ℤ◌, List, [], map, Option, Some, None, IsSomeAnd}
use Rattle.wordlines.specs.Wirings.{Wiring}
use Rattle.iltypes.specs.declared.value.IlType.{IlType}
use Rattle.iltokens.specs.declared.lexed.AddressKind.TheVariants as address_kinds
use Rattle.ilsource.specs.Names.{folded}
use Rattle.ilsource.specs.Programs.{DeclaredNames}
use Rattle.ilsource.specs.SourceTrees.{Tree, functions_of, programs_of}
use Rattle.ilsource.specs.declared.configuration.InstanceDeclaration.{InstanceDeclaration}
use Rattle.ilsource.specs.declared.configuration.TaskDeclaration.{TaskDeclaration}
use Rattle.ilsource.specs.declared.name.Name.{Name}
use Rattle.ildeclared.specs.DataTypes.{TypeNames}
use Rattle.ildeclared.specs.Declarations.{function_names, names_of}
use Rattle.ildeclared.specs.Faults.{AreBlocksIn, SomeOf, SomeLater, IsAddressTwice, IsBadAddressAt, IsBadIn}
use Rattle.ildeclared.specs.Faults.{IsBadlyLocatedIn}
use Rattle.ildeclared.specs.Faults.{IsInputGivenIn, IsInputTooSmallIn, IsUnknownTypeIn}
use Rattle.ildeclared.specs.Globals.{as_variables}
use Rattle.ildeclared.specs.declared.fault.NameCause.{NameCause}
use Rattle.ildeclared.specs.declared.fault.NameCause.TheVariants.{Unknown, Twice, BadAddress, InputRangeTooSmall}
use Rattle.ildeclared.specs.declared.fault.NameCause.TheVariants.{WritesInput, NoTask, BadDeclaration}
use Rattle.ildeclared.specs.declared.global.DeclaredGlobal.{DeclaredGlobal}
use Rattle.ilscope.specs.Configured.{types_of_text, declared_globals_of, task_declarations, instance_declarations}
use Rattle.ilscope.specs.Configured.{global_named, global_number, task_number, program_number, addresses_of, globals_of}
use Rattle.ilscope.specs.Configured.{values_of_global}
use Rattle.ilscope.specs.Declarations.{standing, declarations_in, declared_functions, declared_programs, name_of}
use Rattle.ilscope.specs.Declarations.{types_at, DeclaredFunction, DeclaredProgram}

-- some declaration of a type, of a function's result, of variables or of global variables has the property, where the
-- names of types mean this above it
abbrev pub SomeDeclaration : (TypeNames → DeclaredNames → Type 0) → Tree → Type 0
SomeDeclaration P tree =
    SomeOf
    (λ one. SomeOf (P (types_at (folded tree.text) one)) (declarations_in one.element))
    (standing [] tree.elements)
    ⊎ SomeOf (λ d. P (types_of_text tree) (as_variables d)) (declared_globals_of tree)

-- a declaration names a type that is not declared above it
abbrev pub IsUnknownType : Tree → ℕ → Type 0
IsUnknownType tree place =
    SomeDeclaration (λ types_above declaration. IsUnknownTypeIn types_above place declaration.declared) tree

-- ---- names of what a configuration declares

-- the name stands at the place, and nothing has it
abbrev pub IsUnknownName : (Name → Option ℕ) → ℕ → Name → Type 0
IsUnknownName number place name = (number name ≡ None) × (place ≡ name.from)

-- an external of a program has the name of no global variable
abbrev pub IsUnknownExternalIn : (Name → Option ℕ) → ℕ → DeclaredProgram → Type 0
IsUnknownExternalIn number place program = SomeOf (λ e. IsUnknownName number place e.name) program.externals

abbrev pub IsUnknownExternal : Tree → ℕ → Type 0
IsUnknownExternal tree place = SomeOf (IsUnknownExternalIn (global_number tree) place) (declared_programs tree)

-- SINGLE of a task names no global variable
abbrev pub IsUnknownTriggerOf : (Name → Option ℕ) → ℕ → TaskDeclaration → Type 0
IsUnknownTriggerOf number place task = IsSomeAnd task.single (IsUnknownName number place)

abbrev pub IsUnknownTrigger : Tree → ℕ → Type 0
IsUnknownTrigger tree place = SomeOf (IsUnknownTriggerOf (global_number tree) place) (task_declarations tree)

-- a program instance names no task of the configuration, or no program of the text
abbrev pub IsUnknownTaskOf : (Name → Option ℕ) → ℕ → InstanceDeclaration → Type 0
IsUnknownTaskOf number place instance = IsSomeAnd instance.task (IsUnknownName number place)

abbrev pub IsUnknownTask : Tree → ℕ → Type 0
IsUnknownTask tree place = SomeOf (IsUnknownTaskOf (task_number tree) place) (instance_declarations tree)

abbrev pub IsUnknownProgram : Tree → ℕ → Type 0
IsUnknownProgram tree place =
    SomeOf (λ instance. IsUnknownName (program_number tree) place instance.program) (instance_declarations tree)

-- ---- what is declared again

-- the name at the place is spelled as one before it
abbrev pub IsTwiceIn : (Name → List ℕ) → List Name → ℕ → Type 0
IsTwiceIn spelled names place =
    SomeLater (λ earlier later. (spelled earlier ≡ spelled later) × (place ≡ later.from)) names

-- what is declared again at the place: a type, a function or a program; a variable, block instance or external of a
-- program; a function's own name, an input or a variable of its VAR; a global variable, a task or a program instance;
-- or an address
abbrev pub IsTwice : Tree → ℕ → Type 0
IsTwice tree place =
    IsTwiceIn (folded tree.text) (map name_of tree.elements) place
    ⊎ SomeOf (λ program. IsTwiceIn (folded tree.text) (names_of program) place) (programs_of tree.elements)
    ⊎ SomeOf (λ function. IsTwiceIn (folded tree.text) (function_names function) place) (functions_of tree.elements)
    ⊎ IsTwiceIn (folded tree.text) (map (λ g. g.name) (globals_of tree)) place
    ⊎ IsTwiceIn (folded tree.text) (map (λ t. t.name) (task_declarations tree)) place
    ⊎ IsTwiceIn (folded tree.text) (map (λ i. i.name) (instance_declarations tree)) place
    ⊎ IsAddressTwice (addresses_of tree) place

-- both types are there, and have other values
abbrev pub AreOther : Option IlType → Option IlType → Type 0
AreOther (Some one) (Some other) = one ≢ other
AreOther _ _ = ⊥

-- an external of a program, at the place, has another type than the global variable
abbrev pub IsOtherExternalIn : (Name → Option IlType) → ℕ → DeclaredProgram → Type 0
IsOtherExternalIn values place program =
    SomeOf (λ e. AreOther e.value_type (values e.name) × (place ≡ e.name.from)) program.externals

abbrev pub IsOtherExternal : Tree → ℕ → Type 0
IsOtherExternal tree place = SomeOf (IsOtherExternalIn (values_of_global tree) place) (declared_programs tree)

-- a located variable is of a type that does not fit its address
abbrev pub IsBadlyLocated : Tree → ℕ → Type 0
IsBadlyLocated tree place = SomeOf (IsBadlyLocatedIn (types_of_text tree) place) (declared_globals_of tree)

-- a task has both or none of SINGLE and INTERVAL, or the interval 0, or a priority that is not in 0 to 65535 (profile)
abbrev pub IsBadlyStarted : Option Name → Option ℕ → Type 0
IsBadlyStarted None None = ⊤
IsBadlyStarted None (Some interval) = interval ≡ 0
IsBadlyStarted (Some trigger) None = ⊥
IsBadlyStarted (Some trigger) (Some interval) = ⊤

abbrev pub IsBadTask : TaskDeclaration → Type 0
IsBadTask t = IsBadlyStarted t.single t.interval ⊎ (t.priority <ℤ pos 0) ⊎ (pos 65535 <ℤ t.priority)

abbrev pub IsBadTaskAt : ℕ → TaskDeclaration → Type 0
IsBadTaskAt place t = IsBadTask t × (place ≡ t.name.from)

-- a function, its name at the place, has no input
abbrev pub HasNoInput : ℕ → DeclaredFunction → Type 0
HasNoInput place f = (f.inputs ≡ []) × (place ≡ f.function.name.from)

-- a function has no input, or a declaration in its VAR, at the place, is of block instances
abbrev pub IsBadFunction : ℕ → DeclaredFunction → Type 0
IsBadFunction place f = HasNoInput place f ⊎ SomeOf (AreBlocksIn place) f.function.variables

abbrev pub IsBad : Tree → ℕ → Type 0
IsBad tree place =
    SomeDeclaration (λ types_above declaration. IsBadIn types_above place declaration) tree
    ⊎ IsOtherExternal tree place
    ⊎ IsBadlyLocated tree place
    ⊎ SomeOf (IsBadTaskAt place) (task_declarations tree)
    ⊎ SomeOf (IsBadFunction place) (declared_functions tree)

-- ---- addresses (profile)

-- an address is one of a bus, or of a place on it, that is not there
abbrev pub IsBadAddress : Tree → Wiring → ℕ → Type 0
IsBadAddress tree wiring place = SomeOf (IsBadAddressAt wiring place) (addresses_of tree)

-- SINGLE of a task names, at the place, a global variable that is no trigger
abbrev pub IsTrigger : DeclaredGlobal → Type 0
IsTrigger global = IsSomeAnd global.address (λ a. a.kind ≡ address_kinds.InputBit)

abbrev pub IsNoTriggerOf : (Name → Option DeclaredGlobal) → ℕ → TaskDeclaration → Type 0
IsNoTriggerOf named place task =
    IsSomeAnd task.single (λ name. IsSomeAnd (named name) (λ global. ¬ IsTrigger global) × (place ≡ name.from))

abbrev pub IsNoTrigger : Tree → ℕ → Type 0
IsNoTrigger tree place = SomeOf (IsNoTriggerOf (global_named tree) place) (task_declarations tree)

-- a variable lacks values of the input that it is located at
abbrev pub IsInputTooSmall : Tree → ℕ → Type 0
IsInputTooSmall tree place = SomeOf (IsInputTooSmallIn (types_of_text tree) place) (declared_globals_of tree)

-- a variable that is located at an input is given an initial value
abbrev pub IsInputGiven : Tree → ℕ → Type 0
IsInputGiven tree place = SomeOf (IsInputGivenIn place) (declared_globals_of tree)

-- a program instance, its name at the place, is given to no task
abbrev pub HasNoTaskAt : ℕ → InstanceDeclaration → Type 0
HasNoTaskAt place instance = (instance.task ≡ None) × (place ≡ instance.name.from)

abbrev pub HasNoTask : Tree → ℕ → Type 0
HasNoTask tree place = SomeOf (HasNoTaskAt place) (instance_declarations tree)

-- ---- faults

-- a fault with this cause, with its place in a declaration, stands at the place
abbrev pub IsFaultOfDeclarations : Tree → Wiring → ℕ → NameCause → Type 0
IsFaultOfDeclarations tree wiring place Unknown =
    IsUnknownType tree place ⊎ IsUnknownExternal tree place ⊎ IsUnknownTrigger tree place ⊎ IsUnknownTask tree place
    ⊎ IsUnknownProgram tree place
IsFaultOfDeclarations tree wiring place Twice = IsTwice tree place
IsFaultOfDeclarations tree wiring place BadAddress = IsBadAddress tree wiring place ⊎ IsNoTrigger tree place
IsFaultOfDeclarations tree wiring place InputRangeTooSmall = IsInputTooSmall tree place
IsFaultOfDeclarations tree wiring place WritesInput = IsInputGiven tree place
IsFaultOfDeclarations tree wiring place NoTask = HasNoTask tree place
IsFaultOfDeclarations tree wiring place BadDeclaration = IsBad tree place
IsFaultOfDeclarations tree wiring place _ = ⊥
