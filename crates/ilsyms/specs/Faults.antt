-- Faults of names in a source program: each stands at a place of the text, a byte's offset, and has a cause
-- (IEC 61131-3, 2.4.3: a variable is declared, once, with a value of its type; 2.5.2: a block instance is declared, and
-- its outputs are not written; 3.2.2: a jump leads to a label of its program; the profile's are the limits, that jumps
-- go forward, that nothing is stored to an input, and that one task at most stores to a global variable). Those of
-- declarations, and those that stand in lines, are defined in `ilscope`. What functions take of a task, and
-- how deep they are, is said of them as they are planned: their limits are the plan's.
use Rattle.std.specs.Prelude.{◌≡◌, ℕ, ◌+◌, ◌<◌, List, [], ◌∷◌, ◌++◌, flat_map, map, length, replicate, slice_get}
use Rattle.std.specs.Prelude.{◌⊎◌, Some}
use Rattle.std.specs.Option.{option_map_or}
use Rattle.std.specs.List.{enumerate_from}
use Rattle.wordlines.specs.Wirings.{Wiring}
use Rattle.limits.specs.Limits.{most_tasks, most_instances, most_slots, most_blocks, most_constants, most_words}
use Rattle.limits.specs.Limits.{most_calls, most_functions, most_inputs}
use Rattle.ilsource.specs.declared.uses.Use.{Use}
use Rattle.ilsource.specs.Words.{places_in}
use Rattle.ilsource.specs.declared.name.Name.{Name}
use Rattle.ilsource.specs.declared.operand.Operand.TheVariants.{Constant}
use Rattle.ilsource.specs.Uses.{read_at, uses_in}
use Rattle.ilsource.specs.SourceTrees.{Tree}
use Rattle.ildeclared.specs.Faults.{SomeLater, SomeOf}
use Rattle.ildeclared.specs.declared.fault.NameCause.{NameCause}
use Rattle.ildeclared.specs.declared.fault.NameCause.TheVariants.{Unknown, Twice, UnknownLabel, BackwardJump}
use Rattle.ildeclared.specs.declared.fault.NameCause.TheVariants.{WrittenTwice, WritesInput, TooMany, BadDeclaration}
use Rattle.ilscope.specs.Configured.{globals_of, task_declarations}
use Rattle.ilscope.specs.Declarations.{DeclaredFunction, declared_functions, declared_programs}
use Rattle.ilscope.specs.Faults.{IsFaultOfDeclarations}
use Rattle.ilscope.specs.UseFaults.{IsBackwardJump, IsGivenTwice, IsInputWritten, IsLabelTwice, IsOutputWritten}
use Rattle.ilscope.specs.UseFaults.{IsOwnInputWritten, IsUnknownLabel, IsUnknownName, IsWrongCall, ProgramStores}
use Rattle.ilplan.specs.Constants.{constants_used, each_once}
use Rattle.ilplan.specs.Functions.{PlannedFunction, depths_from}
use Rattle.ilplan.specs.Plans.{all_lines}
use Rattle.ilplan.specs.declared.function.FunctionVariable.{FunctionVariable}
use Rattle.ilplan.specs.declared.place.Place.{Place}
use Rattle.ilplan.specs.declared.slot.SlotOwner.{SlotOwner}
use Rattle.ilplan.specs.declared.slot.SlotOwner.TheVariants as variables
use Rattle.ilsyms.specs.Resolved.{functions_used, planned_functions, planned_instances}
use Rattle.ilsyms.specs.Tasks.{NamedProgram, SourceTask, tasks_of}
use Rattle.ilsyms.specs.Variables.{slots_of, blocks_of, lines_of}

-- ---- global variables

-- some program of the task stores to the global variable of this number
abbrev pub TaskStores : Tree → ℕ → SourceTask → Type 0
TaskStores tree number task = SomeOf (λ i. ProgramStores tree number i.program) task.instances

-- two tasks store to the global variable of this number
abbrev pub AreTwoStoring : Tree → ℕ → Type 0
AreTwoStoring tree number =
    SomeLater (λ one other. TaskStores tree number one × TaskStores tree number other) (tasks_of tree)

-- two tasks store to a global variable, whose name in its declaration stands at the place
abbrev pub IsWrittenTwice : Tree → ℕ → Type 0
IsWrittenTwice tree place =
    SomeOf (λ g. AreTwoStoring tree g.0 × (place ≡ g.1.name.from)) (enumerate_from 0 (globals_of tree))

-- ---- limits

-- with the use at the place there are more different constants than the limit, and without it as many
pub record MakesTooManyConstants {N : Type 0} (uses : List (Use N)) (place : ℕ) : Type 0 where
  pub before : List (Use N)
  pub last : Use N
  pub after : List (Use N)
  pub is : uses ≡ before ++ last ∷ after
  pub full : length (each_once (constants_used before)) ≡ most_constants
  pub more : length (each_once (constants_used (before ++ last ∷ []))) ≡ most_constants + 1
  pub stands : place ≡ last.at

-- the names of the program instances of a text
abbrev pub instance_names : Tree → List Name
instance_names tree =
    option_map_or (λ c. map (λ i. i.name) c.instances) tree.configuration
    (map (λ p. p.program.name) (declared_programs tree))

-- the place of the declaration of a slot's variable
abbrev pub place_of_slot : Tree → SlotOwner → ℕ
place_of_slot tree (variables.Own instance name) = name.from
place_of_slot tree (variables.Global number) = option_map_or (λ g. g.name.from) (slice_get (globals_of tree) number) 0

-- ---- what a function takes of a task, each with the place of what would exceed a limit with it: a slot for each
-- variable; a word and a constant for each value that a variable begins with, made by the function's name; and those of
-- its lines

abbrev pub slot_places : PlannedFunction → List ℕ
slot_places f = map (λ v. v.name.from) f.inputs ++ map (λ v. v.name.from) f.variables

abbrev pub word_places : PlannedFunction → List ℕ
word_places f = replicate (length f.variables) f.name.from ++ flat_map places_in f.lines

abbrev pub starting_use : PlannedFunction → FunctionVariable → Use Place
starting_use f v = read_at f.name.from (Constant v.initial)

abbrev pub uses_of_function : PlannedFunction → List (Use Place)
uses_of_function f = map (starting_use f) f.variables ++ flat_map uses_in f.lines

-- the same of a task with these instances, and of the functions that it uses
abbrev pub all_slot_places : Tree → List NamedProgram → List ℕ
all_slot_places tree instances =
    map (λ s. place_of_slot tree s.variable) (slots_of tree instances)
    ++ flat_map slot_places (functions_used tree instances)

abbrev pub all_word_places : Tree → List NamedProgram → List ℕ
all_word_places tree instances =
    flat_map places_in (lines_of instances) ++ flat_map word_places (functions_used tree instances)

abbrev pub all_uses : Tree → List NamedProgram → List (Use Place)
all_uses tree instances =
    flat_map uses_in (all_lines (planned_instances tree instances))
    ++ flat_map uses_of_function (functions_used tree instances)

-- ---- what exceeds a limit

-- the variable, the block instance, or the instruction with the word or the constant, that exceeds the limit of a task
-- with these instances is at the place
abbrev pub IsTooManyIn : Tree → ℕ → List NamedProgram → Type 0
IsTooManyIn tree place instances =
    (slice_get (all_slot_places tree instances) most_slots ≡ Some place)
    ⊎ (slice_get (map (λ b. b.name.from) (blocks_of instances)) most_blocks ≡ Some place)
    ⊎ (slice_get (all_word_places tree instances) most_words ≡ Some place)
    ⊎ MakesTooManyConstants (all_uses tree instances) place

-- how deep each function is: one that calls none is 1 deep
abbrev pub depths_of : Tree → List ℕ
depths_of tree = depths_from [] (planned_functions tree)

-- one of these functions, its name at the place, is deeper than the limit, where they have these depths
pub record AreTooDeep (functions : List DeclaredFunction) (depths : List ℕ) (place : ℕ) : Type 0 where
  pub number : ℕ
  pub function : DeclaredFunction
  pub depth : ℕ
  pub is : slice_get functions number ≡ Some function
  pub its : slice_get depths number ≡ Some depth
  pub deep : most_calls < depth
  pub stands : place ≡ function.function.name.from

-- the function that exceeds the number of functions is at the place, or the input that exceeds that of inputs, or one
-- is too deep
abbrev pub IsTooManyOfFunctions : Tree → ℕ → Type 0
IsTooManyOfFunctions tree place =
    (slice_get (map (λ f. f.function.name.from) (declared_functions tree)) most_functions ≡ Some place)
    ⊎ SomeOf (λ f. slice_get (map (λ v. v.name.from) f.inputs) most_inputs ≡ Some place) (declared_functions tree)
    ⊎ AreTooDeep (declared_functions tree) (depths_of tree) place

-- the task or program instance that exceeds the limit is at the place, or what exceeds that of a task, or of functions
abbrev pub IsTooMany : Tree → ℕ → Type 0
IsTooMany tree place =
    (slice_get (map (λ t. t.name.from) (task_declarations tree)) most_tasks ≡ Some place)
    ⊎ (slice_get (map (λ name. name.from) (instance_names tree)) most_instances ≡ Some place)
    ⊎ SomeOf (λ t. IsTooManyIn tree place t.instances) (tasks_of tree)
    ⊎ IsTooManyOfFunctions tree place

-- ---- faults

-- a fault with this cause, in a line, at a global variable that two tasks store to or at what exceeds a limit, stands
-- at the place
abbrev pub IsFaultOfUse : Tree → ℕ → NameCause → Type 0
IsFaultOfUse tree place Unknown = IsUnknownName tree place
IsFaultOfUse tree place Twice = IsLabelTwice tree place ⊎ IsGivenTwice tree place
IsFaultOfUse tree place UnknownLabel = IsUnknownLabel tree place
IsFaultOfUse tree place BackwardJump = IsBackwardJump tree place
IsFaultOfUse tree place WrittenTwice = IsWrittenTwice tree place
IsFaultOfUse tree place WritesInput =
    IsOutputWritten tree place ⊎ IsInputWritten tree place ⊎ IsOwnInputWritten tree place
IsFaultOfUse tree place TooMany = IsTooMany tree place
IsFaultOfUse tree place BadDeclaration = IsWrongCall tree place
IsFaultOfUse tree place _ = ⊥

-- a fault with this cause stands at the place
abbrev pub IsFault : Tree → Wiring → ℕ → NameCause → Type 0
IsFault tree wiring place cause = IsFaultOfDeclarations tree wiring place cause ⊎ IsFaultOfUse tree place cause

-- no fault stands anywhere
abbrev pub IsWellNamed : Tree → Wiring → Type 0
IsWellNamed tree wiring = (place : ℕ) (cause : NameCause) → ¬ IsFault tree wiring place cause
