-- Faults of names in lines: each stands at a place of the text, a byte's offset, and has a cause (IEC 61131-3, 2.4.3: a
-- variable is declared; 2.5.1: a function has an argument for each input; 2.5.2: a block instance is declared, and its
-- outputs are not written; 3.2.2: a jump leads to a label of its program; the profile's are that jumps go forward, that
-- a function is declared above its call, and that nothing is stored to an input). What is said of a program's lines is
-- said of a function's too: it names its own variables, no block instance, and no global variable. Labels are a space
-- of their own in each program and each function.
use Rattle.std.specs.Prelude.{◌≡◌, ℕ, ◌+◌, List, [], ◌∷◌, ◌++◌, filter_map, length, slice_get, take, ◌⊎◌}
use Rattle.std.specs.Prelude.{Option, Some, None, IsNone, IsSomeAnd, IsTrue, Bool, true, false, option_map}
use Rattle.std.specs.Prelude.{option_and_then}
use Rattle.ilsource.specs.declared.instruction.Instruction.{Instruction}
use Rattle.ilsource.specs.declared.instruction.Instruction.TheVariants.{Jump, Call}
use Rattle.ilsource.specs.declared.instruction.Line.{Line}
use Rattle.ilsource.specs.declared.operand.Operand.{Operand}
use Rattle.ilsource.specs.declared.operand.Operand.TheVariants.{Name as Named, Constant}
use Rattle.ilsource.specs.declared.uses.Purpose.{Purpose}
use Rattle.ilsource.specs.declared.uses.Purpose.TheVariants.{Write, Pass}
use Rattle.ilsource.specs.declared.uses.Use.{Use}
use Rattle.ilsource.specs.declared.name.Name.{Name}
use Rattle.ilsource.specs.declared.symbol.Symbol.{Symbol}
use Rattle.ilsource.specs.declared.symbol.Symbol.TheVariants.{Variable, Port, Block, Function}
use Rattle.ilsource.specs.Names.{SameName, folded, text_of}
use Rattle.ilsource.specs.SourceTrees.{Tree}
use Rattle.ildeclared.specs.Faults.{IsInput, OfCause, SomeOf}
use Rattle.ildeclared.specs.declared.fault.NameCause.{NameCause}
use Rattle.ildeclared.specs.declared.fault.NameCause.TheVariants.{Unknown, Twice, UnknownLabel, BackwardJump}
use Rattle.ildeclared.specs.declared.fault.NameCause.TheVariants.{WritesInput, BadDeclaration}
use Rattle.ilscope.specs.Configured.{global_named, global_number}
use Rattle.ilscope.specs.Declarations.{as_program, bodies_of, declared_functions}
use Rattle.ilscope.specs.Declarations.{DeclaredFunction, DeclaredProgram}
use Rattle.ilscope.specs.Faults.{IsTwiceIn}
use Rattle.ilscope.specs.Tables.{first_at}
use Rattle.ilblocks.specs.declared.kind.BlockKind.{BlockKind}
use Rattle.ilblocks.specs.Ports.{port_named, input_type}
use Rattle.ilscope.specs.Calls.{calls_of}
use Rattle.ilscope.specs.declared.calls.FunctionCall.{FunctionCall}
use Rattle.ilscope.specs.SameNames.{same_name}
use Rattle.ilscope.specs.Uses.{uses_of}

-- no variable or external of the program has the name, and no block instance has it
abbrev pub IsNoVariable : List ℕ → DeclaredProgram → Name → Type 0
IsNoVariable text p name =
    (¬ SomeOf (λ v. SameName text name v.name) p.variables) × (¬ SomeOf (λ e. SameName text name e.name) p.externals)

abbrev pub IsNoBlock : List ℕ → DeclaredProgram → Name → Type 0
IsNoBlock text p name = ¬ SomeOf (λ b. SameName text name b.name) p.blocks

-- the functions that are declared above the program
abbrev pub functions_above : Tree → DeclaredProgram → List DeclaredFunction
functions_above tree p = take p.functions (declared_functions tree)

-- none of them has the name
abbrev pub IsNoFunction : Tree → DeclaredProgram → Name → Type 0
IsNoFunction tree p name = ¬ SomeOf (λ f. SameName tree.text name f.function.name) (functions_above tree p)

-- the number of the port of a name, of the first block instance of a name; none where there is no such port
abbrev pub port_number : List ℕ → DeclaredProgram → Name → Name → Option (BlockKind × ℕ)
port_number text p block port =
    option_and_then
    (λ b. option_map (λ number. (b.kind, number)) (port_named b.kind (text_of text port)))
    (option_and_then (slice_get p.blocks) (first_at (λ b. same_name text block b.name) p.blocks))

-- the place of a port at fault: the port's name where it is that of an argument, else the first word of the operand
abbrev pub place_of_port : Purpose → Name → Name → ℕ
place_of_port Pass block port = port.from
place_of_port _ block port = block.from

-- the symbol names, at the place, nothing that is declared for this purpose: by the program a variable, a block
-- instance, or a port that its block has; above the program a function
abbrev pub IsUnknownSymbol : Tree → DeclaredProgram → ℕ → Purpose → Symbol → Type 0
IsUnknownSymbol tree p place purpose (Variable name) = IsNoVariable tree.text p name × (place ≡ name.from)
IsUnknownSymbol tree p place purpose (Port block port) =
    (port_number tree.text p block port ≡ None) × (place ≡ place_of_port purpose block port)
IsUnknownSymbol tree p place purpose (Block name) = IsNoBlock tree.text p name × (place ≡ name.from)
IsUnknownSymbol tree p place purpose (Function name) = IsNoFunction tree p name × (place ≡ name.from)

abbrev pub IsUnknownOperand : Tree → DeclaredProgram → ℕ → Purpose → Operand Symbol → Type 0
IsUnknownOperand tree p place purpose (Named symbol) = IsUnknownSymbol tree p place purpose symbol
IsUnknownOperand tree p place purpose (Constant value) = ⊥

abbrev pub IsUnknownUse : Tree → DeclaredProgram → ℕ → Use Symbol → Type 0
IsUnknownUse tree p place u = IsUnknownOperand tree p place u.purpose u.operand

-- a use, at the place, of what is not declared for it
abbrev pub IsUnknownIn : Tree → DeclaredProgram → ℕ → List (Use Symbol) → Type 0
IsUnknownIn tree p place uses = SomeOf (IsUnknownUse tree p place) uses

-- a line uses, at the place, what is not declared for it
abbrev pub IsUnknownName : Tree → ℕ → Type 0
IsUnknownName tree place = SomeOf (λ p. IsUnknownIn tree p place (uses_of p.program.lines)) (bodies_of tree)

-- ---- calls of functions

-- the first function above with the name
abbrev pub function_called : Tree → DeclaredProgram → Name → Option DeclaredFunction
function_called tree p name =
    option_and_then
    (slice_get (functions_above tree p))
    (first_at (λ f. same_name tree.text name f.function.name) (functions_above tree p))

-- the name of the function, at the place, which has not one input more than the call has operands
abbrev pub IsCalledWrongly : Tree → DeclaredProgram → ℕ → ℕ → Symbol → Type 0
IsCalledWrongly tree p place operands (Function name) =
    IsSomeAnd (function_called tree p name) (λ f. ¬ (length f.inputs ≡ operands + 1)) × (place ≡ name.from)
IsCalledWrongly tree p place operands _ = ⊥

-- one of the calls, at the place, has a wrong number of operands
abbrev pub IsWrongIn : Tree → DeclaredProgram → ℕ → List FunctionCall → Type 0
IsWrongIn tree p place calls = SomeOf (λ c. IsCalledWrongly tree p place c.operands c.function) calls

abbrev pub IsWrongCall : Tree → ℕ → Type 0
IsWrongCall tree place = SomeOf (λ p. IsWrongIn tree p place (calls_of p.program.lines)) (bodies_of tree)

-- ---- ports

-- an output is stored to, set, reset or given as an argument's port
abbrev pub IsOutput : Option (BlockKind × ℕ) → Type 0
IsOutput None = ⊥
IsOutput (Some port) = IsNone (input_type 1 port.0 port.1)

abbrev pub writes : Purpose → Bool
writes Write = true
writes Pass = true
writes _ = false

abbrev pub WritesOperand : List ℕ → DeclaredProgram → ℕ → Purpose → Operand Symbol → Type 0
WritesOperand text p place purpose (Named (Port block port)) =
    IsTrue (writes purpose) × IsOutput (port_number text p block port) × (place ≡ place_of_port purpose block port)
WritesOperand text p place purpose _ = ⊥

abbrev pub WritesOutput : List ℕ → DeclaredProgram → ℕ → Use Symbol → Type 0
WritesOutput text p place u = WritesOperand text p place u.purpose u.operand

-- a line stores, at the place, to an output port
abbrev pub IsOutputWritten : Tree → ℕ → Type 0
IsOutputWritten tree place =
    SomeOf (λ p. SomeOf (WritesOutput tree.text p place) (uses_of p.program.lines)) (bodies_of tree)

-- the words of the ports of a call's arguments, in order
abbrev pub port_in : Symbol → Option Name
port_in (Port block port) = Some port
port_in _ = None

abbrev pub ports_given : Option (Instruction Symbol Name) → List Name
ports_given (Some (Call condition instance arguments)) = filter_map (λ x. port_in x.port) arguments
ports_given _ = []

-- ---- global variables

-- the name in a program's lines is that of an external, and of no variable of the program
abbrev pub IsExternal : List ℕ → DeclaredProgram → Name → Type 0
IsExternal text p name =
    (¬ SomeOf (λ v. SameName text name v.name) p.variables) × SomeOf (λ e. SameName text name e.name) p.externals

-- the name of the variable that a use stores to
abbrev pub stored_name : Purpose → Operand Symbol → Option Name
stored_name Write (Named (Variable name)) = Some name
stored_name _ _ = None

-- a use stores to the external of this name
abbrev pub StoresExternal : List ℕ → DeclaredProgram → Use Symbol → Name → Type 0
StoresExternal text p u name = (stored_name u.purpose u.operand ≡ Some name) × IsExternal text p name

-- a use stores to the global variable of this number
abbrev pub StoresTo : Tree → ℕ → DeclaredProgram → Use Symbol → Type 0
StoresTo tree number p u =
    IsSomeAnd
    (stored_name u.purpose u.operand)
    (λ name. IsExternal tree.text p name × (global_number tree name ≡ Some number))

-- the name is that of a global variable that is an input
abbrev pub IsNamedInput : Tree → Name → Type 0
IsNamedInput tree name = IsSomeAnd (global_named tree name) (λ g. IsSomeAnd g.address IsInput)

-- a use stores, at the place, to a global variable that is an input
abbrev pub StoresToInput : Tree → DeclaredProgram → ℕ → Use Symbol → Type 0
StoresToInput tree p place u =
    IsSomeAnd
    (stored_name u.purpose u.operand)
    (λ name. IsExternal tree.text p name × IsNamedInput tree name × (place ≡ name.from))

-- a line stores, at the place, to a global variable that is an input
abbrev pub IsInputWritten : Tree → ℕ → Type 0
IsInputWritten tree place =
    SomeOf (λ p. SomeOf (StoresToInput tree p place) (uses_of p.program.lines)) (bodies_of tree)

-- a use stores, at the place, to an input of the function
abbrev pub StoresToOwnInput : List ℕ → DeclaredFunction → ℕ → Use Symbol → Type 0
StoresToOwnInput text f place u =
    IsSomeAnd
    (stored_name u.purpose u.operand)
    (λ name. SomeOf (λ v. SameName text name v.name) f.inputs × (place ≡ name.from))

-- a line of a function stores, at the place, to an input of it
abbrev pub IsOwnInputWritten : Tree → ℕ → Type 0
IsOwnInputWritten tree place =
    SomeOf
    (λ f. SomeOf (StoresToOwnInput tree.text f place) (uses_of f.function.lines)) (declared_functions tree)

-- some line of the program, reached or not, stores to the global variable of this number
abbrev pub ProgramStores : Tree → ℕ → DeclaredProgram → Type 0
ProgramStores tree number p = SomeOf (StoresTo tree number p) (uses_of p.program.lines)

-- a call gives, at the place, a port that it gave before
abbrev pub IsGivenTwice : Tree → ℕ → Type 0
IsGivenTwice tree place =
    SomeOf
    (λ p. SomeOf (λ line. IsTwiceIn (folded tree.text) (ports_given line.instruction) place) p.program.lines)
    (bodies_of tree)

-- ---- labels

-- the labels of lines, in order
abbrev pub labels_of : List (Line Symbol Name) → List Name
labels_of lines = filter_map (λ line. line.label) lines

-- the label that an instruction jumps to
abbrev pub target_of : Option (Instruction Symbol Name) → Option Name
target_of (Some (Jump condition label)) = Some label
target_of _ = None

-- the instruction jumps to a label that has the property, and this label stands at the place
abbrev pub JumpsTo : (Name → Type 0) → ℕ → Option (Instruction Symbol Name) → Type 0
JumpsTo P place instruction = IsSomeAnd (target_of instruction) (λ label. P label × (place ≡ label.from))

-- a line jumps, at the place, to a label that none of the lines has
abbrev pub JumpsNowhere : List ℕ → List (Line Symbol Name) → ℕ → Type 0
JumpsNowhere text lines place =
    SomeOf
    (λ line. JumpsTo (λ label. ¬ SomeOf (SameName text label) (labels_of lines)) place line.instruction) lines

-- a line jumps, at the place, to a label that it has itself or that a line before it has: where several lines have a
-- label, the first is meant
pub record JumpsBack (text : List ℕ) (lines : List (Line Symbol Name)) (place : ℕ) : Type 0 where
  pub before : List (Line Symbol Name)
  pub line : Line Symbol Name
  pub after : List (Line Symbol Name)
  pub is : lines ≡ before ++ line ∷ after
  pub jumps : JumpsTo (λ label. SomeOf (SameName text label) (labels_of (before ++ line ∷ []))) place line.instruction

-- some program or function has the label at the place on a line before, too
abbrev pub IsLabelTwice : Tree → ℕ → Type 0
IsLabelTwice tree place =
    SomeOf (λ p. IsTwiceIn (folded tree.text) (labels_of p.program.lines) place) (bodies_of tree)

-- some program or function has no line with the label, at the place, of a jump
abbrev pub IsUnknownLabel : Tree → ℕ → Type 0
IsUnknownLabel tree place = SomeOf (λ p. JumpsNowhere tree.text p.program.lines place) (bodies_of tree)

-- some program or function jumps, at the place, back or to the line itself
abbrev pub IsBackwardJump : Tree → ℕ → Type 0
IsBackwardJump tree place = SomeOf (λ p. JumpsBack tree.text p.program.lines place) (bodies_of tree)

-- ---- with their causes

-- a use names what is not declared for it, or stores to an output port or to an input
abbrev pub IsFaultAtUse : Tree → DeclaredProgram → Use Symbol → ℕ → NameCause → Type 0
IsFaultAtUse tree p u place cause =
    OfCause Unknown (λ at. IsUnknownUse tree p at u) place cause
    ⊎ OfCause WritesInput (λ at. WritesOutput tree.text p at u ⊎ StoresToInput tree p at u) place cause

abbrev pub IsFaultAtUses : Tree → DeclaredProgram → List (Use Symbol) → ℕ → NameCause → Type 0
IsFaultAtUses tree p uses place cause = SomeOf (λ u. IsFaultAtUse tree p u place cause) uses

-- such a fault in a function, or a store to an input of its own
abbrev pub IsFaultInFunction : Tree → DeclaredFunction → ℕ → NameCause → Type 0
IsFaultInFunction tree f place cause =
    IsFaultAtUses tree (as_program f) (uses_of f.function.lines) place cause
    ⊎ OfCause WritesInput (λ at. SomeOf (StoresToOwnInput tree.text f at) (uses_of f.function.lines)) place cause

-- such a fault in any program or function, or a store to an input of a function in it
abbrev pub IsFaultOfUses : Tree → ℕ → NameCause → Type 0
IsFaultOfUses tree place cause =
    SomeOf (λ p. IsFaultAtUses tree p (uses_of p.program.lines) place cause) (bodies_of tree)
    ⊎ OfCause WritesInput (IsOwnInputWritten tree) place cause

-- a fault of a call of a function, and of a store to an input of one's own
abbrev pub IsFaultOfCalls : Tree → DeclaredProgram → List (Line Symbol Name) → ℕ → NameCause → Type 0
IsFaultOfCalls tree p lines = OfCause BadDeclaration (λ place. IsWrongIn tree p place (calls_of lines))

abbrev pub IsFaultAtInputs : List ℕ → DeclaredFunction → List (Use Symbol) → ℕ → NameCause → Type 0
IsFaultAtInputs text f uses = OfCause WritesInput (λ place. SomeOf (StoresToOwnInput text f place) uses)

-- a fault of a jump
abbrev pub IsFaultOfJumps : List ℕ → List (Line Symbol Name) → ℕ → NameCause → Type 0
IsFaultOfJumps text lines place UnknownLabel = JumpsNowhere text lines place
IsFaultOfJumps text lines place BackwardJump = JumpsBack text lines place
IsFaultOfJumps text lines place _ = ⊥

-- a fault of a label of one program's lines
abbrev pub IsFaultOfLabels : List ℕ → List (Line Symbol Name) → ℕ → NameCause → Type 0
IsFaultOfLabels text lines place Twice = IsTwiceIn (folded text) (labels_of lines) place
IsFaultOfLabels text lines place cause = IsFaultOfJumps text lines place cause

-- a call among the lines gives, at the place, a port that it gave before
abbrev pub IsGivenTwiceIn : List ℕ → List (Line Symbol Name) → ℕ → Type 0
IsGivenTwiceIn text lines place =
    SomeOf (λ line. IsTwiceIn (folded text) (ports_given line.instruction) place) lines

-- a fault of a label, or of a port that is given again
abbrev pub IsFaultOfLines : List ℕ → List (Line Symbol Name) → ℕ → NameCause → Type 0
IsFaultOfLines text lines place cause =
    IsFaultOfLabels text lines place cause ⊎ OfCause Twice (IsGivenTwiceIn text lines) place cause

-- a fault of a program's lines as such, or of a function's: also of a call with a wrong number of operands
abbrev pub IsFaultOfBody : Tree → DeclaredProgram → ℕ → NameCause → Type 0
IsFaultOfBody tree p place cause =
    IsFaultOfLines tree.text p.program.lines place cause ⊎ IsFaultOfCalls tree p p.program.lines place cause
