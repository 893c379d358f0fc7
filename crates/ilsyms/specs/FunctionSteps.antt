-- What functions take of a task that uses them, by the names in their lines, and which functions a task uses.
use Rattle.std.specs.Prelude.{◌≡◌, ℕ, ◌+◌, List, [], ◌∷◌, ◌++◌, filter_map, flat_map, length, map, replicate}
use Rattle.std.specs.Prelude.{slice_get, Bool, Option, Some, None, is_some, option_map, unwrap_or, if◌then◌else◌}
use Rattle.ilsource.specs.declared.name.Name.{Name}
use Rattle.ilsource.specs.declared.operand.Operand.{Operand}
use Rattle.ilsource.specs.declared.operand.Operand.TheVariants.{Name as Named, Constant}
use Rattle.ilsource.specs.declared.symbol.Symbol.{Symbol}
use Rattle.ilsource.specs.declared.symbol.Symbol.TheVariants.{Function}
use Rattle.ilsource.specs.declared.uses.Purpose.{Purpose}
use Rattle.ilsource.specs.declared.uses.Purpose.TheVariants.{Invoke}
use Rattle.ilsource.specs.declared.uses.Use.{Use}
use Rattle.ilsource.specs.SourceTrees.{Tree}
use Rattle.ilsource.specs.Uses.{read_at}
use Rattle.ilsource.specs.Words.{places_in}
use Rattle.ildeclared.specs.declared.variable.DeclaredVariable.{DeclaredVariable}
use Rattle.ilscope.specs.Declarations.{DeclaredFunction, DeclaredProgram}
use Rattle.ilscope.specs.Uses.{uses_of}
use Rattle.ilplan.specs.Functions.{PlannedFunction}
use Rattle.ilplan.specs.Plans.{used_by}
use Rattle.ilsyms.specs.Meaning.{function_in_text}
use Rattle.ilsyms.specs.Resolved.{planned_functions, planned_instances}
use Rattle.ilsyms.specs.Tasks.{NamedProgram}
use Rattle.ilsyms.specs.declared.past.Past.{Past}
use Rattle.ilsyms.specs.declared.past.Past.TheVariants.{At, Left}

-- the name of the function that a use invokes
abbrev pub invoked_name : Purpose → Operand Symbol → Option Name
invoked_name Invoke (Named (Function name)) = Some name
invoked_name _ _ = None

-- the number of that function, past the last where there is none of the name
abbrev pub function_named : Tree → Use Symbol → Option ℕ
function_named tree u = option_map (function_in_text tree) (invoked_name u.purpose u.operand)

-- those of the functions that uses invoke, one for each such use
abbrev pub functions_named : Tree → List (Use Symbol) → List ℕ
functions_named tree uses = filter_map (function_named tree) uses

-- those that a program's lines call
abbrev pub calls_of_program : Tree → DeclaredProgram → List ℕ
calls_of_program tree p = functions_named tree (uses_of p.program.lines)

-- those of the program with this number
abbrev pub calls_at : List (List ℕ) → ℕ → List ℕ
calls_at calls program = unwrap_or (slice_get calls program) []

-- what a function calls, the place of each of its variables and of each of its words, and what it uses, with the values
-- that its variables begin with
pub record Needs : Type 0 where
  pub calls : List ℕ
  pub slots : List ℕ
  pub words : List ℕ
  pub uses : List (Use Symbol)

abbrev pub begins_with : Name → DeclaredVariable → Use Symbol
begins_with function v = read_at function.from (Constant v.initial)

abbrev pub needs_of : Tree → DeclaredFunction → Needs
needs_of tree f =
    record {
      calls = functions_named tree (uses_of f.function.lines);
      slots = map (λ v. v.name.from) (f.inputs ++ f.variables);
      words = replicate (length f.variables) f.function.name.from ++ flat_map places_in f.function.lines;
      uses = map (begins_with f.function.name) f.variables ++ uses_of f.function.lines;
    }

-- for each function whether a task with these instances uses it
abbrev pub are_used : Tree → List NamedProgram → List Bool
are_used tree instances =
    map (λ (f : Option PlannedFunction). is_some f)
    (used_by (planned_functions tree) (planned_instances tree instances))

-- at the place stands what exceeds the limit, or so much is left of it
abbrev pub IsPast : List ℕ → ℕ → Past → Type 0
IsPast places limit (At place) = slice_get places limit ≡ Some place
IsPast places limit (Left left) = length places + left ≡ limit

-- of functions with these needs, those that are marked
abbrev pub marked : List Bool → List Needs → List Needs
marked [] needs = []
marked marks [] = []
marked (mark ∷ marks) (one ∷ needs) = if mark then one ∷ marked marks needs else marked marks needs
