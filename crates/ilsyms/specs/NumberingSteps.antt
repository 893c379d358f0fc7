-- How the names of an instance get numbers: its variables one after another, after the global variables and those of
-- the instances before, and its block instances likewise. And how its labels get the numbers of lines.
use Rattle.std.specs.Prelude.{◌≡◌, ℕ, ◌+◌, ◌^◌, ◌<◌, List, [], bytes_eq, get_or, length, Option, Some, IsSome}
use Rattle.std.specs.Prelude.{unwrap_or}
use Rattle.std.specs.List.{position_or_len}
use Rattle.std.specs.Map.{lookup}
use Rattle.std.specs.Option.{option_map_or}
use Rattle.ilsource.specs.Renaming.{NewNames, by_name}
use Rattle.ilsource.specs.declared.name.Name.{Name}
use Rattle.ilsource.specs.declared.symbol.Symbol.{Symbol}
use Rattle.ilsource.specs.declared.symbol.Symbol.TheVariants as symbols
use Rattle.ilsource.specs.Names.{folded}
use Rattle.ilsource.specs.SourceTrees.{Tree}
use Rattle.ilblocks.specs.Ports.{most_ports}
use Rattle.ildeclared.specs.Kept.{Kept}
use Rattle.ilscope.specs.Configured.{function_number, global_number, globals_of}
use Rattle.ilscope.specs.Declarations.{DeclaredProgram, body_at, declared_functions}
use Rattle.ilscope.specs.declared.body_number.BodyNumber.{BodyNumber}
use Rattle.ilscope.specs.Tables.{block_number, variable_number}
use Rattle.ilplan.specs.declared.slot.Slot.{Slot}
use Rattle.ilplan.specs.declared.place.Place.{Place}
use Rattle.ilplan.specs.declared.place.Place.TheVariants as places
use Rattle.ilscope.specs.UseFaults.{port_number}
use Rattle.ilsyms.specs.Meaning.{is_global}

-- the text's tree, the program, the task's slots and the number of the first of the instance's own, the number of its
-- first block instance and how many of these the task has, and the numbers that are kept under labels
pub record Numbering : Type 0 where
  pub tree : Tree
  pub program : DeclaredProgram
  pub slots : List Slot
  pub first_slot : ℕ
  pub first_block : ℕ
  pub all_blocks : ℕ
  pub labels : Kept ℕ

abbrev pub numbering_of : Tree → DeclaredProgram → List Slot → ℕ → ℕ → ℕ → Kept ℕ → Numbering
numbering_of tree program slots first_slot all_blocks first_block labels =
    record {
      tree = tree;
      program = program;
      slots = slots;
      first_slot = first_slot;
      first_block = first_block;
      all_blocks = all_blocks;
      labels = labels;
    }

-- the program of the number, or the function of the number as one; a program without anything where there is none
abbrev pub no_program : DeclaredProgram
no_program =
    record {
      program = record { name = record { from = 0; to = 0 }; declarations = []; lines = [] };
      variables = [];
      blocks = [];
      externals = [];
      functions = 0;
    }

abbrev pub program_at : Tree → BodyNumber → DeclaredProgram
program_at tree body = unwrap_or (body_at tree body) no_program

-- the number of the slot of a global variable; past the last where there is none
abbrev pub number_of_global : List Slot → Option ℕ → ℕ
number_of_global slots global = position_or_len (λ s. is_global global s.variable) slots

-- for each of so many global variables the number of its slot; past the last where it has none
pub record AreGlobalSlots (slots : List Slot) (count : ℕ) (numbers : List ℕ) : Type 0 where
  pub many : length numbers ≡ count
  pub each : (global : ℕ) → global < count → get_or numbers global 0 ≡ number_of_global slots (Some global)

-- the numbers by which an instance of the program, or the function, is numbered: it is there and has so many lines,
-- each number fits its type, and of functions there are few
pub record IsNumbering (tree : Tree) (body : BodyNumber) (slots : List Slot) (global_slots : List ℕ)
    (first_slot blocks first_block lines : ℕ) : Type 0 where
  pub there : IsSome (body_at tree body)
  pub all : lines ≡ length (program_at tree body).program.lines
  pub own_slots : first_slot + length (program_at tree body).variables < 2 ^ 64
  pub own_blocks : first_block + length (program_at tree body).blocks < 2 ^ 16
  pub few_blocks : blocks < 2 ^ 16
  pub few_functions : length (declared_functions tree) < 2 ^ 8
  pub globals : AreGlobalSlots slots (length (globals_of tree)) global_slots

-- the number of the slot of what a name means: a variable of the instance, else a global variable
abbrev pub slot_number : Numbering → Name → ℕ
slot_number n name =
    option_map_or
    (λ k. n.first_slot + k)
    (variable_number (folded n.tree.text) n.program.variables name)
    (number_of_global n.slots (global_number n.tree name))

-- the number of a block instance; past the last where there is none
abbrev pub number_of_block : Numbering → Name → ℕ
number_of_block n name =
    option_map_or (λ k. n.first_block + k) (block_number (folded n.tree.text) n.program.blocks name) n.all_blocks

-- the number of a port of a block instance; past the last port where there is none
abbrev pub number_of_port : Numbering → Name → Name → ℕ
number_of_port n block port = option_map_or (λ found. found.1) (port_number n.tree.text n.program block port) most_ports

-- the number of a function; past the last where there is none
abbrev pub number_of_function : Numbering → Name → ℕ
number_of_function n name = unwrap_or (function_number n.tree name) (length (declared_functions n.tree))

-- the place of what a line names
abbrev pub place_by_number : Numbering → Symbol → Place
place_by_number n (symbols.Variable name) = places.Slot (slot_number n name)
place_by_number n (symbols.Port block port) = places.Port (number_of_block n block) (number_of_port n block port)
place_by_number n (symbols.Block name) = places.Block (number_of_block n name)
place_by_number n (symbols.Function name) = places.Function (number_of_function n name)

abbrev pub numbers : Numbering → NewNames Symbol Place
numbers n = record { operand = by_name (place_by_number n); name = place_by_number n }

-- the number of the first line with a label; past the last where there is none
abbrev pub label_of : Numbering → Name → ℕ
label_of n label = unwrap_or (lookup (bytes_eq (folded n.tree.text label)) n.labels) (length n.program.program.lines)
