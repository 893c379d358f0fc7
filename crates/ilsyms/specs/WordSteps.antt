-- The words of instances by those of their programs, of which each is kept once.
use Rattle.std.specs.Prelude.{ℕ, List, [], flat_map, slice_get, unwrap_or}
use Rattle.ilsource.specs.Words.{places_in}
use Rattle.ilscope.specs.Declarations.{DeclaredProgram}

-- the place of each word of a program
abbrev pub places_of_program : DeclaredProgram → List ℕ
places_of_program p = flat_map places_in p.program.lines

-- those of the program with this number
abbrev pub places_at : List (List ℕ) → ℕ → List ℕ
places_at words program = unwrap_or (slice_get words program) []
