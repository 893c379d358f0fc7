-- What the lines of a source program use, one line after another.
use Rattle.std.specs.Prelude.{List, flat_map}
use Rattle.ilsource.specs.declared.instruction.Line.{Line}
use Rattle.ilsource.specs.declared.uses.Use.{Use}
use Rattle.ilsource.specs.Uses.{uses_in}
use Rattle.ilsource.specs.declared.name.Name.{Name}
use Rattle.ilsource.specs.declared.symbol.Symbol.{Symbol}

-- what lines use, in the order of the text
abbrev pub uses_of : List (Line Symbol Name) → List (Use Symbol)
uses_of lines = flat_map uses_in lines
