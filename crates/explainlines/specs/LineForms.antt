-- Which lines a binding or a scenario may have (profile).
use Rattle.std.specs.Prelude.{◌≢◌, ◌⊎◌, ℕ, List, None}
use Rattle.wordlines.specs.WordLines.{words}
use Rattle.wordlines.specs.Spelling.{SpellsBuses, SpellsBound, SpellsTries}
use Rattle.wordlines.specs.Saying.{said}
use Rattle.wordlines.specs.declared.sources.BoundSource.{BoundSource}
use Rattle.wordlines.specs.declared.tries.BusTries.{BusTries}
use Rattle.explainlines.specs.declared.lines.LineFile.{LineFile}
use Rattle.explainlines.specs.declared.lines.LineFile.TheVariants.{Binding, Scenario}

-- these words say something in a binding
abbrev pub SaySomething : List (List ℕ) → Type 0
SaySomething words =
    ((number : ℕ) × SpellsBuses words number)
    ⊎ ((bound : BoundSource) × SpellsBound words bound)
    ⊎ ((tries : BusTries) × SpellsTries words tries)

-- the words of the line say something in such a file
abbrev pub IsLineOf : LineFile → List ℕ → Type 0
IsLineOf Binding line = SaySomething (words line)
IsLineOf Scenario line = said (words line) ≢ None
