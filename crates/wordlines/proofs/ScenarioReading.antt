-- A file gives one list of statements at most, its first bad line is one, and a scenario has none.
use Rattle.std.proofs.Common.{◌≡◌, ℕ, List, [], Some, sym, ◌∙◌}
use Rattle.wordlines.proofs.LineReading as reading
use Rattle.wordlines.specs.Scenarios.{scenario_rules, IsScenario, IsBadScenario}
use Rattle.wordlines.specs.declared.statements.Statement.{Statement}

-- a line says one thing
says_one : reading.SayOne scenario_rules
says_one words e f s t = let same : Some e ≡ Some f = sym s ∙ t in cc

pub statements_one : (bytes : List ℕ) (a b : List Statement) → IsScenario bytes a → IsScenario bytes b → a ≡ b
statements_one bytes a b f g = reading.led_one scenario_rules says_one [] bytes a b f g

pub bad_one : (bytes : List ℕ) (j k : ℕ) → IsBadScenario bytes j → IsBadScenario bytes k → j ≡ k
bad_one bytes j k f g = reading.bad_line_one scenario_rules says_one [] bytes j k f g

pub not_bad : (bytes : List ℕ) (line : ℕ) (statements : List Statement) → IsBadScenario bytes line
    → ¬ IsScenario bytes statements
not_bad bytes line statements f s = reading.led_not_bad scenario_rules says_one [] bytes line statements f s
