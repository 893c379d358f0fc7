-- What bytes come to as a scenario, as one fact.
use Rattle.std.proofs.Common.{◌≡◌, ◌↔◌, Result, Ok, Err, ℕ, List, refl}
use Rattle.std.specs.Str.Lines.{lines}
use Rattle.wordlines.specs.declared.statements.Statement.{Statement}
use Rattle.wordlines.specs.declared.fault.LineCause.TheVariants.{BadLine, TooLong}
use Rattle.wordlines.specs.declared.fault.LineFault.TheVariants.{Memory, At}
use Rattle.wordlines.specs.Scenarios.{ScenarioFault, IsScenario, IsBadScenario, IsTooLong, AddsSome, IsJudged}

pub judged : (bytes : List ℕ) (r : Result (List Statement) ScenarioFault)
    → ((statements : List Statement) → r ≡ Ok statements → IsScenario bytes statements)
    → ((line : ℕ) → r ≡ Err (At line BadLine) → IsBadScenario bytes line)
    → ((line : ℕ) → (r ≡ Err (At line TooLong)) ↔ IsTooLong bytes line)
    → (r ≡ Err Memory → AddsSome (lines bytes))
    → IsJudged bytes r
judged bytes (Ok statements) good bad long memory = good statements refl
judged bytes (Err Memory) good bad long memory = memory refl
judged bytes (Err (At line BadLine)) good bad long memory = bad line refl
judged bytes (Err (At line TooLong)) good bad long memory = (long line).0 refl
