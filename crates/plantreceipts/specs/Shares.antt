-- What private fields of a Share say.
use Rattle.std.specs.Prelude.{◌≡◌, ℕ, List, Option, length}
use Rattle.std.specs.Sync.OnceLock.{Named}
use Rattle.std.specs.declared.sync.OnceToken.{OnceToken}
use Rattle.plant.specs.Shown.{Shown}
use Rattle.plantreceipts.specs.declared.receipt.NotedPart.{NotedPart}
use Rattle.plantreceipts.specs.Receipts.{ShareParts, IsRole, seat_of, reach_of}
use Rattle.plantreceipts.specs.Tokens.{Says}

-- its cells begin after the history at the start; its tally is that of its role; and the tally and the token say which
-- receipts it has, and how far they reach
pub record IsShare (start : Shown) (cells : List Named) (base reach : ℕ) (seat : ℕ × ℕ) (amount : ℕ)
    (newest : Option (OnceToken NotedPart)) (s : ShareParts) : Type 0 where
  pub known : IsRole start.plant s.role
  pub based : base ≡ length start.history
  pub seated : seat ≡ seat_of s.role
  pub says : Says (length start.history) cells amount newest reach s.reserved s.receipts
  pub last : reach ≡ reach_of s.receipts
