-- What the lock knows of each role: the Share of the role knows the same.
use Rattle.std.specs.Prelude.{◌≡◌, ℕ, ◌+◌, ◌<◌, ◌≤◌, ⊤, List, ◌++◌, length, Option, None, slice_index_or}
use Rattle.limits.specs.Limits.{most_seats}
use Rattle.std.specs.Sync.OnceLock.{Named}
use Rattle.std.specs.declared.sync.OnceToken.{OnceToken}
use Rattle.plantevents.specs.declared.role.Role.{Role}
use Rattle.plantevents.specs.declared.role.Role.TheVariants.{Worker, Bus, Clock}
use Rattle.plantevents.specs.declared.event.Event.{Event}
use Rattle.plantevents.specs.Parts.{Placed, part}
use Rattle.plant.specs.Shown.{Shown, is_reserved}
use Rattle.plantreceipts.specs.declared.receipt.NotedPart.{NotedPart}
use Rattle.plantreceipts.specs.Receipts.{ShareParts, IsRole, index_of, seat_of, whole}
use Rattle.plantreceipts.specs.Tokens.{Says}

-- the number of a role, and the token of its newest cell, say: its receipts are those of its events since the start,
-- and whether a place is kept back for it
pub record IsTied (cells : List Named) (start p : Shown) (number : ℕ × ℕ → ℕ)
    (tokens : List (Option (OnceToken NotedPart))) (role : Role) : Type 0 where
  pub reach : ℕ
  pub receipts : List Placed
  pub says : Says (length start.history) cells (number (seat_of role)) (slice_index_or tokens (index_of role) None)
      reach (is_reserved role p) receipts
  pub since : receipts ++ part role start.history ≡ part role p.history
  pub below : reach ≤ length p.history

-- the history at the start is a front of this one
pub record IsFront (start h : List Event) : Type 0 where
  pub later : List Event
  pub is : h ≡ later ++ start

-- what the lock keeps beside the plant; for each event after those at the start, up to the limit, there is a cell
pub record AreTied (cells : List Named) (start p : Shown) (number : ℕ × ℕ → ℕ)
    (tokens : List (Option (OnceToken NotedPart))) : Type 0 where
  pub same_plant : p.plant ≡ start.plant
  pub same_limit : p.limit ≡ start.limit
  pub front : IsFront start.history p.history
  pub enough : p.limit ≤ length start.history + length cells
  pub slots : length tokens ≡ most_seats
  pub each : (role : Role) → IsRole start.plant role → IsTied cells start p number tokens role

-- what a Share had before its receipts, and what it has now, are its role's parts of these histories
pub record IsMet (start : List Event) (s : ShareParts) (h : List Event) : Type 0 where
  pub before : s.before ≡ part s.role start
  pub now : whole s ≡ part s.role h

-- a place can be kept back for the role: for no scan worker
abbrev pub HasPlace : Role → Shown → Type 0
HasPlace Clock p = ⊤
HasPlace (Bus b) p = b < length p.reserved.buses
HasPlace (Worker w) p = ⊥
