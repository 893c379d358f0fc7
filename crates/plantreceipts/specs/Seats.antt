-- The seats before the first event: the threads' tallies of those that are left, and the numbers of the others.
use Rattle.std.specs.Prelude.{◌≡◌, ℕ, ◌+◌, ◌<◌, List, length}
use Rattle.limits.specs.Limits.{most_seats}
use Rattle.plantevents.specs.declared.role.Role.{Role}
use Rattle.plant.specs.Shown.{Shown, is_reserved}
use Rattle.buslink.specs.Each.{Each}
use Rattle.plantreceipts.specs.Receipts.{IsRole, index_of, seat_of, seat_at}
use Rattle.plantreceipts.specs.Tokens.{one_if}

-- these are the tallies of the seats from the n-th to the last, in order, each without an amount
pub record AreUnused {T : Type 0} (seat : T → ℕ × ℕ) (amount : T → ℕ) (n : ℕ) (tallies : List T) : Type 0 where
  pub count : n + length tallies ≡ most_seats
  pub each : Each (λ k tally. (seat tally ≡ seat_at k) × (amount tally ≡ 0)) n tallies

-- the n-th of them is this tally, and these are left
pub record IsNextTally {T : Type 0} (seat : T → ℕ × ℕ) (amount : T → ℕ) (n : ℕ) (tally : T) (left : List T) : Type 0
  where
    pub seated : seat tally ≡ seat_at n
    pub unused : amount tally ≡ 0
    pub rest : AreUnused seat amount (n + 1) left

-- before the first event the numbers of the roles below the n-th seat say whether a place is kept back
abbrev pub AreCounted : Shown → (ℕ × ℕ → ℕ) → ℕ → Type 0
AreCounted start number n =
    (role : Role) → IsRole start.plant role → index_of role < n
    → number (seat_of role) ≡ one_if (is_reserved role start)
