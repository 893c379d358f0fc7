-- What there is before anything was counted.
use Rattle.std.specs.Prelude.{ℕ, ◌/◌, ◌%◌, List, map}
use Rattle.std.specs.List.{range_with_len}
use Rattle.planttallies.specs.SeatTallies.{SeatAmount}

-- the thread's tally of the seat that is the k-th of all
abbrev pub fresh : ℕ → SeatAmount
fresh k = record { seat = (k / 9, k % 9); amount = 0 }

-- the threads' tallies of a group
abbrev pub fresh_group : ℕ → List SeatAmount
fresh_group g = map (λ k. record { seat = (g, k); amount = 0 }) (range_with_len 0 9)
