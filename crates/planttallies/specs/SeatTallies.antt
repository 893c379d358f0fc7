-- A thread's tally is seen as its seat, which is a group and a place there, and its amount.
use Rattle.std.specs.Prelude.{ℕ, List, [], slice_index, slice_index_or}
use Rattle.planttallies.specs.declared.all_groups.TallyByGroup.{TallyByGroup}
use Rattle.planttallies.specs.declared.all_groups.TallyByGroup.TheVariants.{G0, G1, G2, G3, G4, G5, G6, G7, G8}

-- what the lock's tallies say of a seat: the rows are the groups, each with the totals of its places
abbrev pub number : List (List ℕ) → ℕ × ℕ → ℕ
number rows seat = slice_index (slice_index_or rows seat.0 []) seat.1

-- what contracts see of a thread's tally
pub record SeatAmount : Type 0 where
  pub seat : ℕ × ℕ
  pub amount : ℕ

abbrev pub seat_of : {N : Type 0} → TallyByGroup N → ℕ × ℕ
seat_of (G0 t) = (0, t.0)
seat_of (G1 t) = (1, t.0)
seat_of (G2 t) = (2, t.0)
seat_of (G3 t) = (3, t.0)
seat_of (G4 t) = (4, t.0)
seat_of (G5 t) = (5, t.0)
seat_of (G6 t) = (6, t.0)
seat_of (G7 t) = (7, t.0)
seat_of (G8 t) = (8, t.0)

abbrev pub amount_of : {N : Type 0} → TallyByGroup N → ℕ
amount_of (G0 t) = t.1
amount_of (G1 t) = t.1
amount_of (G2 t) = t.1
amount_of (G3 t) = t.1
amount_of (G4 t) = t.1
amount_of (G5 t) = t.1
amount_of (G6 t) = t.1
amount_of (G7 t) = t.1
amount_of (G8 t) = t.1

abbrev pub seat_amount_of : {N : Type 0} → TallyByGroup N → SeatAmount
seat_amount_of h = record { seat = seat_of h; amount = amount_of h }
