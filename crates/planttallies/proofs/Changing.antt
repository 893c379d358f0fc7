-- What the lock's tallies are where a number is written anew.
use Rattle.std.proofs.Common.{◌≡◌, ◌∙◌, ℕ, List, [], ap}
use Rattle.std.proofs.lemmas.List.{set-get_or}
use Rattle.std.specs.Prelude.{slice_index_or, slice_set}
use Rattle.planttallies.specs.SeatTallies.{number}

-- the number that is there changes nothing
pub kept : (rows after : List (List ℕ)) (seat : ℕ × ℕ) (is : ℕ) → is ≡ number rows seat
    → after ≡ slice_set rows seat.0 (slice_set (slice_index_or rows seat.0 []) seat.1 is) → after ≡ rows
kept rows after seat is same e =
    let row = slice_index_or rows seat.0 [] in
    e
    ∙ ap (λ (n : ℕ). slice_set rows seat.0 (slice_set row seat.1 n)) same
    ∙ ap (λ (r : List ℕ). slice_set rows seat.0 r) (set-get_or row seat.1 0)
    ∙ set-get_or rows seat.0 []
