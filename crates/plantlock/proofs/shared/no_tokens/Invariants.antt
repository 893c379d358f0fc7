use Rattle.std.proofs.Common.{◌≡◌, ℕ, ◌<◌, length, None, slice_index_or}
use Rattle.plantlock.proofs.shared.no_tokens.Given as goal

abbrev pub invariant-loop-seat : goal.invariant-loop-seat
invariant-loop-seat l =
    (length l.tokens.items ≡ l._seat) × ((k : ℕ) → k < l._seat → slice_index_or l.tokens.items k None ≡ None)
