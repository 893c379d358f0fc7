use Rattle.std.proofs.Common.{◌≡◌, ℕ, ◌<◌, length}
use Rattle.std.specs.Prelude.{slice_index_or}
use Rattle.plantbuses.proofs.bus.forget_levels.Given as goal

abbrev pub invariant-loop-a : goal.invariant-loop-a
invariant-loop-a l =
    (length l.levels.items ≡ length l.fn.levels.items)
    × ((a : ℕ) → a < l.a → slice_index_or l.levels.items a 255 ≡ 255)
