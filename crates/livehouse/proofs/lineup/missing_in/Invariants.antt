use Rattle.std.specs.Prelude.{ℕ, ◌<◌}
use Rattle.livehouse.specs.Lineups.{HasLine}
use Rattle.livehouse.proofs.lineup.missing_in.Given as goal

abbrev pub invariant-loop-bus : goal.invariant-loop-bus
invariant-loop-bus l = (k : ℕ) → k < l.bus → HasLine k l.words
