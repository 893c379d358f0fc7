use Rattle.std.proofs.Common.{ℕ, ◌<◌}
use Rattle.ilnotes.specs.Planned.{IsAtSource}
use Rattle.ilnotes.proofs.planned.variable_of_source.Given as goal

abbrev pub invariant-loop-number : goal.invariant-loop-number
invariant-loop-number l = (k : ℕ) → k < l.number → ¬ IsAtSource l.plan l.bus l.source k
