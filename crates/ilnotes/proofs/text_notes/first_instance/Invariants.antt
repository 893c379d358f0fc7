use Rattle.std.proofs.Common.{ℕ, ◌<◌}
use Rattle.ilnotes.specs.Said.{IsInstanceAt}
use Rattle.ilnotes.proofs.text_notes.first_instance.Given as goal

abbrev pub invariant-loop-number : goal.invariant-loop-number
invariant-loop-number l = (k : ℕ) → k < l.number → ¬ IsInstanceAt l.text l.program l.instances k
