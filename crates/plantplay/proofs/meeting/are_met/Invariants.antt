use Rattle.std.proofs.Common.{ℕ, ◌<◌, slice_index_or}
use Rattle.commandoptions.specs.declared.expected_word.ExpectedWord.{ExpectedWord}
use Rattle.plantplay.specs.Expected.{IsMet}
use Rattle.plantplay.proofs.meeting.are_met.Given as goal

abbrev pub invariant-loop-number : goal.invariant-loop-number
invariant-loop-number l = (k : ℕ) (d : ExpectedWord) → k < l.number → IsMet l.plant (slice_index_or l.expected k d)
