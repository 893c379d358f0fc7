use Rattle.std.proofs.Common.{ℕ, ◌<◌, slice_index_or}
use Rattle.commandoptions.specs.declared.expected_word.ExpectedWord.{ExpectedWord}
use Rattle.plantplay.specs.Expected.{IsKnown}
use Rattle.plantplay.proofs.meeting.are_known.Given as goal

abbrev pub invariant-loop-number : goal.invariant-loop-number
invariant-loop-number l = (k : ℕ) (d : ExpectedWord) → k < l.number → IsKnown l.plan (slice_index_or l.expected k d)
