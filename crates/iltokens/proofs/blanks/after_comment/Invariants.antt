use Rattle.std.proofs.Common.{◌≡◌, length}
use Rattle.iltokens.specs.BlankSteps.{after_comment}
use Rattle.iltokens.proofs.blanks.after_comment.Given as goal

abbrev pub invariant-inside : goal.invariant-inside
invariant-inside l = after_comment l.rest ≡ after_comment l.bytes

abbrev pub decreases-inside : goal.decreases-inside
decreases-inside l = length l.rest
