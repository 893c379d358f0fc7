use Rattle.std.proofs.Common.{ℕ, ◌<◌, ◌≡◌, Some}
use Rattle.std.specs.Prelude.{slice_get}
use Rattle.ilverify.specs.declared.known.Known.{Known}
use Rattle.ilverify.specs.Knowns.{IsKnownWithin}
use Rattle.ilverify.proofs.joins.are_within.Given as goal

abbrev pub invariant-loop-i : goal.invariant-loop-i
invariant-loop-i l =
    (k : ℕ) (a b : Known) → k < l.i → slice_get l.knowns k ≡ Some a → slice_get l.wider k ≡ Some b → IsKnownWithin a b
