use Rattle.std.proofs.Common.{◌≡◌, false}
use Rattle.commissioning.specs.Differences.{any_below, is_in_group}
use Rattle.commissioning.proofs.comparing.has_gear_in.Given as goal

-- none so far
abbrev pub invariant-loop-number : goal.invariant-loop-number
invariant-loop-number l =
    any_below (is_in_group l.survey l.group) l.number ≡ false
