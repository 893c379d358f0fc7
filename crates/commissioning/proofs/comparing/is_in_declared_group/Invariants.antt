use Rattle.std.proofs.Common.{◌≡◌, false, ◌&&◌}
use Rattle.commissioning.specs.Differences.{any_below, declares_group, is_in_group}
use Rattle.commissioning.proofs.comparing.is_in_declared_group.Given as goal

-- none so far
abbrev pub invariant-loop-group : goal.invariant-loop-group
invariant-loop-group l =
    any_below (λ group. declares_group l.declared.plan.now l.declared.bus group
    && is_in_group l.survey group l.address) l.group ≡ false
