use Rattle.std.proofs.Common.{◌≡◌, drop}
use Rattle.std.specs.List.{list_any}
use Rattle.commissioning.specs.Differences.{is_at}
use Rattle.commissioning.proofs.declared.is_located.Given as goal

-- no variable so far is located there
abbrev pub invariant-loop-number : goal.invariant-loop-number
invariant-loop-number l =
    list_any (is_at l.place) (drop l.number l.plan.globals) ≡ list_any (is_at l.place) l.plan.globals
