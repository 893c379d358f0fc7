use Rattle.std.proofs.Common.{◌≡◌, ◌≤◌, [], take}
use Rattle.std.specs.Prelude.{All}
use Rattle.ilplan.specs.Functions.{depths_from}
use Rattle.ilsyms.specs.Resolved.{planned_functions}
use Rattle.ilsyms.proofs.usage.depths.Given as goal

abbrev pub invariant-loop-one : goal.invariant-loop-one
invariant-loop-one l =
    record {
      depths : l.depths.items ≡ depths_from [] (take l.one-index (planned_functions l.fn.scope.tree));
      low : All (λ depth. depth ≤ l.one-index) l.depths.items;
    }
