use Rattle.std.proofs.Common.{◌≡◌, [], map, take}
use Rattle.ilplan.specs.Plans.{AreFunctions}
use Rattle.ilscope.specs.Declarations.{declared_functions}
use Rattle.ilsyms.specs.Resolved.{planned_function}
use Rattle.ilsyms.proofs.functions.plan_functions.Given as goal

abbrev pub invariant-loop-number : goal.invariant-loop-number
invariant-loop-number l =
    record {
      functions : l.functions.items
          ≡ map (planned_function l.fn.scope.tree) (take l.number (declared_functions l.fn.scope.tree));
      lawful : AreFunctions [] l.functions.items;
    }
