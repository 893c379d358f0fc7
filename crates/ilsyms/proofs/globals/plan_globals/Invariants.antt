use Rattle.std.proofs.Common.{◌≡◌, map, take}
use Rattle.ilscope.specs.Configured.{globals_of}
use Rattle.ilsyms.specs.Resolved.{planned_global}
use Rattle.ilsyms.proofs.globals.plan_globals.Given as goal

abbrev pub invariant-loop-global : goal.invariant-loop-global
invariant-loop-global l = l.globals.items ≡ map planned_global (take l.global-index (globals_of l.scope.tree))
