use Rattle.std.proofs.Common.{◌≡◌}
use Rattle.livekeep.specs.KeptStates.{global_entries}
use Rattle.livekeep.proofs.KeptEntries.{kept_and_left}
use Rattle.livekeep.proofs.keep.kept_globals.Given as goal

abbrev pub invariant-loop-global : goal.invariant-loop-global
invariant-loop-global l =
    kept_and_left l.fn.plan.text l.fn.plan.globals l.fn.values l.global l.kept.items
    ≡ global_entries l.fn.plan.text l.fn.plan.globals l.fn.values
