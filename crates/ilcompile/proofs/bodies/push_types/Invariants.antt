use Rattle.std.proofs.Common.{◌≡◌, ◌++◌}
use Rattle.std.specs.Prelude.{flat_map}
use Rattle.ilplan.specs.Functions.{function_types, those_in}
use Rattle.ilcompile.specs.LayoutSteps.{picked}
use Rattle.ilcompile.proofs.Picked.{left_from}
use Rattle.ilcompile.proofs.bodies.push_types.Given as goal

abbrev pub invariant-loop-index : goal.invariant-loop-index
invariant-loop-index l =
    l.types.items ++ flat_map function_types (those_in (left_from l.functions l.used l.index))
    ≡ l.initial.types.items ++ flat_map function_types (those_in (picked l.functions l.used))
