use Rattle.std.proofs.Common.{◌≡◌, ◌++◌, flat_map, take}
use Rattle.ilsource.specs.Uses.{uses_of_argument}
use Rattle.ilsource.proofs.arguments.Arguments.push_uses.Given as goal

-- the uses of the arguments so far
abbrev pub invariant-loop-argument : goal.invariant-loop-argument
invariant-loop-argument g l =
    l.uses.items ≡ l.fn.uses.items ++ flat_map (uses_of_argument l.at) (take l.argument-index l.argument-items)
