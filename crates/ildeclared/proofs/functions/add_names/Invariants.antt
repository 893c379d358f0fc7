use Rattle.std.proofs.Common.{◌≡◌, ◌++◌, take}
use Rattle.std.specs.Prelude.{flat_map}
use Rattle.ildeclared.proofs.functions.add_names.Given as goal

abbrev pub invariant-loop-declaration : goal.invariant-loop-declaration
invariant-loop-declaration l =
    l.names.items ≡ l.fn.names.items ++ flat_map (λ d. d.names) (take l.declaration-index l.declarations)
