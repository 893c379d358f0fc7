use Rattle.std.proofs.Common.{◌≡◌, ◌++◌, map, take}
use Rattle.ildeclared.specs.Globals.{global}
use Rattle.ildeclared.proofs.globals.add_globals.Given as goal

abbrev pub invariant-loop-name : goal.invariant-loop-name
invariant-loop-name l =
    l.globals.items ≡ l.fn.globals.items ++ map (global l.fn.address l.fn.declared) (take l.name-index l.names)
