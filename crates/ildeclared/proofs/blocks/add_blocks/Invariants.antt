use Rattle.std.proofs.Common.{◌≡◌, ◌++◌, map, take}
use Rattle.ildeclared.specs.Declarations.{block}
use Rattle.ildeclared.proofs.blocks.add_blocks.Given as goal

abbrev pub invariant-loop-name : goal.invariant-loop-name
invariant-loop-name l = l.blocks.items ≡ l.fn.blocks.items ++ map (block l.fn.kind) (take l.name-index l.names)
