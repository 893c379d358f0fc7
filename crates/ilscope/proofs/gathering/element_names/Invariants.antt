use Rattle.std.proofs.Common.{◌≡◌, map, take}
use Rattle.ilscope.specs.Declarations.{name_of}
use Rattle.ilscope.proofs.gathering.element_names.Given as goal

abbrev pub invariant-loop-element : goal.invariant-loop-element
invariant-loop-element l = l.names.items ≡ map name_of (take l.element-index l.elements)
