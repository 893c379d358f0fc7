use Rattle.std.proofs.Common.{◌≡◌, map, take}
use Rattle.ilverify.specs.Knowns.{known_of_type}
use Rattle.ilverify.proofs.slots.Slots.new.Given as goal

abbrev pub invariant-loop-declared : goal.invariant-loop-declared
invariant-loop-declared l = l.items.items ≡ map known_of_type (take l.declared-index l.types)
