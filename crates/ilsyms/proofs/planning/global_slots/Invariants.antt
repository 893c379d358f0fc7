use Rattle.ilsyms.proofs.NumberingGlobals.{AreFrom}
use Rattle.ilsyms.proofs.planning.global_slots.Given as goal

abbrev pub invariant-loop-number : goal.invariant-loop-number
invariant-loop-number l = AreFrom l.slots l.number l.globals l.numbers.items
