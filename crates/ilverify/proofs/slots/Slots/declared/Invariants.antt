use Rattle.std.proofs.Common.{◌≡◌, ◌≤◌, ◌⊎◌}
use Rattle.ilverify.specs.Rules.{reset}
use Rattle.ilverify.proofs.slots.Slots.declared.Given as goal

abbrev pub invariant-loop-slot : goal.invariant-loop-slot
invariant-loop-slot l = record {
  from : l.from ≤ l.slot;
  to : (l.slot ≡ l.from) ⊎ (l.slot ≤ l.to);
  is : l.slots ≡ reset l.from l.slot l.types l.self;
}
