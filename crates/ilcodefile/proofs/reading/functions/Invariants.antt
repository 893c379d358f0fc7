use Rattle.std.proofs.Common.{◌≡◌, ◌*◌, ◌-◌, ◌≤◌, length}
use Rattle.ilcodefile.specs.BodySteps.{IsSmall}
use Rattle.ilcodefile.specs.Files.{function}
use Rattle.ilcodefile.proofs.Sections.{IsReadUpTo}
use Rattle.ilcodefile.proofs.reading.functions.Given as goal

abbrev pub invariant-loop : goal.invariant-loop
invariant-loop l =
    record {
      read : IsReadUpTo function IsSmall l.count l.bytes l.rest l.counter l.bodies.items;
      left : length l.rest ≡ 16 * (l.count - l.counter);
      within : l.counter ≤ l.count;
      long : length l.bodies.items ≡ l.counter;
    }
