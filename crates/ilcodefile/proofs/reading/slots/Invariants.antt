use Rattle.std.proofs.Common.{◌≡◌, ◌*◌, ◌-◌, ◌≤◌, length}
use Rattle.std.specs.List.{AllByRecursion}
use Rattle.ilcodefile.specs.Files.{FitsType}
use Rattle.ilcodefile.specs.Files.{slot}
use Rattle.ilcodefile.proofs.Sections.{IsReadUpTo}
use Rattle.ilcodefile.proofs.reading.slots.Given as goal

abbrev pub invariant-loop : goal.invariant-loop
invariant-loop l =
    record {
      read : IsReadUpTo slot FitsType l.count l.bytes l.rest l.counter l.types.items;
      left : length l.rest ≡ 24 * (l.count - l.counter);
      within : l.counter ≤ l.count;
      fits : AllByRecursion FitsType l.types.items;
      long : length l.types.items ≡ l.counter;
    }
