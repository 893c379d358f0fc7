use Rattle.std.proofs.Common.{◌≡◌, ◌*◌, ◌-◌, ◌≤◌, length}
use Rattle.std.specs.List.{AllByRecursion}
use Rattle.ilcodefile.specs.Files.{FitsValue}
use Rattle.ilcodefile.specs.Files.{constant}
use Rattle.ilcodefile.proofs.Sections.{IsReadUpTo}
use Rattle.ilcodefile.proofs.reading.constants.Given as goal

abbrev pub invariant-loop : goal.invariant-loop
invariant-loop l =
    record {
      read : IsReadUpTo constant FitsValue l.count l.bytes l.rest l.counter l.values.items;
      left : length l.rest ≡ 16 * (l.count - l.counter);
      within : l.counter ≤ l.count;
      fits : AllByRecursion FitsValue l.values.items;
      long : length l.values.items ≡ l.counter;
    }
