use Rattle.std.proofs.Common.{◌≡◌, ◌*◌, ◌-◌, ◌≤◌, length}
use Rattle.std.specs.List.{AllByRecursion}
use Rattle.ilcode.specs.Words.{HasWord}
use Rattle.ilcodefile.specs.Files.{word}
use Rattle.ilcodefile.proofs.Sections.{IsReadUpTo}
use Rattle.ilcodefile.proofs.reading.words.Given as goal

abbrev pub invariant-loop : goal.invariant-loop
invariant-loop l =
    record {
      read : IsReadUpTo word HasWord l.count l.bytes l.rest l.counter l.given.items;
      left : length l.rest ≡ 4 * (l.count - l.counter);
      within : l.counter ≤ l.count;
      fits : AllByRecursion HasWord l.given.items;
      long : length l.given.items ≡ l.counter;
    }
