use Rattle.std.proofs.Common.{◌≡◌, ℕ, ◌*◌, ◌-◌, ◌≤◌, ◌<◌, ◌^◌, length}
use Rattle.std.specs.List.{AllByRecursion}
use Rattle.ilcodefile.specs.Files.{number}
use Rattle.ilcodefile.proofs.Sections.{IsReadUpTo}
use Rattle.ilcodefile.proofs.reading.numbers.Given as goal

abbrev pub invariant-loop : goal.invariant-loop
invariant-loop l =
    record {
      read : IsReadUpTo number (λ (n : ℕ). n < 2 ^ 32) l.count l.bytes l.rest l.counter l.given.items;
      left : length l.rest ≡ 4 * (l.count - l.counter);
      within : l.counter ≤ l.count;
      fits : AllByRecursion (λ (n : ℕ). n < 2 ^ 32) l.given.items;
      long : length l.given.items ≡ l.counter;
    }
