use Rattle.std.proofs.Common.{◌≡◌, ◌*◌, ◌-◌, ◌≤◌, length}
use Rattle.std.specs.Prelude.{⊤}
use Rattle.ilblocks.specs.declared.kind.BlockKind.{BlockKind}
use Rattle.ilcodefile.specs.Files.{block}
use Rattle.ilcodefile.proofs.Sections.{IsReadUpTo}
use Rattle.ilcodefile.proofs.reading.blocks.Given as goal

abbrev pub invariant-loop : goal.invariant-loop
invariant-loop l =
    record {
      read : IsReadUpTo block (λ (kind : BlockKind). ⊤) l.count l.bytes l.rest l.counter l.kinds.items;
      left : length l.rest ≡ 1 * (l.count - l.counter);
      within : l.counter ≤ l.count;
      long : length l.kinds.items ≡ l.counter;
    }
