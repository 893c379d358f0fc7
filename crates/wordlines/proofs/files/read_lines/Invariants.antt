use Rattle.std.proofs.Common.{◌≤◌, ◌+◌, length}
use Rattle.wordlines.proofs.LineReading.{IsRead}
use Rattle.wordlines.proofs.files.read_lines.Given as goal

abbrev pub invariant-lines : goal.invariant-lines
invariant-lines g l =
    record {
      room : l.number + length l.rest ≤ 1 + length l.fn.bytes;
      read : IsRead g.S.LineState.rules l.fn.start l.fn.bytes l.rest l.state l.number;
    }

abbrev pub decreases-lines : goal.decreases-lines
decreases-lines g l = length l.rest
