use Rattle.std.proofs.Common.{◌≡◌, ◌++◌, drop}
use Rattle.ilcodefile.specs.Files.{numbers}
use Rattle.ilcodefile.proofs.encoding.push_starts.Given as goal

-- the bytes so far, and those of what is left
abbrev pub invariant-loop-number : goal.invariant-loop-number
invariant-loop-number l =
    l.bytes.items ++ numbers (drop l.number-index l.given) ≡ l.initial.bytes.items ++ numbers l.given
