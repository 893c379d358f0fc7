use Rattle.std.proofs.Common.{◌≡◌, ◌++◌, drop}
use Rattle.ilcodefile.specs.Files.{numbers}
use Rattle.ilcodefile.proofs.encoding.push_lines.Given as goal

-- the bytes so far, and those of what is left
abbrev pub invariant-loop-line : goal.invariant-loop-line
invariant-loop-line l =
    l.bytes.items ++ numbers (drop l.line-index l.given) ≡ l.initial.bytes.items ++ numbers l.given
