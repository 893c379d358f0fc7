use Rattle.std.proofs.Common.{◌≡◌, ◌++◌, drop}
use Rattle.ilcodefile.specs.Files.{blocks}
use Rattle.ilcodefile.proofs.encoding.push_blocks.Given as goal

-- the bytes so far, and those of what is left
abbrev pub invariant-loop-kind : goal.invariant-loop-kind
invariant-loop-kind l =
    l.bytes.items ++ blocks (drop l.kind-index l.kinds) ≡ l.initial.bytes.items ++ blocks l.kinds
