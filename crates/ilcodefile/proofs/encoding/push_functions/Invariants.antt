use Rattle.std.proofs.Common.{◌≡◌, ◌++◌, drop}
use Rattle.ilcodefile.specs.Files.{functions}
use Rattle.ilcodefile.proofs.encoding.push_functions.Given as goal

-- the bytes so far, and those of what is left
abbrev pub invariant-loop-body : goal.invariant-loop-body
invariant-loop-body l =
    l.bytes.items ++ functions (drop l.body-index l.given) ≡ l.initial.bytes.items ++ functions l.given
