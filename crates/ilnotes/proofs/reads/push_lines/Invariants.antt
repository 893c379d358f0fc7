use Rattle.std.proofs.Common.{◌≡◌, ◌++◌, flat_map, take}
use Rattle.ilsource.specs.Uses.{uses_in}
use Rattle.ilnotes.proofs.reads.push_lines.Given as goal

abbrev pub invariant-loop-line : goal.invariant-loop-line
invariant-loop-line l = l.uses.items ≡ l.initial.uses.items ++ flat_map uses_in (take l.line-index l.lines)
