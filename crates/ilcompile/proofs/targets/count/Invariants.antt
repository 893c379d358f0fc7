use Rattle.std.proofs.Common.{◌≡◌, ◌+◌, drop}
use Rattle.ilsource.specs.Words.{words_of_lines}
use Rattle.ilcompile.proofs.targets.count.Given as goal

abbrev pub invariant-loop-line : goal.invariant-loop-line
invariant-loop-line l = l.number + words_of_lines (drop l.line-index l.lines) ≡ words_of_lines l.lines
