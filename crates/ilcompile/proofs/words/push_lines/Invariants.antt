use Rattle.std.proofs.Common.{◌++◌, length, drop}
use Rattle.ilcompile.specs.Layout.{words_of_lines}
use Rattle.ilcompile.proofs.TwoPasses.{AreLeft}
use Rattle.ilcompile.proofs.words.push_lines.Given as goal

abbrev pub invariant-loop-line : goal.invariant-loop-line
invariant-loop-line l =
    AreLeft l.numbers l.end
    (l.initial.words.items ++ words_of_lines l.numbers l.end (length l.initial.words.items) l.lines)
    l.words.items l.targets.items (drop l.line-index l.lines)
