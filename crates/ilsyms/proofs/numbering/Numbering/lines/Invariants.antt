use Rattle.std.proofs.Common.{◌≡◌, map, take}
use Rattle.ilsource.specs.Renaming.{rename_line}
use Rattle.ilsyms.specs.NumberingSteps.{label_of, numbers}
use Rattle.ilsyms.proofs.numbering.Numbering.lines.Given as goal

abbrev pub invariant-loop-line : goal.invariant-loop-line
invariant-loop-line l =
    l.renamed.items ≡ map (rename_line (numbers l.self) (label_of l.self)) (take l.line-index l.lines)
