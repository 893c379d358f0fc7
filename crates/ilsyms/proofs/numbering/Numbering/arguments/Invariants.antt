use Rattle.std.proofs.Common.{◌≡◌, map, take}
use Rattle.ilsource.specs.Renaming.{rename_argument}
use Rattle.ilsyms.specs.NumberingSteps.{numbers}
use Rattle.ilsyms.proofs.numbering.Numbering.arguments.Given as goal

abbrev pub invariant-loop-argument : goal.invariant-loop-argument
invariant-loop-argument l =
    l.renamed.items ≡ map (rename_argument (numbers l.self)) (take l.argument-index l.arguments)
