use Rattle.std.proofs.Common.{List, ◌++◌, take}
use Rattle.ilsource.specs.declared.uses.Use.{Use}
use Rattle.ilsource.specs.declared.symbol.Symbol.{Symbol}
use Rattle.ilsyms.specs.CountingSteps.{AreCounted}
use Rattle.ilsyms.proofs.counting.Counted.add_uses.Given as goal

abbrev pub invariant-loop-used : goal.invariant-loop-used
invariant-loop-used l =
    (before : List (Use Symbol)) → AreCounted before l.initial.self.constants l.initial.self.excess
    → AreCounted (before ++ take l.used-index l.uses) l.self.constants l.self.excess
