use Rattle.std.proofs.Common.{List, ◌++◌, length}
use Rattle.ilsource.specs.declared.uses.Use.{Use}
use Rattle.ilsource.specs.declared.symbol.Symbol.{Symbol}
use Rattle.ilsyms.specs.CountingSteps.{AreCounted}
use Rattle.ilsyms.proofs.MarkedFunctions.{so_far}
use Rattle.ilsyms.proofs.counting.Counted.add_functions.Given as goal

abbrev pub invariant-loop-is_used : goal.invariant-loop-is_used
invariant-loop-is_used l =
    (before : List (Use Symbol)) → AreCounted before l.initial.self.constants l.initial.self.excess
    → AreCounted (before ++ so_far (λ one. one.uses) l.used l.needs (length l.yielded)) l.self.constants l.self.excess
