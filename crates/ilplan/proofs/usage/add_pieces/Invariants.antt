use Rattle.std.proofs.Common.{take}
use Rattle.std.specs.Prelude.{flat_map}
use Rattle.ilsource.specs.Uses.{uses_of_piece}
use Rattle.ilplan.specs.Functions.{invokes}
use Rattle.ilplan.specs.UsageSteps.{AreAdded}
use Rattle.ilplan.proofs.usage.add_pieces.Given as goal

abbrev pub invariant-loop-piece : goal.invariant-loop-piece
invariant-loop-piece l =
    AreAdded l.below (invokes (flat_map uses_of_piece (take l.piece-index l.pieces))) l.initial.used l.used
