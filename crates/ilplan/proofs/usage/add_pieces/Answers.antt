use Rattle.std.proofs.lemmas.List.{get_or_default}
use Rattle.ilsource.specs.Uses.{uses_of_piece}
use Rattle.ilplan.proofs.CallsAdded.{one_more_added}
use Rattle.ilplan.proofs.usage.add_pieces.Goals as goal

pub loop-piece-preserved : goal.loop-piece-preserved
loop-piece-preserved c =
    let pieces = c.args.pieces.now in
    let i = c.loop-piece.piece-index in
    one_more_added c.args.below uses_of_piece pieces i _ _ _ _ c.loop-piece-test.true
    (get_or_default pieces i _ _ c.loop-piece-test.true) c.loop-piece.invariant c.add_piece.ensures
