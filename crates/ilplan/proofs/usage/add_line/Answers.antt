use Rattle.std.proofs.Common.{sym, ◌∙◌}
use Rattle.ilplan.proofs.CallsAdded.{callee_added, no_callee_added}
use Rattle.ilplan.proofs.usage.add_line.Goals as goal

pub returns-in-Some : goal.returns-in-Some
returns-in-Some c =
    callee_added c.args.below c.args.line.now c.in-Some.function c.args.used.now c.add_pieces.new.used c.add_place.new.used
    (sym c.in-Some.is ∙ c.callee_in.ensures) (rw c.pieces_in.ensures at c.add_pieces.ensures) c.add_place.ensures

pub returns-in-None : goal.returns-in-None
returns-in-None c =
    no_callee_added c.args.below c.args.line.now c.args.used.now c.add_pieces.new.used
    (sym c.in-None.is ∙ c.callee_in.ensures) (rw c.pieces_in.ensures at c.add_pieces.ensures)
