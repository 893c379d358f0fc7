use Rattle.std.proofs.Common.{◌∙◌, ◌++◌, ap, flat_map}
use Rattle.ilsource.specs.Uses.{uses_of_piece}
use Rattle.ilsource.proofs.Grown.{all_seen, first_kept, grown_by, on_err}
use Rattle.ilsource.proofs.nested.Nested.push_uses.Goals as goal

pub returns-in_err-push_uses-clause-first : goal.returns-in_err-push_uses-clause-first
returns-in_err-push_uses-clause-first g c =
    on_err c.from_residual.result
    (first_kept c.args.uses.now.items _ c.push_uses.new.uses.items _ c.args.uses.now.ok.0
    (c.in_err-push_uses.ensures.err ∙ c.loop-piece.invariant))

pub loop-piece-preserved : goal.loop-piece-preserved
loop-piece-preserved g c =
    grown_by uses_of_piece c.args.uses.now.items c.loop-piece.uses.items c.push_uses.new.uses.items
    c.pieces-piece-items.result.now c.loop-piece.piece-index c.piece-item.result c.loop-piece-test.true c.piece-item.is
    c.loop-piece.invariant c.in_ok-push_uses.ensures.ok

pub returns-clause-ok : goal.returns-clause-ok
returns-clause-ok g c =
    c.loop-piece.invariant
    ∙ ap (λ xs. c.args.uses.now.items ++ flat_map uses_of_piece xs)
    (all_seen c.pieces-piece-items.result.now _ _ c.loop-piece-test.false c.pieces-piece-items.ensures)
