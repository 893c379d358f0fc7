use Rattle.std.proofs.Common.{◌∙◌, ◌++◌, ap, map}
use Rattle.ilsource.specs.Words.{place_of}
use Rattle.ilsource.proofs.Grown.{all_seen, first_kept, grown, on_err}
use Rattle.ilsource.proofs.nested.Nested.push_places.Goals as goal

pub returns-in_err-push-clause-first : goal.returns-in_err-push-clause-first
returns-in_err-push-clause-first g c =
    on_err c.from_residual.result
    (first_kept c.args.places.now.items _ c.push.new.self.items _ c.args.places.now.ok.0
    (c.in_err-push.ensures.items ∙ c.loop-piece.invariant))

pub loop-piece-preserved : goal.loop-piece-preserved
loop-piece-preserved g c =
    grown place_of c.args.places.now.items c.loop-piece.places.items c.push.new.self.items
    c.pieces-piece-items.result.now c.loop-piece.piece-index c.piece-item.result c.loop-piece-test.true c.piece-item.is
    c.loop-piece.invariant c.in_ok-push.ensures.items

pub returns-clause-ok : goal.returns-clause-ok
returns-clause-ok g c =
    c.loop-piece.invariant
    ∙ ap (λ xs. c.args.places.now.items ++ map place_of xs)
    (all_seen c.pieces-piece-items.result.now _ _ c.loop-piece-test.false c.pieces-piece-items.ensures)
