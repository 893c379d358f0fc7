use Rattle.std.proofs.Common.{◌∙◌, ◌++◌, List, ap}
use Rattle.std.proofs.lemmas.List.{take_all}
use Rattle.ilsource.specs.declared.nested.Piece.{Piece}
use Rattle.ilsource.specs.declared.symbol.Symbol.{Symbol}
use Rattle.ilscope.specs.CallSteps.{calls_ended}
use Rattle.ilscope.specs.declared.calls.FunctionCall.{FunctionCall}
use Rattle.ilscope.proofs.CallsRead.{calls_are_ended, counted_next, ended_next, few_next}
use Rattle.ilscope.proofs.calls.push_calls_in.Goals as goal

pub loop-piece-preserved : goal.loop-piece-preserved
loop-piece-preserved c =
    let i = c.loop-piece.piece-index in
    let pieces = c.pieces-piece-items.result.now in
    let before = c.loop-piece.invariant in
    record {
      ended =
          ended_next pieces i _ c.loop-piece-test.true c.loop-piece.given before.counted c.args.calls.now.items
          c.loop-piece.calls.items _ before.ended c.in_ok-push_ended.ensures;
      counted =
          counted_next pieces i _ c.loop-piece-test.true c.loop-piece.given before.counted _
          c.given_after-given.ensures;
      few = few_next c.loop-piece.given i _ _ before.few c.given_after-given.ensures;
    }

pub returns : goal.returns
returns c =
    let old = c.args.calls.now.items in
    let i = c.loop-piece.piece-index in
    c.loop-piece.invariant.ended
    ∙ ap (λ (ps : List (Piece Symbol)). old ++ calls_ended 0 ps)
    (take_all i c.pieces-piece-items.result.now c.loop-piece-test.false ∙ c.pieces-piece-items.ensures)
    ∙ ap (λ (cs : List FunctionCall). old ++ cs) (calls_are_ended c.args.nested.now 0)
