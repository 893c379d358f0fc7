use Rattle.std.proofs.Common.{◌≡◌, ◌∙◌, ◌++◌, ap, arith, replicate}
use Rattle.std.proofs.lemmas.List.{replicate-append-replicate}
use Rattle.ilsource.proofs.Grown.{first_kept, further, on_err}
use Rattle.ilsource.proofs.instruction.push_same.Goals as goal

pub loop-preserved : goal.loop-preserved
loop-preserved c =
    further c.args.places.now.items c.loop.places.items c.push.new.self.items _ _ c.loop.invariant
    c.in_ok-push.ensures.items
    ∙ ap (λ ys. c.args.places.now.items ++ ys) (replicate-append-replicate c.loop.counter 1 c.args.at)

pub returns-clause-ok : goal.returns-clause-ok
returns-clause-ok c =
    let all : c.loop.counter ≡ c.args.times = omega (arith, c.loop-test.false, c.loop.auto.counter-end) in
    c.loop.invariant ∙ ap (λ n. c.args.places.now.items ++ replicate n c.args.at) all

pub returns-in_err-push-clause-first : goal.returns-in_err-push-clause-first
returns-in_err-push-clause-first c =
    on_err c.from_residual.result
    (first_kept c.args.places.now.items _ c.push.new.self.items _ c.args.places.now.ok.0
    (c.in_err-push.ensures.items ∙ c.loop.invariant))
