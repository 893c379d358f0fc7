use Rattle.std.proofs.Common.{◌∙◌, ◌++◌, ap, flat_map}
use Rattle.ilsource.specs.Uses.{uses_of_argument}
use Rattle.ilsource.proofs.Grown.{all_seen, first_kept, further, grown_by, on_err}
use Rattle.ilsource.proofs.arguments.Arguments.push_uses.Goals as goal

pub returns-in_err-push_use-clause-first : goal.returns-in_err-push_use-clause-first
returns-in_err-push_use-clause-first g c =
    on_err c.from_residual.result
    (first_kept c.args.uses.now.items _ c.push_use.new.uses.items _ c.args.uses.now.ok.0
    (c.in_err-push_use.ensures.err ∙ c.loop-argument.invariant))

pub returns-in_err-push_use-2-clause-first : goal.returns-in_err-push_use-2-clause-first
returns-in_err-push_use-2-clause-first g c =
    on_err c.from_residual-in_err-push_use-2.result
    (first_kept c.args.uses.now.items _ c.push_use-in-loop-argument.new.uses.items _ c.args.uses.now.ok.0
    (c.in_err-push_use-2.ensures.err
    ∙ further c.args.uses.now.items c.loop-argument.uses.items c.push_use.new.uses.items _ _ c.loop-argument.invariant
    c.in_ok-push_use.ensures.ok))

pub loop-argument-preserved : goal.loop-argument-preserved
loop-argument-preserved g c =
    grown_by (uses_of_argument c.args.at) c.args.uses.now.items c.loop-argument.uses.items
    c.push_use-in-loop-argument.new.uses.items c.as_slice-argument-items.result.now c.loop-argument.argument-index
    c.argument-item.result c.loop-argument-test.true c.argument-item.is c.loop-argument.invariant
    (further c.loop-argument.uses.items c.push_use.new.uses.items c.push_use-in-loop-argument.new.uses.items _ _
    c.in_ok-push_use.ensures.ok c.in_ok-push_use-2.ensures.ok)

pub returns-clause-ok : goal.returns-clause-ok
returns-clause-ok g c =
    c.loop-argument.invariant
    ∙ ap (λ xs. c.args.uses.now.items ++ flat_map (uses_of_argument c.args.at) xs)
    (all_seen c.as_slice-argument-items.result.now _ _ c.loop-argument-test.false c.as_slice-argument-items.ensures)
