use Rattle.std.proofs.Common.{◌∙◌, ◌++◌, ap, map}
use Rattle.ilsource.specs.Uses.{read_at}
use Rattle.ilsource.proofs.Grown.{all_seen, first_kept, grown, on_err}
use Rattle.ilsource.proofs.operands.Operands.push_uses.Goals as goal

pub returns-in_err-push_use-clause-first : goal.returns-in_err-push_use-clause-first
returns-in_err-push_use-clause-first g c =
    on_err c.from_residual.result
    (first_kept c.args.uses.now.items _ c.push_use.new.uses.items _ c.args.uses.now.ok.0
    (c.in_err-push_use.ensures.err ∙ c.loop-operand.invariant))

pub loop-operand-preserved : goal.loop-operand-preserved
loop-operand-preserved g c =
    grown (read_at c.args.at) c.args.uses.now.items c.loop-operand.uses.items c.push_use.new.uses.items
    c.as_slice-operand-items.result.now c.loop-operand.operand-index c.operand-item.result c.loop-operand-test.true
    c.operand-item.is c.loop-operand.invariant c.in_ok-push_use.ensures.ok

pub returns-clause-ok : goal.returns-clause-ok
returns-clause-ok g c =
    c.loop-operand.invariant
    ∙ ap (λ xs. c.args.uses.now.items ++ map (read_at c.args.at) xs)
    (all_seen c.as_slice-operand-items.result.now _ _ c.loop-operand-test.false c.as_slice-operand-items.ensures)
