use Rattle.std.proofs.Common.{ap, sym, ◌∙◌}
use Rattle.ilsyms.specs.FunctionSteps.{function_named}
use Rattle.ilsyms.proofs.TaskInstances.{no_more, one_more}
use Rattle.ilsyms.proofs.needs.functions_named.Goals as goal
use Rattle.ilsyms.proofs.needs.functions_named.Goals.{in-Some+in_ok-push, in_default}

pub loop-used-preserved : goal.loop-used-preserved
loop-used-preserved c =
    elim c.match-function_named.branch [
      | in-Some+in_ok-push w ↦
          one_more (function_named c.args.scope.now.tree) c.deref-used-items.result.now c.loop-used.used-index _
          c.loop-used-test.true c.loop-used.numbers.items c.match-function_named.numbers.items
          w.in-Some.number
          c.loop-used.invariant (sym c.function_named.ensures ∙ w.in-Some.is)
          (ap (λ v. v.items) w.numbers-is ∙ w.in_ok-push.ensures.items)
      | in_default w ↦
          no_more (function_named c.args.scope.now.tree) c.deref-used-items.result.now c.loop-used.used-index _
          c.loop-used-test.true c.loop-used.numbers.items c.match-function_named.numbers.items
          c.loop-used.invariant (sym c.function_named.ensures ∙ w.in_default.is)
          (ap (λ v. v.items) w.numbers-is)
    ]
