use Rattle.std.proofs.Common.{◌∙◌, subst}
use Rattle.std.specs.Prelude.{IfErr, OnOk}
use Rattle.wordlines.specs.Wirings.{Wiring}
use Rattle.ilsource.specs.SourceTrees.{Tree}
use Rattle.ilscope.specs.Reports.{IsMemoryOrReportsLeast}
use Rattle.ilsyms.specs.Faults.{IsFault, IsWellNamed}
use Rattle.ilsyms.specs.Resolved.{plan_of_tree}
use Rattle.ilsyms.proofs.PlanTasks.{if_ok}
use Rattle.ilsyms.proofs.resolving.resolved.Goals as goal

pub returns-clause-plan : goal.returns-clause-plan
returns-clause-plan c =
    let tree = c.in_ok-scope.ensures.tree in
    let wiring = c.in_ok-scope.ensures.wiring in
    if_ok c.plan_in_scope.result _ _ (λ plan e. e ∙ (λ i. plan_of_tree (tree i) (wiring i)))
    c.plan_in_scope.ensures.plan

pub returns-clause-named : goal.returns-clause-named
returns-clause-named c =
    subst (λ (w : Wiring). OnOk c.plan_in_scope.result (IsWellNamed c.args.source.now w)) c.in_ok-scope.ensures.wiring
    (subst (λ (t : Tree). OnOk c.plan_in_scope.result (IsWellNamed t c.in_ok-scope.scope.wiring))
    c.in_ok-scope.ensures.tree
    c.plan_in_scope.ensures.named)

pub returns-clause-fault : goal.returns-clause-fault
returns-clause-fault c =
    subst
    (λ (w : Wiring). IfErr c.plan_in_scope.result
    (λ fault. IsMemoryOrReportsLeast c.args.source.now.text (IsFault c.args.source.now w) fault))
    c.in_ok-scope.ensures.wiring
    (subst
    (λ (t : Tree). IfErr c.plan_in_scope.result
    (λ fault. IsMemoryOrReportsLeast t.text (IsFault t c.in_ok-scope.scope.wiring) fault))
    c.in_ok-scope.ensures.tree c.plan_in_scope.ensures.fault)
