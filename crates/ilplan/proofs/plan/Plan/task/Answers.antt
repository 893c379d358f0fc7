use Rattle.std.proofs.Common.{ap, subst}
use Rattle.ilplan.specs.Plans.{Planned, IsLawful}
use Rattle.ilplan.proofs.Declared.{firsts_typed, task_limits, task_of_plan, task_states, task_there}
use Rattle.ilplan.proofs.plan.Plan.task.Goals as goal

pub returns-clause-value : goal.returns-clause-value
returns-clause-value c =
    let tasks = ap (λ (p : Planned). p.tasks) c.self.view_is in
    task_there _ c.args.self.now.tasks c.args.task c.index.result.now tasks c.requires c.index.ensures

pub returns-clause-declared : goal.returns-clause-declared
returns-clause-declared c =
    let lawful = subst (λ (p : Planned). IsLawful p) c.self.view_is c.self.invariant in
    let there = returns-clause-value c in
    task_of_plan c.args.self.now c.args.task c.index.result.now lawful there

pub returns-clause-limits : goal.returns-clause-limits
returns-clause-limits c =
    let lawful = subst (λ (p : Planned). IsLawful p) c.self.view_is c.self.invariant in
    task_limits c.args.self.now c.args.task c.index.result.now lawful (returns-clause-value c)

pub returns-clause-states : goal.returns-clause-states
returns-clause-states c =
    let lawful = subst (λ (p : Planned). IsLawful p) c.self.view_is c.self.invariant in
    task_states c.args.self.now c.args.task c.index.result.now lawful (returns-clause-value c)

pub returns-clause-typed : goal.returns-clause-typed
returns-clause-typed c =
    let declared = returns-clause-declared c in
    firsts_typed c.args.self.now.globals c.index.result.now declared c.args.self.now.functions
    (returns-clause-limits c)
