use Rattle.std.proofs.Common.{ℕ, arith, refl, below_more}
use Rattle.textanswers.specs.Answered.{IsCalled}
use Rattle.textanswers.proofs.TaskNames.{called, uncalled}
use Rattle.textanswers.proofs.answers.task_number.Goals as goal

pub returns-then-eq_ignore_ascii_case : goal.returns-then-eq_ignore_ascii_case
returns-then-eq_ignore_ascii_case c =
    let plan = c.args.plan.now in
    let name = c.args.name.now in
    let alike = c.if-eq_ignore_ascii_case.ensures.test.0 refl in
    record {
      within = omega arith;
      is = called plan name c.task_name.result.now c.loop-task.task c.task_name.ensures.value alike;
      first = c.loop-task.invariant;
    }

pub loop-task-preserved : goal.loop-task-preserved
loop-task-preserved c =
    let plan = c.args.plan.now in
    let name = c.args.name.now in
    let alike = uncalled plan name c.task_name.result.now c.loop-task.task c.task_name.ensures.value in
    below_more (λ (k : ℕ). ¬ IsCalled plan name k) c.loop-task.task c.loop-task.invariant
    (λ h. let bad = c.if-eq_ignore_ascii_case.ensures.test.1 (alike h) in absurd (cc))
