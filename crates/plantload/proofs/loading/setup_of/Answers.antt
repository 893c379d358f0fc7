use Rattle.std.proofs.Common.{◌<◌, length, arith}
use Rattle.plantload.proofs.CodeLemmas.{one_code_more, code_fault}
use Rattle.plantload.proofs.loading.setup_of.Goals as goal

pub returns-in-Err-clause-fault : goal.returns-in-Err-clause-fault
returns-in-Err-clause-fault c =
    let turn = c.loop-task in
    let below : turn.task < length c.args.plan.tasks = omega (arith, c.loop-task-test.true, turn.invariant.1) in
    code_fault c.args.plan _ turn.task _ c.in-Err.error _ turn.invariant.0 below turn.invariant.2
    c.in-Err.ensures.error c.fault_of.ensures

pub loop-task-preserved : goal.loop-task-preserved
loop-task-preserved c =
    let turn = c.loop-task in
    let same = turn.invariant.0 in
    let below : turn.task < length c.args.plan.tasks = omega (arith, c.loop-task-test.true, turn.invariant.1) in
    let this = rw same at c.in-Ok.ensures.code in (
      same,
      turn.invariant.1,
      rw c.in_ok-push-in-Ok.ensures.items (one_code_more c.args.plan turn.task _ _ below turn.invariant.2 this),
    )
