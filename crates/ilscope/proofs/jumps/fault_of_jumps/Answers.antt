use Rattle.std.proofs.Common.{arith}
use Rattle.ilscope.proofs.JumpFaults.{jumps_more, no_jump_before, all_jumps}
use Rattle.ilscope.proofs.jumps.fault_of_jumps.Goals as goal

pub loop-number-init : goal.loop-number-init
loop-number-init c = no_jump_before c.args.after c.args.scope.now.tree.text c.args.labels.now c.args.lines.now

pub loop-number-preserved : goal.loop-number-preserved
loop-number-preserved c =
    rw c.lesser_of-least.ensures
    (jumps_more c.args.after c.args.scope.now.tree.text c.args.labels.now c.args.lines.now c.loop-number.number
    c.index-lines-number.result
    c.loop-number-test.true c.index-lines-number.is c.loop-number.least c.fault_of_jump.result c.loop-number.invariant
    c.fault_of_jump.ensures)

pub returns : goal.returns
returns c =
    let past = c.loop-number-test.false in
    all_jumps c.args.scope.now.tree.text c.args.labels.now c.args.lines.now c.requires c.args.after c.loop-number.number
    (omega (arith, past)) c.loop-number.least c.loop-number.invariant
