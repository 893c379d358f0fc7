use Rattle.std.proofs.Common.{◌<◌, length, get_or, arith}
use Rattle.std.proofs.lemmas.List.{get_or_default}
use Rattle.ilsyms.proofs.TaskSets.{added_more}
use Rattle.ilsyms.proofs.task_sets.add_tasks.Goals as goal

pub loop-number-preserved : goal.loop-number-preserved
loop-number-preserved c =
    let numbers = c.args.numbers.now in
    let i = c.loop-number.number-index in
    let n = get_or numbers i 0 in
    let below : n < length c.args.sets.now = c.requires i 0 c.loop-number-test.true in
    let there : n < length c.loop-number.sets = omega (arith, below) in
    added_more c.loop-number.sets c.args.sets.now numbers i n c.args.tasks _ c.union.result c.loop-number-test.true
    (get_or_default numbers i 0 n c.loop-number-test.true) there c.union.ensures c.loop-number.invariant
