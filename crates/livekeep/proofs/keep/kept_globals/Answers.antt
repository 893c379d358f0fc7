use Rattle.std.proofs.Common.{rules, ◌<◌, length}
use Rattle.std.proofs.lemmas.Option.{get_or_from_slice_get, slice_get-get_or}
use Rattle.livekeep.proofs.KeptEntries.{one_kept}
use Rattle.livekeep.proofs.keep.kept_globals.Goals as goal

pub loop-global-preserved : goal.loop-global-preserved
loop-global-preserved c =
    let plan = c.args.plan.now in
    let values = c.args.values.now in
    let number = c.loop-global.global in
    let few : number < length plan.globals = search rules in
    let within : number < length values = search rules in
    one_kept plan.text plan.globals values number _ _ _ _ few within
    (get_or_from_slice_get values number _ _ (slice_get-get_or values number _ within)) c.in_ok-keep.ensures
    c.loop-global.invariant
