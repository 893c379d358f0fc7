use Rattle.std.proofs.Common.{◌≡◌, [], ◌∷◌, ap, length, pos}
use Rattle.iltypes.specs.declared.value.Value.TheVariants as values
use Rattle.ilblocks.specs.Stores.{Store}
use Rattle.ilmachine.specs.Scans.{IsScan, store_of}
use Rattle.refusalscode.specs.Scans.{calling, no_blocks}
use Rattle.refusalscode.proofs.Results.{if_ok}
use Rattle.refusalscode.proofs.Scans.{scan_leaves, calling_ends}
use Rattle.refusalscode.proofs.machines.each_word_of_a_call_is_run.Goals as goal

pub returns : goal.returns
returns c =
    let snapshot = c.args.snapshot in
    if_ok (λ made. IsScan snapshot.verified (store_of snapshot) made.steps made.after) (λ made. made.steps ≡ 5) c.scan.result
    c.scan.ensures.run (λ made run.
    let is = scan_leaves calling (no_blocks 0) snapshot 5 _ (calling_ends snapshot.moment) c.requires.code c.requires.lasting
    made.steps made.after run in
    is.0)
