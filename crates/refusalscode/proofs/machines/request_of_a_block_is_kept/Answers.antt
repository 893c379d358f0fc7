use Rattle.std.proofs.Common.{◌≡◌, [], ◌∷◌, ap, length, pos}
use Rattle.iltypes.specs.declared.value.Value.TheVariants as values
use Rattle.ilblocks.specs.Stores.{Store}
use Rattle.ilmachine.specs.Scans.{IsScan, store_of}
use Rattle.refusalscode.specs.Scans.{requesting, one_block}
use Rattle.refusalscode.proofs.Results.{if_ok}
use Rattle.refusalscode.proofs.Scans.{scan_leaves, requesting_ends}
use Rattle.refusalscode.proofs.machines.request_of_a_block_is_kept.Goals as goal

pub returns : goal.returns
returns c =
    let snapshot = c.args.snapshot in
    if_ok (λ made. IsScan snapshot.verified (store_of snapshot) made.steps made.after) (λ made. length made.after.requests ≡ 1) c.scan.result
    c.scan.ensures.run (λ made run.
    let is = scan_leaves requesting one_block snapshot 2 _ (requesting_ends snapshot.moment) c.requires.code c.requires.lasting
    made.steps made.after run in
    ap (λ (s : Store). length s.requests) is.1)
