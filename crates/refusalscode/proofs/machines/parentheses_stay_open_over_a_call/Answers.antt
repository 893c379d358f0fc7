use Rattle.std.proofs.Common.{◌≡◌, [], ◌∷◌, ap, length, pos}
use Rattle.iltypes.specs.declared.value.Value.TheVariants as values
use Rattle.ilblocks.specs.Stores.{Store}
use Rattle.ilmachine.specs.Scans.{IsScan, store_of}
use Rattle.refusalscode.specs.Scans.{calling_inside, no_blocks}
use Rattle.refusalscode.proofs.Results.{if_ok}
use Rattle.refusalscode.proofs.Scans.{scan_leaves, inside_ends}
use Rattle.refusalscode.proofs.machines.parentheses_stay_open_over_a_call.Goals as goal

pub returns : goal.returns
returns c =
    let snapshot = c.args.snapshot in
    if_ok (λ made. IsScan snapshot.verified (store_of snapshot) made.steps made.after) (λ made. made.after.slots ≡ values.Int (pos 100) ∷ []) c.scan.result
    c.scan.ensures.run (λ made run.
    let is = scan_leaves calling_inside (no_blocks 0) snapshot 8 _ (inside_ends snapshot.moment) c.requires.code c.requires.lasting
    made.steps made.after run in
    ap (λ (s : Store). s.slots) is.1)
