use Rattle.std.proofs.Common.{◌++◌, Some, sym, ap, ◌∙◌, subst}
use Rattle.ilblocks.specs.Stores.{Store}
use Rattle.ilcode.specs.Listings.{Listing}
use Rattle.ilverify.specs.Verdicts.{Accepted}
use Rattle.ilmachine.specs.MachineSteps.{IsPrepared}
use Rattle.ilcode.specs.Lasting.{least_values}
use Rattle.ilmachine.proofs.ScanStores.{prepared_whole}
use Rattle.ilmachine.proofs.state.State.begin.Goals as goal

pub returns : goal.returns
returns c =
    let lasting = c.in_ok-lasting.lasting in
    let code = c.code-code.ensures.value ∙ ap (λ (v : Accepted). v.code) c.verified_code.ensures.value in
    subst (λ (s : Store). IsPrepared c.args.snapshot.now s (Some lasting)) (sym c.of-state-2.ensures)
    (prepared_whole c.args.snapshot.now c.in_ok-row.row lasting c.in_ok-lasting.blocks.items c.moment-2.result
    c.in_ok-lasting.ensures.values
    (c.in_ok-row.ensures ∙ ap (λ (of : Listing). lasting ++ least_values of) code)
    c.in_ok-lasting.ensures.blocks c.moment-2.ensures.value c.in_ok-lasting.ensures.in_types)
