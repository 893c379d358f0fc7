use Rattle.std.proofs.Common.{subst, ap, ◌∙◌}
use Rattle.ilverify.specs.Verdicts.{Accepted}
use Rattle.ilmachine.specs.Scans.{IsScan, Task, store_of}
use Rattle.ilmachine.proofs.ScanStores.{made_scan}
use Rattle.ilmachine.proofs.scans.scan_into.Goals as goal

pub invariant_of-result : goal.invariant_of-result
invariant_of-result c =
    let w = c.work.inside in
    let code = c.code.ensures.value ∙ ap (λ (a : Accepted). a.code) c.verified_code.ensures.value in
    made_scan w.snapshot w.state c.run-steps.new.state c.end-left.result w.room c.run-steps.result
    c.prepared_code.result.now
    c.code.result.now c.work.invariant c.prepared_code.ensures.value code c.run-steps.ensures c.end-left.ensures

pub returns-clause-run : goal.returns-clause-run
returns-clause-run c =
    let w = c.work.inside in
    let code = c.code.ensures.value ∙ ap (λ (a : Accepted). a.code) c.verified_code.ensures.value in
    subst (λ (t : Task). IsScan t.snapshot.verified (store_of t.snapshot) c.run-steps.result c.end-left.result)
    c.work.view_is
    (made_scan w.snapshot w.state c.run-steps.new.state c.end-left.result w.room c.run-steps.result
    c.prepared_code.result.now c.code.result.now c.work.invariant c.prepared_code.ensures.value code c.run-steps.ensures
    c.end-left.ensures)
