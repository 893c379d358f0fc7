use Rattle.std.proofs.Common.{ap}
use Rattle.ilmachine.specs.Scans.{Scan, store_of}
use Rattle.ilmachine.proofs.ScanStores.{parts_lasting}
use Rattle.ilmachine.proofs.scans.ScanResult.into_parts.Goals as goal

pub returns-clause-in_types : goal.returns-clause-in_types
returns-clause-in_types c =
    let f = c.self.inside in
    parts_lasting f.snapshot.verified (store_of f.snapshot) f.left f.steps c.into_lasting-row.result.0
    c.into_lasting-row.result.1.items c.args.self.snapshot.verified.code c.self.invariant
    c.into_lasting-row.ensures.values c.into_lasting-row.ensures.blocks
    (ap (λ (s : Scan). s.snapshot.verified.code) c.self.view_is)
