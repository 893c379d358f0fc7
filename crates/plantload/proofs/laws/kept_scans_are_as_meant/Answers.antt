use Rattle.std.proofs.Common.{◌∙◌}
use Rattle.ilsyms.proofs.SameMeaning.{means_the_same}
use Rattle.plantload.proofs.MeantScans.{kept_tasks, scans_meant}
use Rattle.plantload.proofs.laws.kept_scans_are_as_meant.Goals as goal

pub returns : goal.returns
returns c = λ wiring bytes kept setup loaded p h same legal.
    scans_meant p loaded.plan.tree wiring
    (kept_tasks kept loaded.own p.plan loaded.plan.tree wiring means_the_same loaded.plan.resolved
    (same ∙ loaded.begins)) h legal
