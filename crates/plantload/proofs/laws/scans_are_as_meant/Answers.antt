use Rattle.std.proofs.Common.{◌∙◌}
use Rattle.ilsyms.proofs.SameMeaning.{means_the_same}
use Rattle.plantload.proofs.MeantScans.{own_tasks, scans_meant}
use Rattle.plantload.proofs.laws.scans_are_as_meant.Goals as goal

pub returns : goal.returns
returns c = λ wiring bytes setup loaded p h same legal.
    scans_meant p loaded.plan.tree wiring
    (own_tasks p.plan loaded.plan.tree wiring means_the_same (same ∙ loaded.plan.resolved)) h legal
