use Rattle.std.proofs.Common.{◌∙◌, List, ap}
use Rattle.livekeep.specs.KeptFiles.{KeptEntry}
use Rattle.livekeep.specs.KeptPlans.{begun_plan}
use Rattle.livereturns.proofs.GoingOn.{may_come_back}
use Rattle.livereturns.proofs.laws.a_house_goes_on.Goals as goal

pub returns : goal.returns
returns c = λ p h tasks kept written may.
    ap (λ (entries : List KeptEntry). begun_plan entries p.plan) written.entries
    ∙ c.entries_come_back.ensures p.plan written.globals tasks (may_come_back p h written.globals tasks may)
