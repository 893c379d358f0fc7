use Rattle.std.proofs.Common.{All, List, ap, subst, sym}
use Rattle.simbus.specs.Simulated.{Simulated}
use Rattle.simbus.specs.Staged.{IsOnStage}
use Rattle.plantrun.proofs.staging.off_stage.Goals as goal

pub returns-clause-stage : goal.returns-clause-stage
returns-clause-stage g c =
    subst (λ (xs : List Simulated). All (IsOnStage g.S.Scene.statements) xs)
    (sym (ap (λ buses. buses.items) c.with_buses.ensures.buses)) c.buses_off_stage.ensures.stage
