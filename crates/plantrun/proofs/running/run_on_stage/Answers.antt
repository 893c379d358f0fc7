use Rattle.std.proofs.Common.{◌≡◌, ◌∙◌, List, All, ap, refl, subst, sym}
use Rattle.wordlines.specs.declared.statements.Statement.{Statement}
use Rattle.ilplan.specs.Plans.{Planned}
use Rattle.simbus.specs.ScriptedTicks.{ScriptedTicks}
use Rattle.simbus.specs.Simulated.{Simulated}
use Rattle.simbus.specs.Staged.{IsOnStage}
use Rattle.plantplay.specs.Installations.{sim_log}
use Rattle.workers.specs.Runs.{HasRun}
use Rattle.plantrun.specs.Runs.{buses_of, clock_of, tick_log}
use Rattle.plantrun.proofs.Buses.{as_many, buses_are, not_opened}
use Rattle.plantrun.proofs.Lefts.{is_run}
use Rattle.plantrun.proofs.OffStage.{run_off_stage}
use Rattle.plantrun.proofs.running.run_on_stage.Goals as goal

pub returns-in-Ok-clause-run : goal.returns-in-Ok-clause-run
returns-in-Ok-clause-run g c =
    let setup = c.args.setup in let scenario = c.args.scenario.now in let workers = c.args.workers in
    let limit = c.args.limit in let staged = c.in-Ok.left in let left = c.off_stage.result in
    let off = c.off_stage.ensures in let clock = c.in_ok-clock in let cast = c.in_ok-buses in
    let counted : c.buses.result ≡ setup.plan.buses =
    c.buses.ensures.value ∙ ap (λ (p : Planned). p.buses) c.plan.ensures.value in
    let buses = buses_are setup scenario c.buses.result cast.field-0.buses.items cast.ensures.buses counted in
    let stage : All (IsOnStage scenario) left.buses.items =
    subst (λ (x : List Statement). All (IsOnStage x) left.buses.items) (sym c.requires.scene) off.stage in
    let run : HasRun setup workers limit (buses_of scenario setup.plan.buses) (clock_of scenario) sim_log tick_log left =
    subst (λ (on : List Simulated). HasRun setup workers limit on (clock_of scenario) sim_log tick_log left) buses
    (subst (λ (by : ScriptedTicks). HasRun setup workers limit cast.field-0.buses.items by sim_log tick_log left)
    clock.ensures
    (run_off_stage staged left off.plant off.buses off.clock off.ended setup workers limit
    cast.field-0.buses.items clock.clock c.in-Ok.ensures.run)) in
    is_run setup scenario workers limit left run stage off.happened off.script

pub returns-in-Err-clause-fault : goal.returns-in-Err-clause-fault
returns-in-Err-clause-fault g c =
    let setup = c.args.setup in let cast = c.in_ok-buses in
    let buses : c.buses.result ≡ setup.plan.buses =
    c.buses.ensures.value ∙ ap (λ (p : Planned). p.buses) c.plan.ensures.value in
    not_opened setup c.args.workers _ c.args.limit c.in-Err.refused.fault
    (as_many c.args.scenario.now c.buses.result _ cast.field-0.buses.items cast.ensures.buses refl ∙ buses)
    c.in-Err.ensures.run.fault
