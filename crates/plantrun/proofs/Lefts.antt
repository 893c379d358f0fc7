-- What a run on the buses of a scenario leaves follows the scenario.
use Rattle.std.proofs.Common.{◌≡◌, ◌≢◌, ◌∙◌, ap, sym, subst, ℕ, zero, suc, ◌+◌, ◌<◌, List, ◌∷◌, [], length, map, All}
use Rattle.std.proofs.Common.{Some, refl, arith, eqb, ⊎_elim, true, false}
use Rattle.std.specs.Prelude.{slice_get}
use Rattle.std.proofs.lemmas.Bool.Decides.{eqb_tells}
use Rattle.std.proofs.lemmas.Option.{slice_get_within}
use Rattle.buslink.specs.BusLog.{BusLog}
use Rattle.buslink.specs.Each.{Each}
use Rattle.wordlines.specs.declared.statements.Statement.{Statement}
use Rattle.simbus.specs.Simulated.{IsAsSetUp, Simulated, all_arrived}
use Rattle.simbus.specs.ScriptedTicks.{IsByScript, ScriptedTicks}
use Rattle.simbus.specs.Staged.{IsOnStage, bus_of}
use Rattle.ilcompile.specs.Loaded.{Loaded}
use Rattle.plantevents.specs.Histories.{heard_in, is_down}
use Rattle.plantevents.specs.Plants.{Plant}
use Rattle.workers.specs.Links.{IsLinked, log_of, no_frame}
use Rattle.workers.specs.Quiet.{HasNoFrame}
use Rattle.workers.specs.declared.closed.ClosedParts.{ClosedParts}
use Rattle.workers.specs.declared.ended.Ended.TheVariants.{Asked}
use Rattle.workers.specs.Runs.{HasRun}
use Rattle.plantplay.specs.Installations.{sim_log}
use Rattle.plantrun.specs.Runs.{IsRun, buses_of, clock_of, tick_log}
use Rattle.plantrun.specs.Scenes.{HasWholeScenario, IsBusOf, FollowsScenario, events_on}
use Rattle.plantrun.proofs.Buses.{count_of}
use Rattle.plantrun.proofs.Scenes.{all_at, bus_follows, first_log, get_front, get_last, get_mapped, heard_all, is_bus_of}
use Rattle.plantrun.proofs.Scenes.{there, ticks_all, ticks_first}

-- a bus of the scenario stands at its number
bus_at : (scenario : List Statement) (buses b : ℕ) → b < buses
    → slice_get (buses_of scenario buses) b ≡ Some (all_arrived (bus_of scenario b))
bus_at scenario zero b inside = absurd (omega arith)
bus_at scenario (suc buses) b inside =
    let last = all_arrived (bus_of scenario buses) in
    ⊎_elim (λ (at : (eqb b buses ≡ true) × (b ≡ buses)).
    get_last (buses_of scenario buses) last b (at.1 ∙ sym (count_of scenario buses))
    ∙ ap (λ (n : ℕ). Some (all_arrived (bus_of scenario n))) (sym at.1))
    (λ (other : (eqb b buses ≡ false) × (b ≢ buses)).
    let before : b < buses = let no = other.1 in omega (arith, inside, no) in
    get_front (buses_of scenario buses) (last ∷ []) b _ (bus_at scenario buses b before))
    (eqb_tells b buses)

log_at : (scenario : List Statement) (buses b : ℕ) → b < buses
    → log_of (map sim_log (buses_of scenario buses)) b ≡ first_log scenario b
log_at scenario buses b inside =
    get_mapped sim_log (buses_of scenario buses) b _ no_frame (bus_at scenario buses b inside)

module _ (setup : Loaded) (scenario : List Statement) (workers limit : ℕ) (left : ClosedParts Simulated ScriptedTicks)
    (run : HasRun setup workers limit (buses_of scenario setup.plan.buses) (clock_of scenario) sim_log tick_log left)
    (stage : All (IsOnStage scenario) left.buses.items) (happened : All IsAsSetUp left.buses.items)
    (script : IsByScript left.clock) where
  abbrev buses : ℕ
  buses = setup.plan.buses

  count : length left.buses.items ≡ buses
  count = run.count ∙ count_of scenario buses

  linked_at : (b : ℕ) (bus : Simulated) → slice_get left.buses.items b ≡ Some bus
      → IsLinked (first_log scenario b) b left.plant.history bus.log
  linked_at b bus is =
      let far = slice_get_within left.buses.items b bus is in
      let inside : b < buses = subst (λ (n : ℕ). b < n) count far in
      let here : 0 + b ≡ b = omega arith in
      subst (λ (log : BusLog). IsLinked log b left.plant.history bus.log) (log_at scenario buses b inside)
      (subst (λ (n : ℕ). IsLinked (log_of (map sim_log (buses_of scenario buses)) n) n left.plant.history bus.log) here
      (run.closed.buses b bus is))

  follows : FollowsScenario scenario buses left.plant.history
  follows = record {
    later = left.clock.later;
    ticks = ticks_first scenario left.plant.history left.clock run.closed.clock run.closed.moments script;
    buses = λ b inside.
        let at = there left.buses.items b (subst (λ (n : ℕ). b < n) (sym count) inside) in
        bus_follows scenario left.plant.history b at.x (linked_at b at.x at.is)
        (all_at (IsOnStage scenario) left.buses.items b at.x stage at.is)
        (all_at IsAsSetUp left.buses.items b at.x happened at.is);
  }

  heard_whole : left.ended ≡ Asked → (b : ℕ) → b < buses → is_down b left.plant.history ≡ false
      → heard_in b left.plant.history ≡ events_on b scenario
  heard_whole asked b inside up =
      let at = there left.buses.items b (subst (λ (n : ℕ). b < n) (sym count) inside) in
      let log = get_mapped sim_log left.buses.items b at.x no_frame at.is in
      let firsts : BusLog = log_of (map sim_log (buses_of scenario buses)) b in
      let planned : b < left.plant.plant.plan.buses =
      subst (λ (p : Plant). b < p.plan.buses) (sym run.closed.plant) inside in
      heard_all scenario left.plant.history b left.plant at.x.log firsts refl (linked_at b at.x at.is)
      (subst (λ (l : BusLog). HasNoFrame left.plant b firsts l) log ((run.ended asked).quiet.heard b planned))
      up

  whole : left.ended ≡ Asked → HasWholeScenario scenario buses left.plant.history
  whole asked = record {
    ticks =
        ticks_all scenario left.plant.history (tick_log left.clock) run.closed.clock run.closed.moments
        (run.ended asked).clock.all;
    heard = heard_whole asked;
  }

  are_buses_of : Each (IsBusOf scenario) 0 left.buses.items
  are_buses_of b bus is =
      let here : b ≡ 0 + b = omega arith in
      subst (λ (n : ℕ). IsBusOf scenario n bus) here
      (is_bus_of scenario left.plant.history b bus (linked_at b bus is)
      (all_at (IsOnStage scenario) left.buses.items b bus stage is)
      (all_at IsAsSetUp left.buses.items b bus happened is))

  pub is_run : IsRun setup scenario workers limit left
  is_run = record { run = run; scene = follows; whole = whole; buses = are_buses_of; clock = script }
