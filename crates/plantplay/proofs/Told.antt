-- A play is by the words of its scenario.
use Rattle.std.proofs.Common.{◌≡◌, inr, ⊎_elim, ℕ, ◌<◌, true, false, true≢false, List, [], ◌++◌, length, map}
use Rattle.std.proofs.Common.{reverse, refl, sym, ap, ◌∙◌, subst, append-nil, zero-add, arith}
use Rattle.std.specs.List.{filter_map}
use Rattle.std.specs.Prelude.{Some, option_map, slice_get}
use Rattle.std.proofs.lemmas.List.{length-map}
use Rattle.std.proofs.lemmas.List.FromFn.{get_or-map-range_with_len}
use Rattle.std.proofs.lemmas.Option.{get_or_from_slice_get, slice_get-get_or, slice_get-map}
use Rattle.buslink.specs.declared.arrivals.Arrival.{Arrival}
use Rattle.buslink.specs.BusLog.{BusLog, frames_in}
use Rattle.wordlines.specs.declared.happenings.Happening.{Happening}
use Rattle.wordlines.specs.declared.happenings.Happening.TheVariants.{Tick, Event, HearFault}
use Rattle.wordlines.specs.declared.statements.Statement.{Statement}
use Rattle.wordlines.specs.Happenings.{happenings}
use Rattle.simbus.specs.Setups.{arrival_on}
use Rattle.simbus.specs.Simulated.{Simulated}
use Rattle.ilcompile.specs.Loaded.{Loaded}
use Rattle.plantevents.specs.Histories.{heard_in, is_down}
use Rattle.plantevents.specs.Plants.{Plant}
use Rattle.plant.specs.Shown.{Shown, opened}
use Rattle.plantdriving.specs.Links.{log_of, no_frame}
use Rattle.plantplay.specs.declared.ending.Ending.{Ending}
use Rattle.plantplay.specs.declared.ending.Ending.TheVariants.{Whole}
use Rattle.plantplay.specs.declared.installation.Installation.{Installation}
use Rattle.plantplay.specs.ByScenario.{IsByScenario, events_on}
use Rattle.plantplay.specs.Installations.{IsInstallation, bus_of, buses_of, sim_log, stage_of}
use Rattle.plantplay.specs.Stage.{Stage, AreStillLinked, Comes, IsPlayedAsFar, IsPlayedTo}
use Rattle.plantplay.proofs.Buses.{count_of}
use Rattle.plantplay.proofs.Followed.{played_some_far}
use Rattle.plantplay.proofs.Given.{given_as_far, given_whole, ticks_of_all}
use Rattle.plantplay.proofs.Happened.{kept_as_far}
use Rattle.plantplay.proofs.Heard.{IsUpTo, arrivals_of, arrivals_of_all, up_by}
use Rattle.plantplay.proofs.StillLinked.{linked_as_far}

-- what a scenario's installation is before anything happens
abbrev stage_at : Loaded → List Statement → ℕ → Stage
stage_at setup scenario limit =
    record { plant = opened setup 1 limit; logs = map sim_log (buses_of scenario setup.plan.buses) }

begins : (setup : Loaded) (scenario : List Statement) (limit : ℕ) (start : Installation Simulated)
    → IsInstallation setup scenario limit start → stage_of start ≡ stage_at setup scenario limit
begins setup scenario limit start is =
    ap (λ (p : Shown). record { plant = p; logs = map sim_log start.lines.items }) is.plant
    ∙ ap (λ (bs : List Simulated). record { plant = opened setup 1 limit; logs = map sim_log bs }) is.buses

-- the log of one of its buses
log_at : (scenario : List Statement) (buses b : ℕ) → b < buses
    → log_of (map sim_log (buses_of scenario buses)) b ≡ (bus_of scenario b).log
log_at scenario buses b below =
    let made = buses_of scenario buses in let bus = bus_of scenario b in
    let inside : b < length made = let n = count_of scenario buses in omega (arith, below) in
    let there : slice_get made b ≡ Some bus =
    slice_get-get_or made b bus inside
    ∙ ap Some (get_or-map-range_with_len (bus_of scenario) 0 buses b b bus below (zero-add b)) in
    get_or_from_slice_get (map sim_log made) b bus.log no_frame
    (slice_get-map sim_log made b ∙ ap (option_map sim_log) there)

-- whatever happens, the plant is made of the same
abbrev IsMadeOf : Plant → Stage → Type 0
IsMadeOf made s = s.plant.plant ≡ made

made_comes : (made : Plant) (happening : Happening) (s t : Stage) → Comes happening s t → IsMadeOf made s → IsMadeOf made t
made_comes made (Tick m) s t comes is = ap (λ (p : Shown). p.plant) comes.plant.1 ∙ is
made_comes made (Event b frame) s t comes is = ap (λ (x : Stage). x.plant.plant) comes ∙ is
made_comes made (HearFault b) s t comes is = ap (λ (x : Stage). x.plant.plant) comes ∙ is

made_as_far : (all rest : List Happening) (s t : Stage) → IsPlayedAsFar all rest s t → t.plant.plant ≡ s.plant.plant
made_as_far all rest s t is =
    kept_as_far (IsMadeOf s.plant.plant) (made_comes s.plant.plant) (λ x y driven so. driven.plant ∙ so) all rest s t is
    refl

-- buses and history tell nothing
linked_first : (logs : List BusLog) → AreStillLinked logs [] logs
linked_first logs b below =
    let log = log_of logs b in
    record {
      same = record { number = refl; arrivals = refl };
      sent = sym (append-nil log.sent);
      heard = sym (append-nil log.heard);
      failed = refl;
      mended = refl;
    }

-- all is to come
up_first : (setup : Loaded) (scenario : List Statement) (limit b : ℕ) → b < setup.plan.buses
    → IsUpTo b [] (arrivals_of b (happenings scenario)) (stage_at setup scenario limit)
up_first setup scenario limit b below =
    let logs = map sim_log (buses_of scenario setup.plan.buses) in
    let log = log_at scenario setup.plan.buses b below in
    record {
      known = below;
      count = length-map (buses_of scenario setup.plan.buses) sim_log ∙ count_of scenario setup.plan.buses;
      arrivals = ap (λ (l : BusLog). l.arrivals) log
          ∙ ap (λ (later : List Arrival). Some (record { come = []; later = later })) (sym (arrivals_of_all b scenario));
      heard = inr (ap (λ (l : BusLog). l.heard) log);
    }

-- all that was to come was heard, where the bus is up
heard_whole : (setup : Loaded) (scenario : List Statement) (limit b : ℕ) (t : Stage) → b < setup.plan.buses
    → IsPlayedAsFar (happenings scenario) [] (stage_at setup scenario limit) t
    → AreStillLinked (map sim_log (buses_of scenario setup.plan.buses)) t.plant.history t.logs
    → is_down b t.plant.history ≡ false → heard_in b t.plant.history ≡ events_on b scenario
heard_whole setup scenario limit b t below is linked up =
    let start = stage_at setup scenario limit in let all = happenings scenario in
    let order : all ≡ reverse is.done ++ [] = is.order in
    let at : IsUpTo b ([] ++ arrivals_of b (reverse is.done)) (arrivals_of b []) t =
    subst (IsUpTo b ([] ++ arrivals_of b (reverse is.done)) (arrivals_of b [])) (sym is.begun)
    (up_by b [] is.done [] start is.between
    (subst (λ (hs : List Happening). IsUpTo b [] (arrivals_of b hs) start) order
    (up_first setup scenario limit b below)) is.played) in
    let inside : b < length t.logs = let n = at.count in let k = at.known in omega arith in
    let log = log_at scenario setup.plan.buses b below in
    let told : (log_of t.logs b).heard ≡ heard_in b t.plant.history =
    (linked b inside).heard
    ∙ ap (λ (l : BusLog). l.heard ++ heard_in b t.plant.history) log in
    let came : arrivals_of b (reverse is.done) ≡ filter_map (arrival_on b) scenario =
    ap (arrivals_of b) (sym (order ∙ append-nil (reverse is.done))) ∙ arrivals_of_all b scenario in
    ⊎_elim (λ (down : is_down b t.plant.history ≡ true). absurd (true≢false (sym down ∙ up)))
    (λ (heard : (log_of t.logs b).heard ≡ frames_in (arrivals_of b (reverse is.done))).
    sym told ∙ (heard ∙ ap frames_in came)) at.heard

-- ---- how it ends

played_whole : (ending : Ending) (all : List Happening) (s t : Stage) → IsPlayedTo ending all s t → ending ≡ Whole
    → IsPlayedAsFar all [] s t
played_whole ending all s t is whole = subst (λ (e : Ending). IsPlayedTo e all s t) whole is

pub by_scenario : (setup : Loaded) (scenario : List Statement) (limit : ℕ) (start : Installation Simulated) (left : Stage)
    (ending : Ending) → IsInstallation setup scenario limit start
    → IsPlayedTo ending (happenings scenario) (stage_of start) left
    → IsByScenario setup scenario ending left
by_scenario setup scenario limit start left ending is played =
    let first = stage_at setup scenario limit in let all = happenings scenario in
    let logs = map sim_log (buses_of scenario setup.plan.buses) in
    let now : IsPlayedTo ending all first left =
    subst (λ (s : Stage). IsPlayedTo ending all s left) (begins setup scenario limit start is) played in
    let far = played_some_far ending all first left now in
    let given = given_as_far all far.0 first left far.1 in
    let linked = linked_as_far logs all far.0 first left far.1 (linked_first logs) in
    record {
      plant = made_as_far all far.0 first left far.1;
      ticks = (given.0, sym (ticks_of_all scenario) ∙ given.1);
      all_ticks = λ whole.
          given_whole all first left (played_whole ending all first left now whole) ∙ ticks_of_all scenario;
      all_heard = λ whole b below up.
          heard_whole setup scenario limit b left below (played_whole ending all first left now whole) linked up;
      linked = linked;
    }
