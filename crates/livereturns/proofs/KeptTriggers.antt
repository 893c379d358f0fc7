-- A trigger to which no task stores has the value with which it begins: what is heard or reported writes none.
use Rattle.std.proofs.Common.{◌≡◌, ◌∙◌, ℕ, zero, suc, List, [], ◌∷◌, Bool, true, false, Option, Some, None, refl, ap}
use Rattle.std.proofs.Common.{map}
use Rattle.std.specs.Prelude.{◌==◌, ◌&&◌, ◌||◌, if◌then◌else◌, option_and_then, option_map, slice_get}
use Rattle.std.specs.List.{list_any}
use Rattle.std.proofs.lemmas.Option.{slice_get-map}
use Rattle.iltypes.specs.declared.value.Value.{Value}
use Rattle.gearcmd.specs.declared.requests.Answerer.{Answerer}
use Rattle.gearcmd.specs.declared.requests.Answerer.TheVariants.{Gear, Instance}
use Rattle.buslink.specs.declared.marks.Outcome.{Outcome}
use Rattle.ilplan.specs.declared.global.Global.{Global as GlobalVariable}
use Rattle.ilplan.specs.declared.global.Location.{Location}
use Rattle.ilplan.specs.declared.global.Location.TheVariants as locations
use Rattle.ilplan.specs.Plans.{PlannedTask}
use Rattle.ilmachine.specs.Verdicts.{Accepted}
use Rattle.ilmachine.specs.declared.external.External.{External}
use Rattle.ilmachine.specs.Images.{Global}
use Rattle.plantevents.specs.declared.event.Event.{Event}
use Rattle.plantevents.specs.declared.event.Event.TheVariants as events
use Rattle.plantevents.specs.Histories as histories
use Rattle.plantevents.specs.Histories.{OpenHand, OpenScan, hand}
use Rattle.plantevents.specs.Plants.{Plant, externals_of, first_tasks, stores_global}
use Rattle.plantevents.specs.Variables.{answerer_by, commit_write, heard_write, is_answer_of, newest, outcome_value}
use Rattle.plantevents.specs.Variables.{report_write, scan_write, stored_value, value, write_of}
use Rattle.livekeep.specs.KeptPlans.{is_trigger}

-- ---- what comes from a bus

no_heard : (p : Plant) (b f : ℕ) (h : List Event) (place : Option Location) → is_trigger place ≡ true
    → heard_write p b f h place ≡ None
no_heard p b f h None is = absurd (cc)
no_heard p b f h (Some (locations.Level bus address)) is = absurd (cc)
no_heard p b f h (Some (locations.GearAnswer bus short)) is = absurd (cc)
no_heard p b f h (Some (locations.DeviceAnswer bus short)) is = absurd (cc)
no_heard p b f h (Some (locations.Information bus source)) is = absurd (cc)
no_heard p b f h (Some (locations.Count bus source)) is = absurd (cc)
no_heard p b f h (Some (locations.Trigger bus source)) is = refl

no_answer_there : (b bus source : ℕ) (a : Option Answerer)
    → is_answer_of b a (Some (locations.Trigger bus source)) ≡ false
no_answer_there b bus source None = refl
no_answer_there b bus source (Some (Gear short)) = refl
no_answer_there b bus source (Some (Instance short instance)) = refl

no_answer : (b : ℕ) (a : Option Answerer) (place : Option Location) → is_trigger place ≡ true
    → is_answer_of b a place ≡ false
no_answer b a None is = absurd (cc)
no_answer b a (Some (locations.Level bus address)) is = absurd (cc)
no_answer b a (Some (locations.GearAnswer bus short)) is = absurd (cc)
no_answer b a (Some (locations.DeviceAnswer bus short)) is = absurd (cc)
no_answer b a (Some (locations.Information bus source)) is = absurd (cc)
no_answer b a (Some (locations.Count bus source)) is = absurd (cc)
no_answer b a (Some (locations.Trigger bus source)) is = no_answer_there b bus source a

no_report : (b : ℕ) (result : Outcome) (handed : Option OpenHand) (place : Option Location) → is_trigger place ≡ true
    → report_write b result handed place ≡ None
no_report b result None place is = refl
no_report b result (Some handed) place is =
    ap (λ (t : Bool). if t then outcome_value result else None) (no_answer b (answerer_by handed.origin) place is)

-- ---- what comes from a scan

first_false : (a b : Bool) → (a || b) ≡ false → (a ≡ false) × (b ≡ false)
first_false true b none = absurd (cc)
first_false false b none = (refl, none)

not_stored : (number : ℕ) (externals : List External) (slots : List Value)
    → list_any (λ (e : External). e.global == number && e.stored) externals ≡ false
    → stored_value number externals slots ≡ None
not_stored number [] slots none = refl
not_stored number (e ∷ more) [] none = refl
not_stored number (e ∷ more) (v ∷ others) none =
    let parts = first_false (e.global == number && e.stored)
    (list_any (λ (e : External). e.global == number && e.stored) more) none in
    ap (λ (t : Bool). if t then Some v else stored_value number more others) parts.0
    ∙ not_stored number more others parts.1

no_scan_write : (number task place : ℕ) (slots : List Value) (tasks : List PlannedTask) (codes : List Accepted)
    → ((k : ℕ) (t : PlannedTask) → slice_get tasks k ≡ Some t → stores_global t number ≡ false)
    → option_and_then (scan_write task (Global number) slots)
    (slice_get (map (λ i. i.layout) (first_tasks tasks codes)) place) ≡ None
no_scan_write number task place slots [] codes none = refl
no_scan_write number task place slots (t ∷ tasks) [] none = refl
no_scan_write number task zero slots (t ∷ tasks) (c ∷ codes) none =
    not_stored number (externals_of t) slots (none 0 t refl)
no_scan_write number task (suc place) slots (t ∷ tasks) (c ∷ codes) none =
    no_scan_write number task place slots tasks codes (λ k u is. none (suc k) u is)

module _ (p : Plant) (number : ℕ) (g : GlobalVariable) (there : slice_get p.plan.globals number ≡ Some g)
    (trigger : is_trigger g.location ≡ true)
    (unstored : (k : ℕ) (t : PlannedTask) → slice_get p.plan.tasks k ≡ Some t → stores_global t number ≡ false) where
  abbrev place : Option Location
  place = option_and_then (λ (g : GlobalVariable). g.location) (slice_get p.plan.globals number)

  is_there : is_trigger place ≡ true
  is_there =
      ap (λ (o : Option GlobalVariable). is_trigger (option_and_then (λ (g : GlobalVariable). g.location) o)) there
      ∙ trigger

  no_commit : (slots : List Value) (running : Option OpenScan) → commit_write p (Global number) slots running ≡ None
  no_commit slots None = refl
  no_commit slots (Some running) =
      no_scan_write number running.task running.task slots p.plan.tasks p.codes unstored

  no_write : (e : Event) (h : List Event) → write_of p (Global number) e h ≡ None
  no_write (events.Tick m) h = refl
  no_write (events.Heard b f) h = no_heard p b f h place is_there
  no_write (events.Take w t s) h = refl
  no_write (events.Commit w n result) h = no_commit result.after.slots (histories.scan w h)
  no_write (events.Hand b o t) h = refl
  no_write (events.Done b n report) h = no_report b report.outcome (hand b h) place is_there
  no_write (events.Down b) h = refl
  no_write (events.Up b) h = refl

  pub stays : (h : List Event) → value p (Global number) h ≡ Some g.initial
  stays [] =
      slice_get-map (λ (g : GlobalVariable). g.initial) p.plan.globals number
      ∙ ap (option_map (λ (g : GlobalVariable). g.initial)) there
  stays (e ∷ h) =
      ap (λ (o : Option Value). newest o (value p (Global number) h)) (no_write e h) ∙ stays h
