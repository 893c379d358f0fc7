-- What is kept once a task was taken, and the snapshot that is taken.
use Rattle.std.proofs.Common.{◌≡◌, eqb, ℕ, zero, suc, ◌+◌, ◌<◌, ◌≤◌, Bool, true, false, List, [], ◌∷◌}
use Rattle.std.proofs.Common.{map, length, Option, Some, None, refl, sym, ap, ◌∙◌, arith}
use Rattle.std.proofs.lemmas.Bool.{eq-eqb, ne_eqb}
use Rattle.std.specs.Prelude.{Result, Ok, Err, IfOk}
use Rattle.std.specs.Prelude.{if◌then◌else◌, is_some, slice_get, option_map, slice_index_or}
use Rattle.std.specs.Option.{option_and_then}
use Rattle.iltypes.specs.declared.value.Value.{Value}
use Rattle.ilplan.specs.Plans.{PlannedTask}
use Rattle.ilplan.specs.declared.global.Location.{Location}
use Rattle.ilplan.specs.declared.global.Location.TheVariants.{Level, GearAnswer, DeviceAnswer, Information, Count}
use Rattle.ilplan.specs.declared.global.Location.TheVariants.{Trigger}
use Rattle.ilmachine.specs.Verdicts.{Accepted}
use Rattle.ilmachine.specs.declared.overriding.Override.{Override}
use Rattle.ilmachine.specs.Images.{ProcessImage, TaskImage, TaskLayout, ImageVariable, Global, Own, layout_of, value_of}
use Rattle.ilmachine.specs.Images.{verified_of, blocks_of, variable_in, overridden, value_under}
use Rattle.ilmachine.specs.Snapshots.{ScanStart}
use Rattle.plantevents.specs.declared.activator.PendingEvent.{PendingEvent}
use Rattle.plantevents.specs.declared.event.Event.{Event}
use Rattle.plantevents.specs.declared.event.Event.TheVariants.{Tick, Heard, Take, Commit, Hand, Done, Down, Up}
use Rattle.plantevents.specs.Plants.{Plant, first_tasks, layout, trigger_of, activator}
use Rattle.plantevents.specs.Histories.{OpenScan, moment, scan, scans}
use Rattle.plantevents.specs.Readiness.{pending}
use Rattle.plantevents.specs.Variables.{value, newest, event_value, pending_value, snapshot_value}
use Rattle.plantevents.specs.Variables.{IsSnapshot}
use Rattle.plantevents.specs.Legal.{IsTake}
use Rattle.readytasks.specs.TaskSets.{TaskSet, Follows}
use Rattle.std.proofs.lemmas.List.{length-map}
use Rattle.std.proofs.lemmas.Slice.Zip.{AllZip-long}
use Rattle.ilcompile.specs.Loaded.{AreCodes, IsCodeOf}
use Rattle.plantbuses.specs.KeptSteps.{ImageFollows, ScansFollow, TakesFollow}
use Rattle.plant.specs.Shown.{Shown, grown, kept, is_full, count_below}
use Rattle.plant.specs.KeptSteps.{KeptPlant, Says}
use Rattle.plant.specs.TakingSteps.{taken_at, trigger_place}
use Rattle.plant.proofs.Counting.{count_less}
use Rattle.plant.proofs.Indexed.{is_trigger}
use Rattle.plant.proofs.Refusing.{not_below}

-- ---- the snapshot

pub code_of : (tasks : List PlannedTask) (codes : List Accepted) (t : ℕ) (code : Accepted)
    → option_map (λ (l : TaskLayout). l.verified) (slice_get
    (map (λ (k : TaskImage). k.layout) (first_tasks tasks codes)) t) ≡ Some code
    → slice_get codes t ≡ Some code
code_of [] codes t code is = absurd (cc)
code_of (x ∷ tasks) [] t code is = absurd (cc)
code_of (x ∷ tasks) (y ∷ codes) zero code is = is
code_of (x ∷ tasks) (y ∷ codes) (suc t) code is = code_of tasks codes t code is

nowhere : (place : Option Location) (a : Option PendingEvent) → pending_value place a None ≡ None
nowhere None a = refl
nowhere (Some (Level bus address)) a = refl
nowhere (Some (GearAnswer bus short)) a = refl
nowhere (Some (DeviceAnswer bus short)) a = refl
nowhere (Some (Information bus number)) a = refl
nowhere (Some (Count bus number)) a = refl
nowhere (Some (Trigger bus number)) None = refl
nowhere (Some (Trigger bus number)) (Some a) = refl

-- no trigger, or no event
pub no_trigger : (place : Option Location) (a : Option PendingEvent) (o : Option Location) → trigger_place place ≡ None
    → pending_value place a o ≡ None
no_trigger None a o is = refl
no_trigger (Some (Level bus address)) a o is = refl
no_trigger (Some (GearAnswer bus short)) a o is = refl
no_trigger (Some (DeviceAnswer bus short)) a o is = refl
no_trigger (Some (Information bus number)) a o is = refl
no_trigger (Some (Count bus number)) a o is = refl
no_trigger (Some (Trigger bus number)) a o is = absurd (cc)

pub no_pending : (place : Option Location) (o : Option Location) → pending_value place None o ≡ None
no_pending None o = refl
no_pending (Some (Level bus address)) o = refl
no_pending (Some (GearAnswer bus short)) o = refl
no_pending (Some (DeviceAnswer bus short)) o = refl
no_pending (Some (Information bus number)) o = refl
no_pending (Some (Count bus number)) o = refl
no_pending (Some (Trigger bus number)) o = refl

event_same : (bus number : ℕ) (a : PendingEvent) (o : Option Location)
    → option_and_then (event_value bus number a) o ≡ pending_value (Some (Trigger bus number)) (Some a) o
event_same bus number a None = refl
event_same bus number a (Some place) = refl

pub with_event : (place : Option Location) (first : Option PendingEvent) (bus number : ℕ) (a : PendingEvent)
    (o : Option Location) → trigger_place place ≡ Some (bus, number) → first ≡ Some a
    → option_and_then (event_value bus number a) o ≡ pending_value place first o
with_event place first bus number a o is of =
    event_same bus number a o
    ∙ (ap (λ (q : Option PendingEvent). pending_value (Some (Trigger bus number)) q o) (sym of)
    ∙ ap (λ (q : Option Location). pending_value q first o) (sym (is_trigger place bus number is)))

-- each variable as the task takes it
taken_value : (p : Plant) (t : ℕ) (h : List Event) (image : ProcessImage) (given : List Override)
    → ImageFollows p h image
    → ((g : ℕ) (v : Option Value) → overridden given g v ≡ newest (taken_at p h t g) v)
    → (v : ImageVariable) → value_under given image v ≡ snapshot_value p t h v
taken_value p t h image given follows taken (Global g) =
    taken g (value_of image (Global g)) ∙ ap (newest (taken_at p h t g)) (follows.values (Global g))
taken_value p t h image given follows taken (Own u n) =
    follows.values (Own u n)
    ∙ ap (λ (o : Option Value). newest o (value p (Own u n) h))
    (sym (nowhere (trigger_of p t) (slice_get (pending (activator p t) t h) 0)))

each_value : (F G : ImageVariable → Option Value) → ((v : ImageVariable) → F v ≡ G v) → (o : Option ImageVariable)
    → option_and_then F o ≡ option_and_then G o
each_value F G same None = refl
each_value F G same (Some v) = same v

pub snapshot_is : (p : Plant) (t : ℕ) (h : List Event) (image : ProcessImage) (given : List Override) (s : ScanStart)
    → ImageFollows p h image
    → ((g : ℕ) (v : Option Value) → overridden given g v ≡ newest (taken_at p h t g) v)
    → verified_of (layout_of image) t ≡ Some s.verified
    → ((slot : ℕ) → slice_get s.lasting.slots slot
    ≡ option_and_then (value_under given image) (variable_in (layout_of image) t slot))
    → blocks_of image t ≡ Some s.lasting.blocks → s.moment ≡ moment h → IsSnapshot p t h s
snapshot_is p t h image given s follows taken verified values instances at = record {
  code = code_of p.plan.tasks p.codes t s.verified (sym (ap (λ l. verified_of l t) follows.laid) ∙ verified);
  values = λ slot. values slot
      ∙ (ap (λ l. option_and_then (value_under given image) (variable_in l t slot)) follows.laid
      ∙ each_value (value_under given image) (snapshot_value p t h) (taken_value p t h image given follows taken)
      (variable_in (layout p) t slot));
  blocks = sym (follows.instances t) ∙ instances;
  moment = at;
}

-- ---- the place that is kept for the Commit

one_scan_more : (workers w t : ℕ) (s : ScanStart) (h : List Event) → w < workers → scan w h ≡ None
    → count_below (λ v. is_some (scan v h)) workers + 1 ≡ count_below (λ v. is_some (scan v (Take w t s ∷ h))) workers
one_scan_more workers w t s h lt idle =
    count_less (λ v. is_some (scan v (Take w t s ∷ h))) (λ v. is_some (scan v h)) workers w lt
    (ap (λ b. is_some (if b then Some (record { place = length h; task = t; snapshot = s }) else scan w h))
    (eq-eqb w w refl))
    (ap (λ (o : Option OpenScan). is_some o) idle)
    (λ v ne. sym (ap (λ b. is_some (if b then Some (record { place = length h; task = t; snapshot = s }) else scan v h))
    (ne_eqb w v (λ e. ne (sym e)))))

-- ---- counts of takes

one_more : (same : Bool) (n len : ℕ) → n ≤ len → (if same then n + 1 else n) ≤ len + 1
one_more true n len le = omega arith
one_more false n len le = omega arith

-- no task is taken more often than there are events
scans_few : (t : ℕ) (h : List Event) → scans t h ≤ length h
scans_few t [] = omega arith
scans_few t (Tick m ∷ h) = let r = scans_few t h in omega arith
scans_few t (Heard c f ∷ h) = let r = scans_few t h in omega arith
scans_few t (Take w u s ∷ h) = let r = one_more (eqb u t) (scans t h) (length h) (scans_few t h) in omega arith
scans_few t (Commit w n r ∷ h) = let r = scans_few t h in omega arith
scans_few t (Hand c s x ∷ h) = let r = scans_few t h in omega arith
scans_few t (Done c n r ∷ h) = let r = scans_few t h in omega arith
scans_few t (Down c ∷ h) = let r = scans_few t h in omega arith
scans_few t (Up c ∷ h) = let r = scans_few t h in omega arith

pub take_room : (p : Shown) (k : KeptPlant) (t : ℕ) → Says p k → t < length p.plant.plan.tasks
    → slice_index_or k.takes t 0 + 1 < 18446744073709551616
take_room p k t says lt =
    let e = says.each_take.1 t lt in let f = scans_few t p.history in let w = says.within in
    let l = says.place in let m = says.most in omega arith

-- ---- all that is kept

pub take_says : (p : Shown) (k : KeptPlant) (w t : ℕ) (s : ScanStart) (tasks : TaskSet) (takes : List ℕ)
    (open_scans : List (Option OpenScan)) → Says p k → IsTake p.plant p.history w t s → is_full p ≡ false
    → Follows p.plant (Take w t s ∷ p.history) tasks → TakesFollow p.plant (Take w t s ∷ p.history) takes
    → ScansFollow p.plant (Take w t s ∷ p.history) open_scans
    → Says (grown p (Take w t s))
    (record k { tasks = tasks; takes = takes; scans = open_scans; length = k.length + 1; kept = k.kept + 1 })
take_says p k w t s tasks takes open_scans says may room follows taken opened = record {
  most = says.most;
  legal = (may, says.legal);
  each_task = follows;
  each_variable = record {
    laid = says.each_variable.laid;
    values = says.each_variable.values;
    instances =
        says.each_variable.instances;
  };
  each_source = (says.each_source.0, λ i lt. record { counted = (says.each_source.1 i lt).counted });
  each_take = taken;
  each_worker = opened;
  each_bus = says.each_bus;
  each_input = says.each_input;
  each_output = says.each_output;
  each_owed = says.each_owed;
  each_place = says.each_place;
  clock = says.clock;
  place = let e = says.place in omega arith;
  places = let e = says.places in let m = one_scan_more p.plant.workers w t s p.history may.known may.idle in omega
      arith;
  within = let e = says.places in let l = says.place in
      let r = not_below p.limit (length p.history + kept p + 2) room in omega arith;
}

-- ---- the tasks of the image

as_many : (tasks : List PlannedTask) (codes : List Accepted) → length codes ≡ length tasks
    → length (first_tasks tasks codes) ≡ length tasks
as_many [] codes same = refl
as_many (x ∷ tasks) [] same = absurd (let e : 0 ≡ length (x ∷ tasks) = same in omega arith)
as_many (x ∷ tasks) (y ∷ codes) same =
    let e : length (y ∷ codes) ≡ length (x ∷ tasks) = same in let r = as_many tasks codes (omega arith) in omega arith

pub task_there : (p : Plant) (image : ProcessImage) (t : ℕ) → layout_of image ≡ layout p → AreCodes p.plan p.codes
    → t < length p.plan.tasks → t < length image.tasks
task_there p image t laid coded lt =
    let long = AllZip-long (IsCodeOf p.plan) p.plan.tasks p.codes coded in
    let many = as_many p.plan.tasks p.codes long in
    let same = ap (λ l. length l.tasks) laid in
    let one = length-map image.tasks (λ (k : TaskImage). k.layout) in
    let other = length-map (first_tasks p.plan.tasks p.codes) (λ (k : TaskImage). k.layout) in omega arith

pub snapshot_ok : {E : Type 0} (p : Plant) (t at : ℕ) (h : List Event) (image : ProcessImage) (given : List Override)
    (r : Result ScanStart E) → ImageFollows p h image
    → ((g : ℕ) (v : Option Value) → overridden given g v ≡ newest (taken_at p h t g) v)
    → at ≡ moment h
    → IfOk r (λ s. verified_of (layout_of image) t ≡ Some s.verified)
    → IfOk r (λ s. (slot : ℕ) → slice_get s.lasting.slots slot
    ≡ option_and_then (value_under given image) (variable_in (layout_of image) t slot))
    → IfOk r (λ s. blocks_of image t ≡ Some s.lasting.blocks) → IfOk r (λ s. s.moment ≡ at)
    → IfOk r (IsSnapshot p t h)
snapshot_ok p t at h image given (Ok s) follows taken clock verified values instances time =
    snapshot_is p t h image given s follows taken verified values instances (time ∙ clock)
snapshot_ok p t at h image given (Err e) follows taken clock verified values instances time = tt
