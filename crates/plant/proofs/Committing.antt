-- A scan that is committed is what its task means, and what is kept once it was committed.
use Rattle.std.proofs.Common.{◌≡◌, ◌≢◌, ⊎_elim, ℕ, zero, suc, ◌+◌, ◌-◌, ◌<◌, ◌≤◌, Bool, true, false, eqb, eq-eqb}
use Rattle.std.proofs.Common.{List, [], ◌∷◌}
use Rattle.std.proofs.Common.{All, get_or, length, Option, Some, None, refl, sym, ap, ◌∙◌, subst, arith}
use Rattle.std.proofs.lemmas.Bool.{ne_eqb}
use Rattle.std.proofs.lemmas.List.{get_or_default}
use Rattle.std.proofs.lemmas.Bool.Decides.{eqb_tells}
use Rattle.std.proofs.lemmas.Slice.Zip.{AllZip-long}
use Rattle.std.specs.Prelude.{if◌then◌else◌, is_some, slice_get, IfSome, map, option_map}
use Rattle.gearcmd.specs.declared.requests.Request.{Request}
use Rattle.ilblocks.specs.Stores.{Store}
use Rattle.ilcode.specs.Listings.{Listing}
use Rattle.ilplan.specs.Plans.{PlannedTask}
use Rattle.ilplan.specs.PlanMeaning.{plan_scan}
use Rattle.ilmachine.specs.Verdicts.{Accepted}
use Rattle.ilmachine.specs.Images.{ProcessImage, TaskImage, TaskLayout}
use Rattle.ilmachine.specs.Snapshots.{ScanStart}
use Rattle.plantevents.specs.Scans.{Scan, IsScan, store_of}
use Rattle.ilcompile.specs.Loaded.{AreCodes, IsCodeOf}
use Rattle.ilcompile.proofs.CodeLemmas.{zipped_at}
use Rattle.plantevents.specs.declared.event.Event.{Event}
use Rattle.plantevents.specs.declared.event.Event.TheVariants.{Tick, Heard, Take, Commit, Hand, Done, Down, Up}
use Rattle.plantevents.specs.Plants.{Plant, first_tasks}
use Rattle.plantevents.specs.Histories.{OpenScan, scan}
use Rattle.plantevents.specs.Legal.{AreLegal, IsCommit, IsResult}
use Rattle.readytasks.specs.TaskSets.{TaskSet, Follows}
use Rattle.plantbuses.specs.KeptSteps.{KeptBus, BusesFollow, ImageFollows, ScansFollow}
use Rattle.plantbuses.specs.OwedSteps.{OwedFollow}
use Rattle.plantbuses.specs.declared.owed.OwedLevels.{OwedLevels}
use Rattle.plant.specs.Shown.{Shown, grown, count_below}
use Rattle.plant.specs.KeptSteps.{KeptPlant, Says}
use Rattle.plant.specs.Matches.{IsOwnScan}
use Rattle.plant.specs.CommitSteps.{IsOpenScanOf, IsScanOfTask}
use Rattle.plant.proofs.Counting.{count_less}

-- ---- the task of a scan that is open

-- its snapshot has the task's code
pub record IsOfTask (p : Plant) (running : OpenScan) : Type 0 where
  pub known : running.task < length p.plan.tasks
  pub code : slice_get p.codes running.task ≡ Some running.snapshot.verified

pub open_of_task : (p : Plant) (w : ℕ) (running : OpenScan) (h : List Event) → AreLegal p h
    → scan w h ≡ Some running → IsOfTask p running
open_of_task p w running [] legal is = absurd (cc)
open_of_task p w running (Take v t s ∷ h) legal is =
    ⊎_elim
    (λ (k : (eqb v w ≡ true) × (v ≡ w)).
    let made : OpenScan = record { place = length h; task = t; snapshot = s } in
    let opened : Some made ≡ Some running = sym (rw k.0 refl) ∙ is in
    let same : made ≡ running = cc in
    let of_made : IsOfTask p made = record { known = legal.0.next.known; code = legal.0.snapshot.code } in
    subst (IsOfTask p) same of_made)
    (λ (k : (eqb v w ≡ false) × (v ≢ w)). open_of_task p w running h legal.1 (sym (rw k.0 refl) ∙ is))
    (eqb_tells v w)
open_of_task p w running (Commit v n r ∷ h) legal is =
    ⊎_elim
    (λ (k : (eqb v w ≡ true) × (v ≡ w)). let shut : None ≡ Some running = sym (rw k.0 refl) ∙ is in absurd (cc))
    (λ (k : (eqb v w ≡ false) × (v ≢ w)). open_of_task p w running h legal.1 (sym (rw k.0 refl) ∙ is))
    (eqb_tells v w)
open_of_task p w running (Tick m ∷ h) legal is = open_of_task p w running h legal.1 is
open_of_task p w running (Heard b f ∷ h) legal is = open_of_task p w running h legal.1 is
open_of_task p w running (Hand b s x ∷ h) legal is = open_of_task p w running h legal.1 is
open_of_task p w running (Done b n r ∷ h) legal is = open_of_task p w running h legal.1 is
open_of_task p w running (Down b ∷ h) legal is = open_of_task p w running h legal.1 is
open_of_task p w running (Up b ∷ h) legal is = open_of_task p w running h legal.1 is

-- what a worker's place among the scans says
pub open_is : (p : Shown) (k : KeptPlant) (w : ℕ) (running : OpenScan) (here : Option OpenScan) (result : Scan)
    → Says p k → w < p.plant.workers → here ≡ get_or k.scans w here → here ≡ Some running
    → IsOwnScan p w result → result.number ≡ running.place → IsOpenScanOf p w result running.task
open_is p k w running here result says known read is own number =
    let many = says.each_worker.0 in
    let inside : w < length k.scans = omega arith in
    let there : scan w p.history ≡ Some running =
    sym (says.each_worker.1 w known) ∙ (get_or_default k.scans w None here inside ∙ (sym read ∙ is)) in
    record {
      is = record {
        known = known;
        running = running;
        is_open = there;
        number = number;
        snapshot = own running there number;
      };
      task = refl;
    }

pub open_known : (p : Shown) (k : KeptPlant) (w t : ℕ) (result : Scan) → Says p k → IsOpenScanOf p w result t
    → t < length p.plant.plan.tasks
open_known p k w t result says open_scan =
    subst (λ (u : ℕ). u < length p.plant.plan.tasks) open_scan.task
    (open_of_task p.plant w open_scan.is.running p.history says.legal open_scan.is.is_open).known

-- ---- what a scan came to

code_at : (p : Plant) (t : ℕ) (task : PlannedTask) (code : Accepted) → AreCodes p.plan p.codes
    → slice_get p.plan.tasks t ≡ Some task → slice_get p.codes t ≡ Some code → IsCodeOf p.plan task code
code_at p t task code coded is_task is_code =
    subst (λ (o : Option PlannedTask). IfSome o (λ x. IsCodeOf p.plan x code)) is_task
    (zipped_at (IsCodeOf p.plan) p.plan.tasks p.codes t code coded is_code)

-- the image has the code of each task
code_there : (tasks : List PlannedTask) (codes : List Accepted) (t : ℕ) (code : Accepted)
    → length codes ≡ length tasks → slice_get codes t ≡ Some code
    → option_map (λ (l : TaskLayout). l.verified)
    (slice_get (map (λ (k : TaskImage). k.layout) (first_tasks tasks codes)) t) ≡ Some code
code_there [] [] t code many is = absurd (cc)
code_there [] (y ∷ codes) t code many is = absurd (let e : length (y ∷ codes) ≡ 0 = many in omega arith)
code_there (x ∷ tasks) [] t code many is = absurd (let e : 0 ≡ length (x ∷ tasks) = many in omega arith)
code_there (x ∷ tasks) (y ∷ codes) zero code many is = is
code_there (x ∷ tasks) (y ∷ codes) (suc t) code many is =
    let e : length (y ∷ codes) ≡ length (x ∷ tasks) = many in code_there tasks codes t code (omega arith) is

-- the run of a task's code ends with what its programs mean
pub result_meant : (p : Plant) (running : OpenScan) (task : PlannedTask) (result : Scan)
    → slice_get p.plan.tasks running.task ≡ Some task
    → IsCodeOf p.plan task result.snapshot.verified → result.number ≡ running.place
    → result.snapshot ≡ running.snapshot
    → IsScan result.snapshot.verified (store_of result.snapshot) result.steps result.after
    → IsResult p running result
result_meant p running task result is_task of_task number same run =
    let meant = of_task.meant.means (store_of result.snapshot) result.after result.steps run.lasting run.run in
    record {
      number = number;
      snapshot = same;
      task = task;
      is_task = is_task;
      meant = subst
          (λ (s : ScanStart). plan_scan p.plan.buses p.plan.functions task (store_of s) ≡ Some result.after) same meant;
      run = subst (λ (s : ScanStart). IsScan s.verified (store_of s) result.steps result.after) same run;
    }

-- the scan that a worker has open may be committed
pub open_committed : (p : Shown) (k : KeptPlant) (w t : ℕ) (task : PlannedTask) (result : Scan) → Says p k
    → AreCodes p.plant.plan p.plant.codes → IsOpenScanOf p w result t
    → slice_get p.plant.plan.tasks t ≡ Some task
    → IsScan result.snapshot.verified (store_of result.snapshot) result.steps result.after
    → IsScanOfTask p w result t
open_committed p k w t task result says coded open_scan is_task run =
    let running = open_scan.is.running in
    let of = open_of_task p.plant w running p.history says.legal open_scan.is.is_open in
    let is_code : slice_get p.plant.codes t ≡ Some result.snapshot.verified =
    sym (ap (slice_get p.plant.codes) open_scan.task) ∙ of.code
    ∙ ap (λ (s : ScanStart). Some s.verified) (sym open_scan.is.snapshot) in
    let of_task = code_at p.plant t task result.snapshot.verified coded is_task is_code in
    let long = AllZip-long (IsCodeOf p.plant.plan) p.plant.plan.tasks p.plant.codes coded in
    let buses : result.snapshot.verified.code.buses ≡ p.plant.plan.buses =
    ap (λ (code : Listing). code.buses) of_task.laid in
    let its = subst (All (λ (r : Request). r.bus < result.snapshot.verified.code.buses))
    (sym (ap (λ (s : Store). s.requests) run.run.left)) run.in_types.requests in
    record {
      allowed = record {
        known = open_scan.is.known;
        running = running;
        is_open = open_scan.is.is_open;
        place = sym open_scan.is.number;
        meant = result_meant p.plant running task result (ap (slice_get p.plant.plan.tasks) open_scan.task ∙ is_task)
            of_task open_scan.is.number open_scan.is.snapshot run;
      };
      task = open_scan.task;
      known = open_known p k w t result says open_scan;
      code = code_there p.plant.plan.tasks p.plant.codes t result.snapshot.verified long is_code;
      requests = subst (λ (n : ℕ). All (λ (r : Request). r.bus < n) result.after.requests) buses its;
      few = let asks = run.asks in omega arith;
    }

-- ---- the places that are kept

one_scan_less : (workers w n : ℕ) (result : Scan) (running : OpenScan) (h : List Event) → w < workers
    → scan w h ≡ Some running
    → count_below (λ v. is_some (scan v (Commit w n result ∷ h))) workers + 1
    ≡ count_below (λ v. is_some (scan v h)) workers
one_scan_less workers w n result running h lt busy =
    count_less (λ v. is_some (scan v h)) (λ v. is_some (scan v (Commit w n result ∷ h))) workers w lt
    (ap (λ (o : Option OpenScan). is_some o) busy)
    (ap (λ (b : Bool). is_some (if b then None else scan w h)) (eq-eqb w w refl))
    (λ v ne. ap (λ (b : Bool). is_some (if b then None else scan v h)) (ne_eqb w v (λ e. ne (sym e))))

pub scan_kept : (p : Shown) (k : KeptPlant) (w n : ℕ) (result : Scan) → Says p k
    → IsCommit p.plant p.history w n result → 1 ≤ k.kept
scan_kept p k w n result says may =
    let l = one_scan_less p.plant.workers w n result may.running p.history may.known may.is_open in
    let e = says.places in omega arith

-- ---- all that is kept

pub commit_says : (p : Shown) (k : KeptPlant) (w n : ℕ) (result : Scan) (tasks : TaskSet) (image : ProcessImage)
    (scans : List (Option OpenScan)) (buses : List KeptBus) (owed : List OwedLevels)
    → Says p k → IsCommit p.plant p.history w n result
    → Follows p.plant (Commit w n result ∷ p.history) tasks
    → ImageFollows p.plant (Commit w n result ∷ p.history) image
    → ScansFollow p.plant (Commit w n result ∷ p.history) scans
    → BusesFollow p.plant (Commit w n result ∷ p.history) buses
    → OwedFollow p.plant (Commit w n result ∷ p.history) owed
    → Says (grown p (Commit w n result)) (record k {
      tasks = tasks;
      image = image;
      scans = scans;
      buses = buses;
      owed = owed;
      length = k.length + 1;
      kept = k.kept - 1;
    })
commit_says p k w n result tasks image scans buses owed says may follows imaged shut run owes = record {
  most = says.most;
  legal = (may, says.legal);
  each_task = follows;
  each_variable = imaged;
  each_source = (says.each_source.0, λ i lt. record { counted = (says.each_source.1 i lt).counted });
  each_take = says.each_take;
  each_worker = shut;
  each_input = says.each_input;
  each_output = says.each_output;
  each_owed = owes;
  each_bus = run;
  each_place = says.each_place;
  clock = says.clock;
  place = let e = says.place in omega arith;
  places = let e = says.places in
      let l = one_scan_less p.plant.workers w n result may.running p.history may.known may.is_open in omega arith;
  within = let s = scan_kept p k w n result says may in let f = says.within in omega arith;
}
