-- What is kept once a transaction was reported.
use Rattle.std.proofs.Common.{◌≡◌, ℕ, eqb, ◌+◌, ◌-◌, ◌<◌, ◌≤◌, Bool, true, false, List, [], ◌∷◌}
use Rattle.std.proofs.Common.{length, Option, Some, None, refl, sym, ap, ◌∙◌, subst, arith}
use Rattle.std.proofs.lemmas.Bool.{eq-eqb, ne_eqb}
use Rattle.std.specs.Prelude.{if◌then◌else◌}
use Rattle.gearcmd.specs.FrameLists.{FrameList, most_frames}
use Rattle.buslink.specs.Attempts.{ReportParts, IsReportParts}
use Rattle.ilmachine.specs.Images.{ProcessImage}
use Rattle.plantevents.specs.declared.event.Event.{Event}
use Rattle.plantevents.specs.declared.event.Event.TheVariants.{Tick, Heard, Take, Commit, Hand, Done, Down, Up}
use Rattle.plantevents.specs.Histories.{OpenHand, hand}
use Rattle.plantevents.specs.Legal.{IsDone}
use Rattle.readytasks.specs.TaskSets.{Follows}
use Rattle.plantbuses.specs.KeptSteps.{KeptBus, bus_at, BusesFollow, ImageFollows}
use Rattle.plantbuses.proofs.OwedChanges.{owed_done}
use Rattle.plant.specs.Shown.{Shown, grown, kept, unreported, sum_below}
use Rattle.plant.specs.Matches.{IsReportOf}
use Rattle.plant.specs.KeptSteps.{KeptPlant, Says}
use Rattle.plant.proofs.Counting.{sum_more}
use Rattle.plant.proofs.Reports.{hand_short, report_short, frames_few}

-- ---- what is open was not reported

handed_now : (same : Bool) (before : ℕ) (here x : OpenHand) (o : Option OpenHand) → (o ≡ Some x → 1 ≤ before)
    → (if same then Some here else o) ≡ Some x → 1 ≤ (if same then before + 1 else before)
handed_now true before here x o earlier is = omega arith
handed_now false before here x o earlier is = earlier is

reported_now : (same : Bool) (before : ℕ) (x : OpenHand) (o : Option OpenHand) → (o ≡ Some x → 1 ≤ before)
    → (if same then None else o) ≡ Some x → 1 ≤ (if same then before - 1 else before)
reported_now true before x o earlier is = absurd (cc)
reported_now false before x o earlier is = earlier is

closed_now : (same : Bool) (before : ℕ) (x : OpenHand) (o : Option OpenHand) → (o ≡ Some x → 1 ≤ before)
    → (if same then None else o) ≡ Some x → 1 ≤ before
closed_now true before x o earlier is = absurd (cc)
closed_now false before x o earlier is = earlier is

open_unreported : (b : ℕ) (h : List Event) (x : OpenHand) → hand b h ≡ Some x → 1 ≤ unreported b h
open_unreported b [] x is = absurd (cc)
open_unreported b (Tick m ∷ h) x is = open_unreported b h x is
open_unreported b (Heard c f ∷ h) x is = open_unreported b h x is
open_unreported b (Take w t s ∷ h) x is = open_unreported b h x is
open_unreported b (Commit w n r ∷ h) x is = open_unreported b h x is
open_unreported b (Hand c s t ∷ h) x is =
    handed_now (eqb c b) (unreported b h) (record { place = length h; origin = s; transaction = t }) x (hand b h)
    (open_unreported b h x) is
open_unreported b (Done c n r ∷ h) x is =
    reported_now (eqb c b) (unreported b h) x (hand b h) (open_unreported b h x) is
open_unreported b (Down c ∷ h) x is = closed_now (eqb c b) (unreported b h) x (hand b h) (open_unreported b h x) is
open_unreported b (Up c ∷ h) x is = open_unreported b h x is

-- one report fewer is awaited
one_report_less : (p : Shown) (b n : ℕ) (r : ReportParts) → IsDone p.plant p.history b n r
    → sum_below (λ c. unreported c (Done b n r ∷ p.history)) p.plant.plan.buses + 1
    ≡ sum_below (λ c. unreported c p.history) p.plant.plan.buses
one_report_less p b n r done =
    let some = open_unreported b p.history done.handed done.is_open in
    let less : unreported b (Done b n r ∷ p.history) ≡ unreported b p.history - 1 =
    ap (λ (s : Bool). if s then unreported b p.history - 1 else unreported b p.history) (eq-eqb b b refl) in
    sym (sum_more (λ c. unreported c (Done b n r ∷ p.history)) (λ c. unreported c p.history) p.plant.plan.buses b
    done.known (omega arith)
    (λ c ne. sym (ap (λ (s : Bool). if s then unreported c p.history - 1 else unreported c p.history)
    (ne_eqb b c (λ e. ne (sym e))))))

some_kept : (p : Shown) (b n : ℕ) (r : ReportParts) → IsDone p.plant p.history b n r → 1 ≤ kept p
some_kept p b n r done = let l = one_report_less p b n r done in omega arith

pub place_left : (p : Shown) (k : KeptPlant) (b n : ℕ) (r : ReportParts) → Says p k → IsDone p.plant p.history b n r
    → 1 ≤ k.kept
place_left p k b n r says done = let s = some_kept p b n r done in let e = says.places in omega arith

-- the count of frames has room for those of the report
pub frames_room : (p : Shown) (k : KeptPlant) (b n : ℕ) (r : ReportParts) → Says p k → IsDone p.plant p.history b n r
    → (bus_at k.buses b).frames + length r.attempts < 18446744073709551616
frames_room p k b n r says done =
    let few = frames_few p.plant b p.history says.legal in
    let e = (says.each_bus.1 b done.known).framed in
    let short = report_short r done.report
    (subst (λ (t : FrameList). length t.frames ≤ most_frames) (sym done.transaction)
    (hand_short p.plant b p.history done.handed says.legal done.is_open)) in
    let w = says.within in let l = says.place in let m = says.most in omega arith

-- ---- the report is one of the transaction that is open

pub done_now : (p q : Shown) (b n : ℕ) (r : ReportParts) → p ≡ q → IsReportOf q b n r → IsReportParts r
    → IsDone p.plant p.history b n r
done_now p q b n r same of_there report =
    let of_here : IsReportOf p b n r = subst (λ (s : Shown). IsReportOf s b n r) (sym same) of_there in
    let open_here = of_here.is_open in
    record {
      known = open_here.known;
      handed = open_here.handed;
      is_open = open_here.is_open;
      place = sym open_here.number;
      transaction = open_here.same;
      tries = of_here.tries;
      report = report;
    }

-- ---- all that is kept

pub done_says : (p : Shown) (k : KeptPlant) (b n : ℕ) (r : ReportParts) (image : ProcessImage) (buses : List KeptBus)
    → Says p k → IsDone p.plant p.history b n r → Follows p.plant (Done b n r ∷ p.history) k.tasks
    → ImageFollows p.plant (Done b n r ∷ p.history) image → BusesFollow p.plant (Done b n r ∷ p.history) buses
    → Says (grown p (Done b n r))
    (record k { image = image; buses = buses; length = k.length + 1; kept = k.kept - 1 })
done_says p k b n r image buses says done follows imaged run = record {
  most = says.most;
  legal = (done, says.legal);
  each_task = follows;
  each_variable = imaged;
  each_source = (says.each_source.0, λ i lt. record { counted = (says.each_source.1 i lt).counted });
  each_take = says.each_take;
  each_worker = says.each_worker;
  each_input = says.each_input;
  each_output = says.each_output;
  each_owed = owed_done p.plant b n r p.history k.owed says.each_owed;
  each_bus = run;
  each_place = says.each_place;
  clock = says.clock;
  place = let e = says.place in omega arith;
  places = let e = says.places in let l = one_report_less p b n r done in omega arith;
  within = let w = says.within in let e = says.places in let s = some_kept p b n r done in omega arith;
}
