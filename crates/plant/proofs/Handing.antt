-- What is kept once a transaction was handed out.
use Rattle.std.proofs.Common.{◌≡◌, ℕ, ◌+◌, ◌<◌, Bool, false, List, ◌∷◌, length, refl, sym, ap, arith}
use Rattle.std.proofs.lemmas.Bool.{eq-eqb, ne_eqb}
use Rattle.std.specs.Prelude.{if◌then◌else◌}
use Rattle.gearcmd.specs.FrameLists.{FrameList}
use Rattle.plantevents.specs.declared.event.Event.{Event}
use Rattle.plantevents.specs.declared.event.Event.TheVariants.{Hand}
use Rattle.plantevents.specs.declared.event.Origin.{Origin}
use Rattle.plantevents.specs.Legal.{IsHand}
use Rattle.readytasks.specs.TaskSets.{Follows}
use Rattle.plantbuses.specs.KeptSteps.{KeptBus, BusesFollow}
use Rattle.plantbuses.specs.OwedSteps.{OwedFollow}
use Rattle.plantbuses.specs.declared.owed.OwedLevels.{OwedLevels}
use Rattle.plant.specs.Shown.{Shown, grown, kept, is_full, unreported, sum_below}
use Rattle.plant.specs.KeptSteps.{KeptPlant, Says}
use Rattle.plant.proofs.Counting.{sum_more}
use Rattle.plant.proofs.Refusing.{not_below}

-- ---- the place that is kept for the report

one_report_more : (buses b : ℕ) (s : Origin) (t : FrameList) (h : List Event) → b < buses
    → sum_below (λ c. unreported c (Hand b s t ∷ h)) buses ≡ sum_below (λ c. unreported c h) buses + 1
one_report_more buses b s t h lt =
    sum_more (λ c. unreported c h) (λ c. unreported c (Hand b s t ∷ h)) buses b lt
    (ap (λ (same : Bool). if same then unreported b h + 1 else unreported b h) (eq-eqb b b refl))
    (λ c ne. ap (λ (same : Bool). if same then unreported c h + 1 else unreported c h) (ne_eqb b c (λ e. ne (sym e))))

-- ---- all that is kept

pub hand_says : (p : Shown) (k : KeptPlant) (b : ℕ) (s : Origin) (t : FrameList) (buses : List KeptBus)
    (owed : List OwedLevels) → Says p k
    → IsHand p.plant p.history b s t → is_full p ≡ false → Follows p.plant (Hand b s t ∷ p.history) k.tasks
    → BusesFollow p.plant (Hand b s t ∷ p.history) buses → OwedFollow p.plant (Hand b s t ∷ p.history) owed
    → Says (grown p (Hand b s t)) (record k { buses = buses; owed = owed; length = k.length + 1; kept = k.kept + 1 })
hand_says p k b s t buses owed says may room follows run owes = record {
  most = says.most;
  legal = (may, says.legal);
  each_task = follows;
  each_variable = record {
    laid = says.each_variable.laid;
    values = says.each_variable.values;
    instances =
        says.each_variable.instances;
  };
  each_source = (says.each_source.0, λ i lt. record { counted = (says.each_source.1 i lt).counted });
  each_take = says.each_take;
  each_worker = says.each_worker;
  each_bus = run;
  each_input = says.each_input;
  each_output = says.each_output;
  each_owed = owes;
  each_place = says.each_place;
  clock = says.clock;
  place = let e = says.place in omega arith;
  places =
      let e = says.places in
      let m = one_report_more p.plant.plan.buses b s t p.history may.up.known in omega arith;
  within = let e = says.places in let l = says.place in
      let r = not_below p.limit (length p.history + kept p + 2) room in omega arith;
}
