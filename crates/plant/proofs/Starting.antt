-- What is kept of a plant to which nothing has happened.
use Rattle.std.proofs.Common.{◌≡◌, ℕ, zero, suc, ◌≤◌, Bool, true, false, List, [], length}
use Rattle.std.proofs.Common.{replicate, Option, refl, sym, subst, arith}
use Rattle.std.proofs.lemmas.List.{get_or-replicate, length-replicate}
use Rattle.limits.specs.Limits.{most_buses}
use Rattle.ilcompile.specs.Loaded.{Loaded}
use Rattle.ilmachine.specs.Images.{ProcessImage}
use Rattle.plantevents.specs.declared.event.Event.{Event}
use Rattle.plantevents.specs.Plants.{Plant, opening}
use Rattle.plantevents.specs.Histories.{OpenScan}
use Rattle.readytasks.specs.TaskSets.{TaskSet, Follows}
use Rattle.plantbuses.specs.declared.outputs.LevelOutput.{LevelOutput}
use Rattle.plantbuses.specs.OutputSteps.{planned, OutputsFollow}
use Rattle.plant.specs.IndexSteps.{FromBus, InputsFollow}
use Rattle.plantbuses.specs.OwedSteps.{OwedFollow}
use Rattle.plantbuses.specs.declared.owed.OwedLevels.{OwedLevels}
use Rattle.plantbuses.specs.KeptSteps.{KeptBus, BusesFollow, ImageFollows, AreFresh, AreIdle}
use Rattle.plant.specs.Shown.{opened, plant_of, kept, count_below, count_true, IsWorkerCount, IsLimit}
use Rattle.plant.specs.OpeningSteps.{as_planned}
use Rattle.plant.specs.KeptSteps.{CountsFollow, Says}

-- ---- how many places are kept

none_count : (n : ℕ) → count_below (λ i. false) n ≡ 0
none_count zero = refl
none_count (suc n) = let e = none_count n in omega arith

all_count : (n : ℕ) → count_below (λ i. true) n ≡ n
all_count zero = refl
all_count (suc n) = let e = all_count n in omega arith

none_true : (n : ℕ) → count_true (replicate n false) ≡ 0
none_true zero = refl
none_true (suc n) = let e = none_true n in omega arith

kept_at_first : (setup : Loaded) (workers limit : ℕ) → setup.plan.buses ≡ kept (opened setup workers limit)
kept_at_first setup workers limit =
    let n = setup.plan.buses in let a = none_count workers in let b = none_count n in let c = all_count n in
    let d = none_true n in omega arith

-- ---- all that is kept

pub opened_says : (setup : Loaded) (workers limit : ℕ) (tasks : TaskSet) (counts : List ℕ)
    (scans : List (Option OpenScan))
    (buses : List KeptBus) (inputs : List FromBus) (outputs : List (List (Option LevelOutput)))
    (owed : List OwedLevels) → IsWorkerCount workers → IsLimit limit
    → setup.plan.buses ≤ most_buses
    → Follows (plant_of setup workers) [] tasks → CountsFollow setup.plan.globals setup.plan.sources [] counts
    → AreIdle workers scans → AreFresh setup.plan.buses buses
    → InputsFollow setup.plan inputs → OutputsFollow (planned setup.plan) outputs
    → OwedFollow (plant_of setup workers) [] owed
    → Says (opened setup workers limit) (record {
      tasks = tasks;
      image = opening (plant_of setup workers);
      counts = counts;
      takes = replicate (length setup.plan.tasks) 0;
      scans = scans;
      buses = buses;
      inputs = inputs;
      outputs = outputs;
      owed = owed;
      moment = 0;
      length = 0;
      kept = setup.plan.buses;
    })
opened_says setup workers limit tasks counts scans buses inputs outputs owed some within few follows counted idle fresh
    heard located owes =
    record {
      most = let m = within.1 in omega arith;
      legal = tt;
      each_task = follows;
      each_variable = record { laid = refl; values = λ v. refl; instances = λ t. refl };
      each_source = counted;
      each_take = (
        length-replicate (length setup.plan.tasks) 0,
        λ t lt. get_or-replicate (length setup.plan.tasks) t 0 0 lt,
      );
      each_worker = idle;
      each_bus = (fresh.0, λ b lt. fresh.1 (plant_of setup workers) b lt);
      each_input = heard;
      each_output = located;
      each_owed = owes;
      each_place = length-replicate setup.plan.buses false;
      clock = refl;
      place = refl;
      places = kept_at_first setup workers limit;
      within = let l = within.0 in omega arith;
    }

-- which levels are owed at first
pub first_owes : (setup : Loaded) (workers : ℕ) (outputs : List (List (Option LevelOutput))) (buses : List KeptBus)
    (image : ProcessImage) (owed : List OwedLevels) → OutputsFollow (planned setup.plan) outputs
    → AreFresh setup.plan.buses buses → image ≡ opening (as_planned setup)
    → ((p : Plant) (h : List Event) → OutputsFollow p outputs → BusesFollow p h buses → ImageFollows p h image
    → OwedFollow p h owed)
    → OwedFollow (plant_of setup workers) [] owed
first_owes setup workers outputs buses image owed located fresh first made =
    let p = plant_of setup workers in
    let imaged : ImageFollows p [] (opening p) = record { laid = refl; values = λ v. refl; instances = λ t. refl } in
    made p [] located (fresh.0, λ b lt. fresh.1 p b lt) (subst (ImageFollows p []) (sym first) imaged)

-- as the code makes them
pub kept_says : (setup : Loaded) (workers limit : ℕ) (history : List Event) (places : List Bool) (tasks : TaskSet)
    (image : ProcessImage) (counts takes : List ℕ) (scans : List (Option OpenScan)) (buses : List KeptBus)
    (inputs : List FromBus) (outputs : List (List (Option LevelOutput))) (owed : List OwedLevels)
    (places_kept : ℕ)
    → IsWorkerCount workers → IsLimit limit → setup.plan.buses ≤ most_buses → history ≡ [] → places ≡ replicate
    setup.plan.buses false
    → Follows (plant_of setup workers) [] tasks → image ≡ opening (as_planned setup)
    → CountsFollow setup.plan.globals setup.plan.sources [] counts → takes ≡ replicate (length setup.plan.tasks) 0
    → AreIdle workers scans → AreFresh setup.plan.buses buses → InputsFollow setup.plan inputs
    → OutputsFollow (planned setup.plan) outputs → OwedFollow (plant_of setup workers) [] owed → places_kept ≡ setup.plan.buses
    → Says (record {
      plant = plant_of setup workers;
      limit = limit;
      history = history;
      reserved = record { clock = false; buses = places };
    }) (record {
      tasks = tasks;
      image = image;
      counts = counts;
      takes = takes;
      scans = scans;
      buses = buses;
      inputs = inputs;
      outputs = outputs;
      owed = owed;
      moment = 0;
      length = 0;
      kept = places_kept;
    })
kept_says setup workers limit history places tasks image counts takes scans buses inputs outputs owed places_kept some
    within few none back follows first counted untaken idle fresh heard located owes up =
    rw (none, back, first, untaken, up) (opened_says setup workers limit tasks counts scans buses inputs outputs owed
    some within few follows counted idle fresh heard located owes)
