-- What is kept follows the history with one event more.
use Rattle.std.proofs.Common.{◌≡◌, ℕ, eqb, ◌+◌, ◌<◌, ◌≤◌, Bool, true, false, not, List, []}
use Rattle.std.proofs.Common.{◌∷◌, length, refl, sym, ap, ◌∙◌, ◌-◌, length-set, subst, arith}
use Rattle.std.proofs.lemmas.Bool.{eq-eqb, ne_eqb}
use Rattle.std.specs.Prelude.{if◌then◌else◌, slice_index_or}
use Rattle.plantevents.specs.declared.event.Event.{Event}
use Rattle.plantevents.specs.declared.event.Event.TheVariants.{Tick, Heard, Take, Commit, Hand, Done, Down, Up}
use Rattle.plantevents.specs.declared.role.Role.TheVariants.{Bus, Clock}
use Rattle.plantevents.specs.Histories.{moment, is_down, heards}
use Rattle.readytasks.specs.TaskSets.{TaskSet, Follows}
use Rattle.ilmachine.specs.Images.{ProcessImage, ImageVariable, layout_of, value_of, blocks_of}
use Rattle.plantevents.specs.Plants.{Plant}
use Rattle.plantevents.specs.Variables.{newest, write_of}
use Rattle.plantevents.specs.Legal.{IsUp, IsBack}
use Rattle.plantbuses.specs.KeptSteps.{KeptBus, bus_at, BusesFollow, ImageFollows}
use Rattle.plantbuses.specs.OwedSteps.{OwedFollow}
use Rattle.plantbuses.specs.declared.owed.OwedLevels.{OwedLevels}
use Rattle.plantbuses.proofs.OwedChanges.{owed_heard}
use Rattle.plant.specs.Shown.{Shown, grown, reserving, kept, is_full, count_below}
use Rattle.plant.specs.Refusals.{is_full_for}
use Rattle.plant.specs.KeptSteps.{KeptPlant, CountsFollow, Says}
use Rattle.plant.specs.InputSteps.{input_at}
use Rattle.plant.proofs.Refusing.{not_below, room_left, room_kept}
use Rattle.plant.proofs.Counting.{count_less, count_after_set}

pub tick_says : (p : Shown) (k : KeptPlant) (m : ℕ) (tasks : TaskSet) (after : ℕ) → Says p k → moment p.history ≤ m
    → is_full_for Clock p ≡ false → after + (if p.reserved.clock then 1 else 0) ≡ k.kept
    → Follows p.plant (Tick m ∷ p.history) tasks
    → Says (grown p (Tick m)) (record k { tasks = tasks; moment = m; length = k.length + 1; kept = after })
tick_says p k m tasks after says may room used follows = record {
  most = says.most;
  legal = (may, says.legal);
  each_task = follows;
  each_variable = record {
    laid = says.each_variable.laid;
    values = says.each_variable.values;
    instances =
        says.each_variable.instances;
  };
  each_source = (says.each_source.0, λ i lt. record { counted = (says.each_source.1 i lt).counted });
  each_take = says.each_take;
  each_worker = says.each_worker;
  each_bus = says.each_bus;
  each_input = says.each_input;
  each_output = says.each_output;
  each_owed = says.each_owed;
  each_place = says.each_place;
  clock = refl;
  place = let e = says.place in omega arith;
  places = let e = says.places in omega arith;
  within = let e = says.places in let l = says.place in room_left p.reserved.clock k.length k.kept after p.limit
      (rw (l, e) room) used says.within;
}

-- one bus fewer is up
one_up_less : (p : Shown) (b : ℕ) → IsUp p.plant p.history b
    → count_below (λ c. not (is_down c (Down b ∷ p.history))) p.plant.plan.buses + 1
    ≡ count_below (λ c. not (is_down c p.history)) p.plant.plan.buses
one_up_less p b up =
    count_less (λ c. not (is_down c p.history)) (λ c. not (is_down c (Down b ∷ p.history))) p.plant.plan.buses b
    up.known
    (ap not up.up) (ap (λ s. not (if s then true else is_down b p.history)) (eq-eqb b b refl))
    (λ c ne. ap (λ s. not (if s then true else is_down c p.history)) (ne_eqb b c (λ e. ne (sym e))))

some_kept : (p : Shown) (b : ℕ) → IsUp p.plant p.history b → 1 ≤ kept p
some_kept p b up = let l = one_up_less p b up in omega arith

pub some_left : (p : Shown) (k : KeptPlant) (b : ℕ) → Says p k → IsUp p.plant p.history b → 1 ≤ k.kept
some_left p k b says up = let s = some_kept p b up in let e = says.places in omega arith

pub down_says : (p : Shown) (k : KeptPlant) (b : ℕ) (buses : List KeptBus) → Says p k
    → IsUp p.plant p.history b
    → Follows p.plant (Down b ∷ p.history) k.tasks → BusesFollow p.plant (Down b ∷ p.history) buses
    → Says (grown p (Down b)) (record k { buses = buses; length = k.length + 1; kept = k.kept - 1 })
down_says p k b buses says up follows run = record {
  most = says.most;
  legal = (up, says.legal);
  each_task = follows;
  each_variable = record {
    laid = says.each_variable.laid;
    values = says.each_variable.values;
    instances =
        says.each_variable.instances;
  };
  each_source = (says.each_source.0, λ i lt. record { counted = (says.each_source.1 i lt).counted });
  each_take = says.each_take;
  each_worker = says.each_worker;
  each_bus = run;
  each_input = says.each_input;
  each_output = says.each_output;
  each_owed = says.each_owed;
  each_place = says.each_place;
  clock = says.clock;
  place = let e = says.place in omega arith;
  places = let e = says.places in let l = one_up_less p b up in omega arith;
  within = let w = says.within in let e = says.places in let s = some_kept p b up in omega arith;
}

-- ---- a bus that comes up again

-- one bus more is up, so a place is kept for its next Down
one_up_more : (p : Shown) (b : ℕ) → IsBack p.plant p.history b
    → count_below (λ c. not (is_down c p.history)) p.plant.plan.buses + 1
    ≡ count_below (λ c. not (is_down c (Up b ∷ p.history))) p.plant.plan.buses
one_up_more p b back =
    count_less (λ c. not (is_down c (Up b ∷ p.history))) (λ c. not (is_down c p.history)) p.plant.plan.buses b
    back.known
    (ap (λ s. not (if s then false else is_down b p.history)) (eq-eqb b b refl)) (ap not back.down)
    (λ c ne. sym (ap (λ s. not (if s then false else is_down c p.history)) (ne_eqb b c (λ e. ne (sym e)))))

pub up_says : (p : Shown) (k : KeptPlant) (b : ℕ) (buses : List KeptBus) (owed : List OwedLevels) → Says p k
    → IsBack p.plant p.history b → is_full p ≡ false
    → Follows p.plant (Up b ∷ p.history) k.tasks → BusesFollow p.plant (Up b ∷ p.history) buses
    → OwedFollow p.plant (Up b ∷ p.history) owed
    → Says (grown p (Up b)) (record k { buses = buses; owed = owed; length = k.length + 1; kept = k.kept + 1 })
up_says p k b buses owed says back room follows run owes = record {
  most = says.most;
  legal = (back, says.legal);
  each_task = follows;
  each_variable = record {
    laid = says.each_variable.laid;
    values = says.each_variable.values;
    instances =
        says.each_variable.instances;
  };
  each_source = (says.each_source.0, λ i lt. record { counted = (says.each_source.1 i lt).counted });
  each_take = says.each_take;
  each_worker = says.each_worker;
  each_bus = run;
  each_input = says.each_input;
  each_output = says.each_output;
  each_owed = owes;
  each_place = says.each_place;
  clock = says.clock;
  place = let e = says.place in omega arith;
  places = let e = says.places in let m = one_up_more p b back in omega arith;
  within = let e = says.places in let l = says.place in
      let r = not_below p.limit (length p.history + kept p + 2) room in omega arith;
}

-- ---- a frame that is heard

one_more : (same : Bool) (n len : ℕ) → n ≤ len → (if same then n + 1 else n) ≤ len + 1
one_more true n len le = omega arith
one_more false n len le = omega arith

-- no more frames are heard than there are events
pub heards_few : (b : ℕ) (h : List Event) → heards b h ≤ length h
heards_few b [] = omega arith
heards_few b (Tick m ∷ h) = let r = heards_few b h in omega arith
heards_few b (Heard c f ∷ h) = let r = one_more (eqb c b) (heards b h) (length h) (heards_few b h) in omega arith
heards_few b (Take w t s ∷ h) = let r = heards_few b h in omega arith
heards_few b (Commit w n r ∷ h) = let r = heards_few b h in omega arith
heards_few b (Hand c s t ∷ h) = let r = heards_few b h in omega arith
heards_few b (Done c n r ∷ h) = let r = heards_few b h in omega arith
heards_few b (Down c ∷ h) = let r = heards_few b h in omega arith
heards_few b (Up c ∷ h) = let r = heards_few b h in omega arith

-- what a frame writes is the same by the counts that are kept
abbrev WritesSame : Plant → ℕ → ℕ → List Event → List ℕ → Type 0
WritesSame p b f h counts = (v : ImageVariable) → input_at p.plan counts b f v ≡ write_of p v (Heard b f) h

pub image_heard : (p : Plant) (b f : ℕ) (h : List Event) (counts : List ℕ) (before after : ProcessImage)
    → ImageFollows p h before → WritesSame p b f h counts → layout_of after ≡ layout_of before
    → ((v : ImageVariable) → value_of after v ≡ newest (input_at p.plan counts b f v) (value_of before v))
    → ((t : ℕ) → blocks_of after t ≡ blocks_of before t)
    → ImageFollows p (Heard b f ∷ h) after
image_heard p b f h counts before after follows same laid values instances = record {
  laid = laid ∙ follows.laid;
  values = λ v. values v ∙ (ap (λ o. newest o (value_of before v)) (same v)
      ∙ ap (newest (write_of p v (Heard b f) h)) (follows.values v));
  instances = λ t. instances t ∙ follows.instances t;
}

pub heard_says : (p : Shown) (k : KeptPlant) (b f : ℕ) (tasks : TaskSet) (image : ProcessImage) (counts : List ℕ)
    (buses : List KeptBus) (after : ℕ) → Says p k → IsUp p.plant p.history b
    → is_full_for (Bus b) p ≡ false
    → after + (if slice_index_or p.reserved.buses b false then 1 else 0) ≡ k.kept
    → Follows p.plant (Heard b f ∷ p.history) tasks → ImageFollows p.plant (Heard b f ∷ p.history) image
    → CountsFollow p.plant.plan.globals p.plant.plan.sources (Heard b f ∷ p.history) counts
    → BusesFollow p.plant (Heard b f ∷ p.history) buses
    → Says (grown p (Heard b f))
    (record k { tasks = tasks; image = image; counts = counts; buses = buses; length = k.length + 1; kept = after })
heard_says p k b f tasks image counts buses after says up room used follows imaged counted run = record {
  most = says.most;
  legal = (up, says.legal);
  each_task = follows;
  each_variable = imaged;
  each_source = counted;
  each_take = says.each_take;
  each_worker = says.each_worker;
  each_bus = run;
  each_input = says.each_input;
  each_output = says.each_output;
  each_owed = owed_heard p.plant b f p.history k.owed says.each_owed;
  each_place = length-set p.reserved.buses b false ∙ says.each_place;
  clock = says.clock;
  place = let e = says.place in omega arith;
  places =
      let e = says.places in let l = says.each_place in let u = up.known in
      let set = count_after_set p.reserved.buses b false (omega arith) in omega arith;
  within = let e = says.places in let l = says.place in
      room_left (slice_index_or p.reserved.buses b false) k.length k.kept after p.limit (rw (l, e) room) used
      says.within;
}

-- the count of frames has room for one more
pub hear_room : (p : Shown) (k : KeptPlant) (b : ℕ) → Says p k → IsUp p.plant p.history b
    → (bus_at k.buses b).heards + 1 < 18446744073709551616
hear_room p k b says up =
    let e = (says.each_bus.1 b up.known).hears in let f = heards_few b p.history in let w = says.within in
    let l = says.place in let m = says.most in omega arith

-- a place that is kept back is one of those that are kept
pub place_counted : (p : Shown) (k : KeptPlant) (b : ℕ) → Says p k → IsUp p.plant p.history b
    → (if slice_index_or p.reserved.buses b false then 1 else 0) ≤ k.kept
place_counted p k b says up =
    let e = says.places in let l = says.each_place in let u = up.known in
    let set = count_after_set p.reserved.buses b false (omega arith) in omega arith

other_one : (place : Bool) → (if place then 1 else 0) + (if place then 0 else 1) ≡ 1
other_one true = refl
other_one false = refl

pub reserved_says : (p : Shown) (k : KeptPlant) (b after : ℕ) → Says p k → IsUp p.plant p.history b
    → is_full_for (Bus b) p ≡ false
    → after ≡ k.kept + (if slice_index_or p.reserved.buses b false then 0 else 1)
    → Says (reserving (Bus b) p) (record k { kept = after })
reserved_says p k b after says up room more = record {
  most = says.most;
  legal = says.legal;
  each_task = says.each_task;
  each_variable = says.each_variable;
  each_source = says.each_source;
  each_take = says.each_take;
  each_worker = says.each_worker;
  each_bus = says.each_bus;
  each_input = says.each_input;
  each_output = says.each_output;
  each_owed = says.each_owed;
  each_place = length-set p.reserved.buses b true ∙ says.each_place;
  clock = says.clock;
  place = says.place;
  places =
      let e = says.places in let l = says.each_place in let u = up.known in
      let set = count_after_set p.reserved.buses b true (omega arith) in
      let other = other_one (slice_index_or p.reserved.buses b false) in omega arith;
  within = let e = says.places in let l = says.place in
      room_kept (slice_index_or p.reserved.buses b false) k.length k.kept after p.limit (rw (l, e) room) more
      says.within;
}

pub within_limit : (p : Shown) (k : KeptPlant) → Says p k → length p.history + kept p ≤ p.limit
within_limit p k says =
    subst (λ n. n + kept p ≤ p.limit) says.place (subst (λ n. k.length + n ≤ p.limit) says.places says.within)
