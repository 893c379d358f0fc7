use Rattle.std.proofs.Common.{◌≡◌, ℕ, ◌<◌, ◌≤◌, List, ◌∷◌, length}
use Rattle.plantevents.specs.declared.event.Event.{Event}
use Rattle.plantevents.specs.declared.event.Event.TheVariants.{Tick}
use Rattle.plantevents.specs.Histories.{moment}
use Rattle.readytasks.specs.declared.setup.TaskSetup.{TaskSetup as Setup}
use Rattle.readytasks.specs.TaskSets.{TaskFollows, task_at}
use Rattle.readytasks.specs.TaskSetSteps.{is_ready}
use Rattle.readytasks.specs.ReadyLists.{IsOrderOf, is_listed}
use Rattle.readytasks.proofs.noting.tick_all.Given as goal

abbrev pub invariant-loop-i : goal.invariant-loop-i
invariant-loop-i l = record {
  count : length l.states.items ≡ length l.fn.states.items;
  order : IsOrderOf l.states.items l.ready.items;
  listed : (t : ℕ) → t < l.i → is_listed l.ready.items t ≡ is_ready (task_at l.states.items t) l.moment;
  ahead : (t : ℕ) → l.i ≤ t → t < length l.states.items
      → is_listed l.ready.items t ≡ is_ready (task_at l.states.items t) l.now;
  done : (t : ℕ) → t < l.i → (setup : Setup) (h : List Event)
      → TaskFollows setup t h (task_at l.fn.states.items t) → l.now ≡ moment h → l.place ≡ length h
      → TaskFollows setup t (Tick l.moment ∷ h) (task_at l.states.items t);
  rest : (t : ℕ) → l.i ≤ t → task_at l.states.items t ≡ task_at l.fn.states.items t;
}
