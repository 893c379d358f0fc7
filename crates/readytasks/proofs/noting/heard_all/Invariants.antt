use Rattle.std.proofs.Common.{◌≡◌, ℕ, ◌<◌, ◌≤◌, List, ◌∷◌, length}
use Rattle.plantevents.specs.declared.event.Event.{Event}
use Rattle.plantevents.specs.declared.event.Event.TheVariants.{Heard}
use Rattle.readytasks.specs.declared.setup.TaskSetup.{TaskSetup as Setup}
use Rattle.readytasks.specs.TaskSets.{TaskFollows, task_at}
use Rattle.readytasks.specs.ReadyLists.{IsReadyList}
use Rattle.readytasks.proofs.noting.heard_all.Given as goal

abbrev pub invariant-loop-i : goal.invariant-loop-i
invariant-loop-i l = record {
  count : length l.states.items ≡ length l.fn.states.items;
  ready : (m : ℕ) → IsReadyList l.fn.states.items m l.fn.ready.items → IsReadyList l.states.items m l.ready.items;
  done : (t : ℕ) → t < l.i → (setup : Setup) (h : List Event)
      → TaskFollows setup t h (task_at l.fn.states.items t) → l.place ≡ length h
      → TaskFollows setup t (Heard l.bus l.frame ∷ h) (task_at l.states.items t);
  rest : (t : ℕ) → l.i ≤ t → task_at l.states.items t ≡ task_at l.fn.states.items t;
}
