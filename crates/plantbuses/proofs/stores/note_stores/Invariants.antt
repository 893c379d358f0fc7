use Rattle.std.proofs.Common.{◌≡◌, List, length, drop}
use Rattle.plantevents.specs.declared.event.Event.{Event}
use Rattle.plantevents.specs.Plants.{Plant}
use Rattle.plantbuses.specs.KeptSteps.{BusesFollow, ImageFollows}
use Rattle.plantbuses.specs.StoreSteps.{OwedBesideSlots}
use Rattle.plantbuses.proofs.stores.note_stores.Given as goal

abbrev pub invariant-loop-stored : goal.invariant-loop-stored
invariant-loop-stored l = record {
  count : length l.owed.items ≡ length l.fn.owed.items;
  beside : (p : Plant) (h : List Event) → p.plan ≡ l.plan → BusesFollow p h l.buses → ImageFollows p h l.image
      → OwedBesideSlots p h l.stores l.fn.owed.items
      → OwedBesideSlots p h (drop l.stored-index l.stores) l.owed.items;
}
