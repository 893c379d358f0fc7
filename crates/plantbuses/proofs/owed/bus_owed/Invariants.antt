use Rattle.std.proofs.Common.{ℕ, ◌<◌, List}
use Rattle.busqueue.specs.declared.class.Class.{Class}
use Rattle.plantevents.specs.declared.event.Event.{Event}
use Rattle.plantevents.specs.Plants.{Plant}
use Rattle.plantbuses.specs.KeptSteps.{BusFollows, ImageFollows}
use Rattle.plantbuses.specs.OutputSteps.{AreOutputsOf}
use Rattle.plantbuses.specs.OwedSteps.{OwesAt}
use Rattle.plantbuses.proofs.owed.bus_owed.Given as goal

abbrev pub invariant-loop-address : goal.invariant-loop-address
invariant-loop-address l =
    (p : Plant) (b : ℕ) (h : List Event) → AreOutputsOf p b l.outputs → BusFollows p b h l.bus
    → ImageFollows p h l.image → (class : Class) (a : ℕ) → a < l.address → OwesAt p b h l.owed class a
