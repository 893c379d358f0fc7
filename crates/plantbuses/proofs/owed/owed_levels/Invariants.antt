use Rattle.std.proofs.Common.{List}
use Rattle.plantevents.specs.declared.event.Event.{Event}
use Rattle.plantevents.specs.Plants.{Plant}
use Rattle.plantbuses.specs.KeptSteps.{BusesFollow, ImageFollows}
use Rattle.plantbuses.specs.OutputSteps.{OutputsFollow}
use Rattle.plantbuses.specs.OwedSteps.{OwedFollows, no_levels}
use Rattle.plantbuses.proofs.LocatedLevels.{AreMade}
use Rattle.plantbuses.proofs.owed.owed_levels.Given as goal

abbrev pub invariant-loop-bus : goal.invariant-loop-bus
invariant-loop-bus l =
    (p : Plant) (h : List Event) → OutputsFollow p l.outputs → BusesFollow p h l.buses → ImageFollows p h l.image
    → AreMade (λ b levels. OwedFollows p b h levels) no_levels l.bus l.owed.items
