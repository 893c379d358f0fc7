-- Each event of a legal history was allowed after its front.
use Rattle.std.proofs.Common.{List, [], ◌∷◌, ◌++◌}
use Rattle.plantevents.specs.declared.event.Event.{Event}
use Rattle.plantevents.specs.Plants.{Plant}
use Rattle.plantevents.specs.Legal.{Allowed, AreLegal}

pub was_allowed : (p : Plant) (later front : List Event) (e : Event) → AreLegal p (later ++ e ∷ front)
    → Allowed p front e
was_allowed p [] front e legal = legal.0
was_allowed p (newest ∷ later) front e legal = was_allowed p later front e legal.1
