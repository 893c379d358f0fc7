use Rattle.std.proofs.Common.{refl}
use Rattle.plantevents.proofs.Slots.{slot_of}
use Rattle.plantevents.proofs.laws.slots_are_those_of_the_plan.Goals as goal

pub returns : goal.returns
returns c p t task code number s is of ordered there =
    slot_of p t task code number s s.variable is of ordered there refl
