use Rattle.std.proofs.Common.{◌≢◌, [], ◌∷◌}
use Rattle.plantevents.specs.declared.event.Event.TheVariants.{Tick}
use Rattle.plantevents.specs.declared.role.Role.TheVariants.{Clock}
use Rattle.plantevents.specs.Parts.{placed}
use Rattle.refusalsplant.proofs.Filed.{has_tick, last_is}
use Rattle.refusalsplant.proofs.locks.receipt_has_the_place_in_the_history.Goals as goal

pub returns-in-Ok : goal.returns-in-Ok
returns-in-Ok g c =
    let filed = c.in-Ok.ensures.noted in
    let last = c.close.result in
    let h = last.plant.history in
    let old = c.args.shares.clock in
    let new = c.tick.new.share in
    let place = c.last_place-place.result in
    (c.each_event_is_in_one_part.ensures Clock h (placed place (Tick c.args.moment))).0
    (has_tick h old new last.shares.clock filed.0 c.args.moment place c.requires filed.1 c.close.ensures.clock
    c.close.ensures.parts.clock (last_is old new filed.0 c.args.moment place filed.1 c.last_place-place.ensures.value))
