use Rattle.std.proofs.Common.{◌∙◌}
use Rattle.refusalsplant.proofs.Filed.{in_plant}
use Rattle.refusalsplant.proofs.locks.filed_tick_is_in_the_plant.Goals as goal

pub returns-in-Ok : goal.returns-in-Ok
returns-in-Ok g c =
    let filed = c.in-Ok.ensures.noted in
    let last = c.close.result in
    let h = last.plant.history in
    c.what_a_part_shows.ensures.clock h
    ∙ in_plant h c.args.shares.clock c.tick.new.share last.shares.clock filed.0 c.args.moment c.requires filed.1
    c.close.ensures.clock c.close.ensures.parts.clock
