use Rattle.std.proofs.Common.{◌∙◌, ◌<◌, length, ap, arith}
use Rattle.std.proofs.lemmas.List.{get_or_read}
use Rattle.plantbuses.specs.KeptSteps.{KeptBus, no_bus}
use Rattle.refusalsplant.proofs.buses.bus_that_comes_up_is_down_no_more.Goals as goal

pub note_up-requires : goal.note_up-requires
note_up-requires c = let many = c.requires.follows.0 in let known = c.requires.known in omega arith

pub index-requires : goal.index-requires
index-requires c =
    let after = c.note_up.ensures c.args.plant.now.plant c.args.plant.now.history c.requires.follows in
    let many = after.0 in let known = c.requires.known in omega arith

pub returns : goal.returns
returns c =
    let buses = c.note_up.new.buses.items in
    let after = c.note_up.ensures c.args.plant.now.plant c.args.plant.now.history c.requires.follows in
    let there : 0 < length buses = let many = after.0 in let known = c.requires.known in omega arith in
    let read = get_or_read buses 0 c.index.result.now there c.index.ensures no_bus in
    c.is_down.ensures.value ∙ (ap (λ (b : KeptBus). b.is_down) read ∙ (after.1 0 c.requires.known).down_so)
