use Rattle.std.proofs.Common.{◌∙◌, ◌∷◌}
use Rattle.plantevents.specs.declared.event.Event.TheVariants.{Heard}
use Rattle.plantevents.specs.Plants.{activator}
use Rattle.refusalsplant.proofs.TaskTurns.{as_many, other_bus}
use Rattle.refusalsplant.proofs.tasks.message_of_another_bus_activates_nothing.Goals as goal

pub ready-requires : goal.ready-requires
ready-requires c =
    let p = c.args.plant.now in
    let heard = c.note_frame.ensures.follows p.plant p.history c.requires.follows c.requires.place in
    record {
      known = as_many p.plant p.history (Heard 1 c.args.frame ∷ p.history) c.args.tasks.now c.note_frame.new.self
          c.requires.follows heard 2 c.requires.known;
    }

pub returns : goal.returns
returns c =
    let p = c.args.plant.now in
    let heard = c.note_frame.ensures.follows p.plant p.history c.requires.follows c.requires.place in
    c.ready.ensures.value p.plant (Heard 1 c.args.frame ∷ p.history) heard
    ∙ other_bus (activator p.plant 2) c.args.first c.args.source c.args.frame p.history c.requires.bus c.requires.none
