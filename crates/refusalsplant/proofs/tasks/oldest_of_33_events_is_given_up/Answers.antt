use Rattle.std.proofs.Common.{◌∙◌, ◌∷◌}
use Rattle.plantevents.specs.declared.event.Event.TheVariants.{Heard}
use Rattle.plantevents.specs.Plants.{activator}
use Rattle.refusalsplant.proofs.TaskTurns.{as_many, thirty_third}
use Rattle.refusalsplant.proofs.tasks.oldest_of_33_events_is_given_up.Goals as goal

pub first_pending-requires : goal.first_pending-requires
first_pending-requires c =
    let heard = c.note_frame.ensures.follows c.args.plant.now.plant c.args.plant.now.history c.requires.follows c.requires.place in
    record {
      known = as_many c.args.plant.now.plant c.args.plant.now.history (Heard c.args.bus c.args.frame ∷ c.args.plant.now.history) c.args.tasks.now c.note_frame.new.self
          c.requires.follows heard 2 c.requires.known;
    }

pub returns : goal.returns
returns c =
    let bus = c.args.bus in
    let frame = c.args.frame in
    let heard = c.note_frame.ensures.follows c.args.plant.now.plant c.args.plant.now.history c.requires.follows c.requires.place in
    c.first_pending.ensures.value c.args.plant.now.plant (Heard bus frame ∷ c.args.plant.now.history) heard
    ∙ thirty_third (activator c.args.plant.now.plant 2) bus frame c.args.plant.now.history c.args.oldest c.args.next c.args.more.now c.requires.message c.requires.full
    c.requires.count
