use Rattle.std.proofs.Common.{◌∙◌, List, slice_get, ap}
use Rattle.plantevents.specs.declared.activator.PendingEvent.{PendingEvent}
use Rattle.refusalsplant.proofs.tasks.oldest_event_is_first.Goals as goal

pub returns : goal.returns
returns c =
    c.first_pending.ensures.value c.args.plant.now.plant c.args.plant.now.history c.requires.follows
    ∙ ap (λ (events : List PendingEvent). slice_get events 0) c.requires.both
