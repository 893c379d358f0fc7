use Rattle.std.proofs.Common.{◌∙◌, List, slice_get, ap}
use Rattle.plantreceipts.specs.Receipts.{ShareParts}
use Rattle.refusalsplant.proofs.locks.receipts_of_the_last_bus_are_its_events.Goals as goal

pub returns : goal.returns
returns g c =
    (c.close.ensures.parts.buses 63 c.args.last.now
    (ap (λ (shares : List ShareParts). slice_get shares 63) c.close.ensures.buses ∙ c.requires)).is
