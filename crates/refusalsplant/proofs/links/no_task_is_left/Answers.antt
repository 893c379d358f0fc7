use Rattle.plant.specs.Refusals.{take_cases}
use Rattle.refusalsplant.proofs.Driven.{none_taken, not_given}
use Rattle.refusalsplant.proofs.links.no_task_is_left.Goals as goal

pub returns : goal.returns
returns g c =
    let p = c.settle.new.plant in
    not_given (take_cases p 0) c.take.result c.take.ensures.refused
    (none_taken p c.in_ok-settle.ensures.quiet.scanned)
