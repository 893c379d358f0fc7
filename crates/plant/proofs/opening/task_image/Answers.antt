use Rattle.plant.proofs.FirstImages.{owned_values, first_made, states_of_code}
use Rattle.plant.proofs.opening.task_image.Goals as goal

pub new-requires-clause-values : goal.new-requires-clause-values
new-requires-clause-values c =
    owned_values c.args.setup.now c.args.task c.planned_task-planned.result.now _ _ _
    c.planned_task-planned.ensures.value
    c.planned_task-planned.ensures.limits c.in_ok-code.ensures.of_task c.in_ok-externals.ensures c.in_ok-values.ensures

pub new-requires-clause-blocks : goal.new-requires-clause-blocks
new-requires-clause-blocks c =
    states_of_code c.args.setup.now c.args.task c.planned_task-planned.result.now _ _
    c.planned_task-planned.ensures.value c.planned_task-planned.ensures.states c.in_ok-code.ensures.of_task
    c.in_ok-blocks.ensures

pub returns : goal.returns
returns c =
    first_made c.args.setup.now c.args.task c.planned_task-planned.result.now _ _ _ _ _
    c.planned_task-planned.ensures.value
    c.in_ok-code.ensures.value c.planned_task-planned.ensures.limits c.planned_task-planned.ensures.declared
    c.in_ok-code.ensures.of_task c.in_ok-externals.ensures c.in_ok-values.ensures
    c.in_ok-blocks.ensures c.new.ensures
