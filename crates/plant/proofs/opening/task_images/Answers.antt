use Rattle.std.proofs.Common.{◌≤◌, ◌∙◌, length, ap, arith}
use Rattle.ilplan.specs.Plans.{Planned}
use Rattle.plant.proofs.FirstImages.{images_turn, lawful_turn, all_images}
use Rattle.plant.proofs.opening.task_images.Goals as goal

pub loop-task-preserved : goal.loop-task-preserved
loop-task-preserved c =
    let setup = c.args.setup.now in let t = c.loop-task.task in let image = c.in_ok-task_image.field-0 in record {
      made = images_turn setup t image c.loop-task.images.items c.push.new.self.items c.in_ok-task_image.ensures
          c.in_ok-push.ensures.items c.loop-task.invariant.made;
      lawful = lawful_turn setup t image c.loop-task.images.items c.push.new.self.items c.in_ok-task_image.ensures
          c.in_ok-push.ensures.items c.loop-task.invariant.lawful;
    }

pub returns-clause-images : goal.returns-clause-images
returns-clause-images c =
    let setup = c.args.setup.now in let count = ap (λ (p : Planned). length p.tasks) c.plan.ensures.value in
    let le : length setup.plan.tasks ≤ c.loop-task.task = omega arith in
    c.loop-task.invariant.made ∙ all_images setup.plan.tasks setup.codes c.loop-task.task le
