use Rattle.std.proofs.Common.{◌≡◌, ◌∙◌, ℕ, Option, Some, ap, lit<}
use Rattle.std.specs.Prelude.{option_map}
use Rattle.gearcmd.specs.declared.requests.TaskKind.{TaskKind}
use Rattle.gearcmd.specs.declared.requests.TaskKind.TheVariants.{Event}
use Rattle.plantbuses.specs.OutputSteps.{OutputsFollow, output_for, output_in, output_of, planned}
use Rattle.refusalsplant.proofs.Results.{if_ok}
use Rattle.refusalsplant.proofs.buses.level_has_the_kind_of_its_task.Goals as goal

pub returns : goal.returns
returns c =
    let plant = planned c.args.plan.now in
    if_ok (λ outputs. OutputsFollow plant outputs.items) (λ outputs. output_in outputs.items 0 5 ≡ Some (output_for 3 Event))
    c.outputs_of.result c.outputs_of.ensures (λ outputs follow.
    (follow.1 0 c.requires.known).1 5 (lit< tt)
    ∙ (ap (λ (global : Option ℕ). option_map (output_of plant) global) c.requires.located
    ∙ ap (λ (kind : TaskKind). Some (output_for 3 kind)) c.requires.kind))
