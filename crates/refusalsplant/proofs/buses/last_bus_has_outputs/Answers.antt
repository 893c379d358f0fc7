use Rattle.std.proofs.Common.{◌≡◌, ◌∙◌, length}
use Rattle.plantbuses.specs.OutputSteps.{OutputsFollow, planned}
use Rattle.refusalsplant.proofs.Results.{if_ok}
use Rattle.refusalsplant.proofs.buses.last_bus_has_outputs.Goals as goal

pub returns : goal.returns
returns c =
    if_ok (λ outputs. OutputsFollow (planned c.args.plan.now) outputs.items) (λ outputs. length outputs.items ≡ 64)
    c.outputs_of.result c.outputs_of.ensures (λ outputs follow. follow.0 ∙ c.requires)
