use Rattle.std.proofs.Common.{true}
use Rattle.iltypes.specs.declared.value.Value.TheVariants.{Bool}
use Rattle.refusalsload.proofs.Expecting.{no_false, none_met}
use Rattle.refusalsload.proofs.Tests.{not_true}
use Rattle.refusalsload.proofs.names.false_is_not_met_by_true.Goals as goal

pub returns : goal.returns
returns c = not_true c.are_met.result _ c.are_met.ensures (none_met c.args.plant.now _ (Bool true) c.requires no_false)
