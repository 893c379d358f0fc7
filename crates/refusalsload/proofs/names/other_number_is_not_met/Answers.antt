use Rattle.std.proofs.Common.{pos}
use Rattle.iltypes.specs.declared.value.Value.TheVariants.{Int}
use Rattle.refusalsload.proofs.Expecting.{no_nine, none_met}
use Rattle.refusalsload.proofs.Tests.{not_true}
use Rattle.refusalsload.proofs.names.other_number_is_not_met.Goals as goal

pub returns : goal.returns
returns c = not_true c.are_met.result _ c.are_met.ensures (none_met c.args.plant.now _ (Int (pos 12)) c.requires no_nine)
