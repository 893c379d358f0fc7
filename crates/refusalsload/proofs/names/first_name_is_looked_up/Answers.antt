use Rattle.std.proofs.Common.{lit<}
use Rattle.refusalsload.proofs.Tests.{not_true}
use Rattle.refusalsload.proofs.names.first_name_is_looked_up.Goals as goal

pub returns : goal.returns
returns c = not_true c.are_known.result _ c.are_known.ensures (λ all. c.requires (all 0 c.args.first (lit< tt)))
