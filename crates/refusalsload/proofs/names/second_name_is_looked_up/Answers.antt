use Rattle.std.proofs.Common.{lit<}
use Rattle.refusalsload.proofs.Tests.{not_true}
use Rattle.refusalsload.proofs.names.second_name_is_looked_up.Goals as goal

pub returns : goal.returns
returns c = not_true c.are_watchable.result _ c.are_watchable.ensures (λ all. c.requires (all 1 c.args.second (lit< tt)))
