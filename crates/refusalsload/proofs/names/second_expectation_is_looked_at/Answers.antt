use Rattle.std.proofs.Common.{lit<}
use Rattle.refusalsload.proofs.Tests.{not_true}
use Rattle.refusalsload.proofs.names.second_expectation_is_looked_at.Goals as goal

pub returns : goal.returns
returns c = not_true c.are_met.result _ c.are_met.ensures (λ all. c.requires (all 1 c.args.second (lit< tt)))
