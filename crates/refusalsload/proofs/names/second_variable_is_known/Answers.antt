use Rattle.plantplay.specs.Expected.{IsKnown}
use Rattle.refusalsload.proofs.Tests.{one_all}
use Rattle.refusalsload.proofs.names.second_variable_is_known.Goals as goal

pub returns : goal.returns
returns c =
    c.are_known.ensures.1
    (one_all (IsKnown c.args.plan.now) c.args.expected (1, c.requires.known, c.requires.named))
