use Rattle.std.proofs.Common.{refl}
use Rattle.refusalsload.proofs.Dotted.{not_watched}
use Rattle.refusalsload.proofs.Tests.{not_true}
use Rattle.refusalsload.proofs.names.instance_is_named_too.Goals as goal

pub returns : goal.returns
returns c =
    not_true c.are_watchable.result _ c.are_watchable.ensures
    (not_watched c.args.plan.now _ refl c.requires.instances c.requires.globals)
