use Rattle.std.proofs.Common.{refl}
use Rattle.ilverify.proofs.RuleStores.{unstored}
use Rattle.ilverify.proofs.rules.store_known.Goals as goal

pub returns-in-Err : goal.returns-in-Err
returns-in-Err c =
    unstored c.args.negated c.args.known c.in_ok-stored.stored c.args.declared c.in-Err.cause c.in_ok-stored.ensures
    ((c.in-Err.ensures.refused c.in-Err.cause).0 refl)
