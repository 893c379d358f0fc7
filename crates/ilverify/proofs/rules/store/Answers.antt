use Rattle.ilverify.proofs.RuleStores.{store_to_output}
use Rattle.ilverify.proofs.rules.store.Goals as goal

pub returns-else-writable : goal.returns-else-writable
returns-else-writable c =
    store_to_output c.args.negated c.args.current c.args.declared c.args.writable c.in_ok-stored.stored
    c.if-writable.false c.in_ok-stored.ensures
