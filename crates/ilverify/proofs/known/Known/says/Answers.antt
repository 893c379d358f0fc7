use Rattle.ilverify.proofs.KnownTypes.{says_truth, says_range}
use Rattle.ilverify.proofs.known.Known.says.Goals as goal

pub returns-in-Bool : goal.returns-in-Bool
returns-in-Bool c = rw c.in-Bool.is (says_truth c.args.declared c.eq.result c.eq.ensures)

pub returns-in-Int : goal.returns-in-Int
returns-in-Int c =
    rw c.in-Int.is (says_range c.in-Int.range c.args.declared c.eq-in-Int.result c.eq-in-Int.ensures)
