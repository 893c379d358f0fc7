use Rattle.std.proofs.Common.{rules}
use Rattle.ilverify.proofs.jump.refine.Goals as goal

pub returns-in-Some-Test : goal.returns-in-Some-Test
returns-in-Some-Test c = λ code. let tested = c.test.ensures code in search (rules, tested)
