use Rattle.std.proofs.Common.{◌≡◌, Bor, rules, tests}
use Rattle.std.proofs.lemmas.Iterator.{YieldsList-from_slice, first_from_find}
use Rattle.commissioning.specs.declared.asking.Asked.{Asked}
use Rattle.commissioning.proofs.First.{first_asked}
use Rattle.commissioning.proofs.surveys.asked_of.Goals as goal

pub returns : goal.returns
returns c =
    first_asked c.args.command c.args.asked.now c.find.result
    (first_from_find {v = λ (x : Bor Asked). x.now} _ _ _ (λ (a : Asked). a.command ≡ c.args.command) (λ (a : Asked). ¬ (a.command ≡ c.args.command))
    c.find.ensures.ran (YieldsList-from_slice c.args.asked.now cc) (λ x q k. search (rules, tests))
    (λ x q k. search (rules, tests)))
