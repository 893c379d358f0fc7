use Rattle.std.proofs.Common.{◌≡◌, ◌∙◌, List, [], ◌∷◌, refl}
use Rattle.wordlines.specs.declared.tries.BusTries.{BusTries}
use Rattle.wordlines.specs.Wirings.{tries_in}
use Rattle.refusalslanguage.proofs.plans.attempts_are_those_of_the_bus.Goals as goal

said_tries : (tries : List BusTries) (said : BusTries) → tries ≡ said ∷ [] → said.bus ≡ 1 → said.tries ≡ 5
    → tries_in tries 1 ≡ 5
said_tries tries said is bus number = rw (is, bus, number) refl

pub returns : goal.returns
returns c =
    c.tries.ensures.value
    ∙ said_tries c.args.plan.now.tries c.args.said c.requires.said c.requires.bus c.requires.tries
