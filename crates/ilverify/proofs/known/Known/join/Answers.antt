use Rattle.std.proofs.Common.{refl}
use Rattle.ilverify.proofs.JoinValues.{apart, apart_round, numbers_held}
use Rattle.ilverify.proofs.known.Known.join.Goals as goal

pub returns-in-Bool-Int-clause-none : goal.returns-in-Bool-Int-clause-none
returns-in-Bool-Int-clause-none c =
    rw (c.in-Bool-Int.is-0, c.in-Bool-Int.is-1) (λ e. apart c.in-Bool-Int.field-0-1, λ h. refl)

pub returns-in-Int-Bool-clause-none : goal.returns-in-Int-Bool-clause-none
returns-in-Int-Bool-clause-none c =
    rw (c.in-Int-Bool.is-0, c.in-Int-Bool.is-1) (λ e. apart_round c.in-Int-Bool.field-0-0, λ h. refl)

pub returns-in-Int-Int-clause-none : goal.returns-in-Int-Int-clause-none
returns-in-Int-Int-clause-none c = (
  λ e. absurd (cc),
  rw (c.in-Int-Int.is-0, c.in-Int-Int.is-1)
      (λ n. absurd (n (numbers_held c.in-Int-Int.one c.in-Int-Int.other c.hull.result c.hull.ensures.each))),
)
