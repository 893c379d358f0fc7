use Rattle.std.proofs.Common.{true}
use Rattle.iltypes.specs.declared.value.Value.TheVariants as values
use Rattle.iltypes.proofs.Limits.{holds_low}
use Rattle.ilverify.proofs.Knowns.{stored_within}
use Rattle.ilverify.proofs.known.Known.check_store.Goals as goal

pub returns-in-Bool-Int-clause-ok : goal.returns-in-Bool-Int-clause-ok
returns-in-Bool-Int-clause-ok c =
    rw (c.in-Bool-Int.is-0, c.in-Bool-Int.is-1) (λ e. absurd (cc), λ h. absurd (h (values.Bool true) tt))

pub returns-in-Int-Bool-clause-ok : goal.returns-in-Int-Bool-clause-ok
returns-in-Int-Bool-clause-ok c =
    let r = c.in-Int-Bool.field-0-0 in
    rw (c.in-Int-Bool.is-0, c.in-Int-Bool.is-1) (λ e. absurd (cc), λ h. absurd (h (values.Int r.lo) (holds_low r)))

pub returns-else-within-clause-ok : goal.returns-else-within-clause-ok
returns-else-within-clause-ok c =
    let f = c.if-within.false in
    rw (c.in-Int-Int.is-0, c.in-Int-Int.is-1) (
      λ e. absurd (cc),
      λ h. let t = c.within.ensures.1 (stored_within c.in-Int-Int.found c.in-Int-Int.allowed h) in absurd
          (cc),
    )
