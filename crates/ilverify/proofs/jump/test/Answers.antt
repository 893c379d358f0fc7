use Rattle.std.proofs.Common.{ℤ, refl, subst}
use Rattle.std.specs.Int.{w64}
use Rattle.iltypes.specs.Arithmetic.{IsLeast}
use Rattle.iltypes.proofs.Fitting.{again}
use Rattle.ilverify.specs.Comparisons.{IsPassing}
use Rattle.ilverify.proofs.jump.test.Goals as goal

pub returns-in-Some : goal.returns-in-Some
returns-in-Some c =
    let least = subst
    (λ (limit : ℤ). IsLeast (IsPassing c.args.comparison c.args.outcome limit c.in-Some-Int.range) c.in-Some.kept)
    (again w64 c.args.limit c.args.limit c.ranges.limit refl) c.in-Some.ensures.least in
    rw (← c.in-Some-Int.ensures.value, c.in-Some-Int.field-0-is)
    (λ code. record { kept = c.in-Some.kept; least = least; is = refl })
