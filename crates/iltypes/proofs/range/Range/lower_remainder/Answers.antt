use Rattle.std.proofs.Common.{◌≡◌, ◌∙◌, pos, neg_ℤ, ◌-ℤ◌, true, FitsSigned, subst, rules, arith}
use Rattle.std.specs.Prelude.{int_lt}
use Rattle.std.specs.Int.{w64, int_max, cast_signed, cast_unsigned}
use Rattle.std.proofs.lemmas.Int.{ints, to_z-of_z}
use Rattle.iltypes.specs.Arithmetic.{most_left}
use Rattle.iltypes.proofs.Fitting.{again}
use Rattle.iltypes.proofs.Remainders.{lower_is}
use Rattle.iltypes.proofs.range.Range.lower_remainder.Goals as goal

pub returns-then-self-lt0 : goal.returns-then-self-lt0
returns-then-self-lt0 c =
    let f : FitsSigned w64 c.max.result = search rules in
    let al : FitsSigned w64 c.args.self.lo = search rules in
    let e = to_z-of_z w64 c.args.self.lo al in
    let t : int_lt c.args.self.lo (pos 0) ≡ true = subst (λ l. int_lt l (pos 0) ≡ true) e c.if-self-lt0.true in
    let n : cast_signed w64 (cast_unsigned w64 (pos 0 -ℤ cast_signed w64 (cast_unsigned w64 c.most_left.result)))
    ≡ neg_ℤ (pos (most_left c.args.other)) =
    omega (arith, ints, c.most_left.ensures) in
    again w64 c.max.result _ f (lower_is c.args.self.lo _ (most_left c.args.other) t
    (c.max.ensures.value ∙ (λ i. int_max (e i) (n i))))
