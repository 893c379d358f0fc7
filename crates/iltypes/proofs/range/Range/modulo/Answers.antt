use Rattle.std.proofs.Common.{arith, pos}
use Rattle.std.proofs.lemmas.Int.{ints}
use Rattle.iltypes.specs.Ranges.{Holds}
use Rattle.iltypes.proofs.Remainders.{holds_remainders, lower_below_upper}
use Rattle.iltypes.proofs.range.Range.modulo.Goals as goal

pub invariant_of-result : goal.invariant_of-result
invariant_of-result c =
    let le = lower_below_upper c.args.self c.args.other in
    record { ordered = omega (arith, ints, c.lower_remainder.ensures, c.upper_remainder.ensures, le) }

pub returns-clause-each : goal.returns-clause-each
returns-clause-each c =
    let n : ¬ Holds c.args.other (pos 0) = λ h. let t = c.contains.ensures.1 h in let f = c.if-contains.false in absurd
    (cc) in
    holds_remainders c.args.self c.args.other _ n (omega (arith, ints, c.lower_remainder.ensures))
    (omega (arith, ints, c.upper_remainder.ensures))
