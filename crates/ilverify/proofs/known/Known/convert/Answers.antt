use Rattle.iltypes.specs.Ranges.{IsWithin}
use Rattle.ilverify.proofs.FunctionRanges.{convert_kept, convert_refused}
use Rattle.ilverify.proofs.known.Known.convert.Goals as goal

pub returns-then-within : goal.returns-then-within
returns-then-within c =
    convert_kept c.args.target c.args.found c.range-allowed.result c.range-allowed.ensures.low
    c.range-allowed.ensures.high
    (c.within.ensures.0 c.if-within.true)

pub returns-else-within : goal.returns-else-within
returns-else-within c =
    let n : ¬ IsWithin c.args.found c.range-allowed.result = λ h. let t = c.within.ensures.1 h in let f =
    c.if-within.false in absurd
    (cc) in
    convert_refused c.args.target c.args.found c.range-allowed.result c.range-allowed.ensures.low
    c.range-allowed.ensures.high n
