use Rattle.std.proofs.Common.{pos, refl, rules, FitsSigned}
use Rattle.std.specs.Int.{w64}
use Rattle.iltypes.specs.Ranges.{Holds}
use Rattle.ilverify.proofs.ResultRanges.{mod_by_zero, mod_of}
use Rattle.ilverify.proofs.known.Known.after_mod.Goals as goal

pub returns-in-Some : goal.returns-in-Some
returns-in-Some c =
    let a : FitsSigned w64 c.in-Some.range.lo = search rules in
    let b : FitsSigned w64 c.in-Some.range.hi = search rules in
    let e = c.in-Some.ensures in
    let n : ¬ Holds c.args.right (pos 0) = λ h. let t = e.none.1 h in absurd (cc) in
    mod_of c.args.left c.args.right c.in-Some.range a b n e.low e.high e.each

pub returns-in-None : goal.returns-in-None
returns-in-None c = mod_by_zero c.args.left c.args.right (c.in-None.ensures.none.0 refl)
