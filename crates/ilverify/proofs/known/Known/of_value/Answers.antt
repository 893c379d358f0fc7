use Rattle.std.proofs.Common.{refl, rules, FitsSigned}
use Rattle.std.specs.Int.{w64}
use Rattle.iltypes.proofs.Fitting.{again}
use Rattle.ilverify.proofs.FunctionRanges.{constant_known}
use Rattle.ilverify.proofs.known.Known.of_value.Goals as goal

pub returns-in-Int : goal.returns-in-Int
returns-in-Int c =
    let n = c.in-Int.number in
    let f : FitsSigned w64 n = search rules in
    rw c.in-Int.is (constant_known n _ (again w64 n n f refl) (again w64 n n f refl))
