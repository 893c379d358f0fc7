use Rattle.std.proofs.Common.{◌≡◌, Bool, true, false, refl, arith}
use Rattle.std.specs.Prelude.{IsTrue}
use Rattle.refusalsplant.proofs.buses.scan_has_its_own_number.Goals as goal

is_not : (b : Bool) → ¬ IsTrue b → b ≡ false
is_not true untrue = absurd (untrue refl)
is_not false untrue = refl

pub returns : goal.returns
returns c =
    is_not c.has_number.result (λ yes.
    let same = c.has_number.ensures.value.0 yes in
    let is = c.requires in
    omega arith)
