-- Words that do not spell what is shown.
use Rattle.std.proofs.Common.{◌≡◌, ℕ, [], ◌∷◌, length, codes, true, false, pos, Some, ap, arith, lit<}
use Rattle.std.proofs.lemmas.Int.{ints}
use Rattle.iltypes.specs.declared.value.Value.{Value}
use Rattle.iltypes.specs.declared.value.Value.TheVariants.{Bool, Int}
use Rattle.ilmachine.specs.Images.{Global}
use Rattle.commandoptions.specs.declared.expected_word.ExpectedWord.{ExpectedWord}
use Rattle.plant.specs.Shown.{Shown}
use Rattle.plantevents.specs.Variables.{value}
use Rattle.plantplay.specs.Names.{IsNamed}
use Rattle.plantplay.specs.Expected.{AreMet, IsMet, IsSpelled}

-- TRUE is not spelled FALSE
pub no_false : (shown : Value) → shown ≡ Bool true → ¬ IsSpelled (codes "FALSE") shown
no_false (Bool true) is spelled = omega (arith, ap length spelled)
no_false (Bool false) is spelled = absurd cc
no_false (Int number) is spelled = absurd cc

-- 12 is not spelled 9
pub no_nine : (shown : Value) → shown ≡ Int (pos 12) → ¬ IsSpelled (codes "9") shown
no_nine (Bool true) is spelled = absurd cc
no_nine (Bool false) is spelled = absurd cc
no_nine (Int number) is spelled =
    let twelve : number ≡ pos 12 = cc in let nine : pos 9 ≡ number = spelled.1 in omega (arith, ints, nine, twelve)

-- an expectation is not met where each variable of its name shows a value that its word does not spell
pub none_met : (left : Shown) (expected : ExpectedWord) (seen : Value)
    → ((number : ℕ) → IsNamed left.plant.plan expected.name.now number
    → value left.plant (Global number) left.history ≡ Some seen)
    → ((shown : Value) → shown ≡ seen → ¬ IsSpelled expected.value.now shown) → ¬ AreMet left (expected ∷ [])
none_met left expected seen each none all =
    let met : IsMet left expected = all 0 expected (lit< tt) in
    let same : value left.plant (Global met.0) left.history ≡ Some seen = each met.0 met.1.named in
    let is : value left.plant (Global met.0) left.history ≡ Some met.1.shown = met.1.is in
    none met.1.shown (cc) met.1.spelled
