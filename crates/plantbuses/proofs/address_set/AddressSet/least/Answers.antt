use Rattle.std.proofs.Common.{◌≡◌, ℕ, ◌<◌, ◌≤◌, ⊎_elim, sym, subst, ◌∙◌, arith}
use Rattle.std.specs.Int.{w128, trailing_zeros}
use Rattle.std.proofs.lemmas.Bool.{cases_lt}
use Rattle.std.proofs.lemmas.Nat.Bits.{bit_at-trailing_zeros}
use Rattle.plantbuses.specs.AddressSets.{IsLeast}
use Rattle.plantbuses.proofs.address_set.AddressSet.least.Goals as goal

pub returns : goal.returns
returns c =
    let bits = c.self.inside.bits in let tz = trailing_zeros w128 bits in
    let it = bit_at-trailing_zeros w128 bits (omega arith) (omega arith) in
    let below : tz < 81 =
    ⊎_elim (λ (lt : tz < 81). lt)
    (λ (past : 81 ≤ tz). let no : 0 ≡ 1 = sym (c.self.invariant tz past it.0) ∙ it.1 in absurd (omega arith))
    (cases_lt tz 81) in
    let least : IsLeast bits tz = (below, it.1, it.2) in
    record { least = subst (λ (n : ℕ). IsLeast n tz) c.self.view_is least }
