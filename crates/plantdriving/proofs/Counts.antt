-- Counts of calls, which are kept at 2^64 - 1 once there.
use Rattle.std.proofs.Common.{◌≡◌, ◌⊎◌, inl, inr, ⊎_elim, ℕ, ◌+◌, ◌-◌, ◌^◌, ◌<◌, ◌≤◌, arith}
use Rattle.std.proofs.lemmas.Bool.{cases_lt}
use Rattle.std.specs.Prelude.{min}
use Rattle.plantdriving.specs.Links.{IsNoLess, HasGrown}

-- ---- one call more

pub grown_by_one : (first n : ℕ) → IsNoLess first n → HasGrown first (min (n + 1) (2 ^ 64 - 1))
grown_by_one first n is = (
  omega arith,
  ⊎_elim (λ (few : n < 2 ^ 64 - 1). inl (omega (arith, is, few)))
      (λ (many : 2 ^ 64 - 1 ≤ n). inr (omega (arith, many)))
      (cases_lt n (2 ^ 64 - 1)),
)

pub grown_once : (n : ℕ) → HasGrown n (min (n + 1) (2 ^ 64 - 1))
grown_once n = grown_by_one n n (omega arith)

-- ---- since an earlier count

pub no_less_since : (first second now : ℕ) → IsNoLess first second → (now ≡ second) ⊎ HasGrown second now
    → IsNoLess first now
no_less_since first second now was is =
    ⊎_elim (λ (same : now ≡ second). omega (arith, was, same))
    (λ (grown : HasGrown second now).
    ⊎_elim (λ (more : second < now). omega (arith, was, more)) (λ (most : now ≡ 2 ^ 64 - 1). omega (arith, most))
    grown.1) is

pub grown_since : (first second now : ℕ) → IsNoLess first second → HasGrown second now → HasGrown first now
grown_since first second now was grown = (
  grown.0,
  ⊎_elim (λ (more : second < now). let within = grown.0 in inl (omega (arith, was, more, within)))
      (λ (most : now ≡ 2 ^ 64 - 1). inr most) grown.1,
)
