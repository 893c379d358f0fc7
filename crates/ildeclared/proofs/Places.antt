-- Places of words on a bus.
use Rattle.std.proofs.Common.{◌≡◌, ℕ, ◌+◌, ◌<◌, Bool, inl, inr, subst, arith}
use Rattle.std.specs.Prelude.{◌↔◌, IsTrue}
use Rattle.wordlines.specs.Wirings.{Wiring}
use Rattle.iltokens.specs.declared.lexed.AddressKind.TheVariants.{InputWord}
use Rattle.ildeclared.specs.Faults.{IsBound, IsThere}
use Rattle.ildeclared.proofs.FoundOrder.{or_else}

module _ (wiring : Wiring) (bus place number : ℕ) (here : Bool) (few : number < 64)
    (is : IsTrue here ↔ IsBound wiring bus number) where
  bound_at : (other : ℕ) → other ≡ number → IsBound wiring bus other → IsBound wiring bus number
  bound_at other e b = subst (λ (n : ℕ). IsBound wiring bus n) e b

  -- the information of a source
  pub information_there : place ≡ 128 + number → IsTrue here ↔ IsThere wiring InputWord bus place
  information_there e = (
    λ t. inr (number, few, is.0 t, inl e),
    λ s. is.1
        (or_else (λ low. absurd (omega (arith, low, e)))
        (λ s. bound_at s.0
        (or_else (λ p. omega (arith, p, e)) (λ q. absurd (omega (arith, q, e, few, s.1))) s.3) s.2) s),
  )

  -- and its count
  pub count_there : place ≡ 192 + number → IsTrue here ↔ IsThere wiring InputWord bus place
  count_there e = (
    λ t. inr (number, few, is.0 t, inr e),
    λ s. is.1
        (or_else (λ low. absurd (omega (arith, low, e)))
        (λ s. bound_at s.0
        (or_else (λ p. absurd (omega (arith, p, e, s.1))) (λ q. omega (arith, q, e)) s.3) s.2) s),
  )
