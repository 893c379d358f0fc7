-- Adding to a list what is read.
use Rattle.std.proofs.Common.{◌≡◌, List, ◌++◌, Result, Ok, Err, refl, sym, ap}
use Rattle.iltokens.specs.declared.read_error.ReadError.{ReadError}
use Rattle.iltokens.specs.declared.read_error.ReadError.TheVariants as errors
use Rattle.iltokens.specs.Results.{Fails, extend}
use Rattle.iltext.specs.declared.token.Token.{Token}

module _ (X A : Type 0) (f : X → List A) where
  abbrev One : Type 0
  One = Result (X × List Token) (List Token)

  -- what was read, by what was added
  pub extend_ok : (front new : List A) (rest : List Token) (r : One)
      → extend f front r ≡ Ok (new, rest) → (x : X) × (r ≡ Ok (x, rest)) × (new ≡ front ++ f x)
  extend_ok front new rest (Err d) e = absurd cc
  extend_ok front new rest (Ok p) e =
      let pair : (front ++ f p.0, p.1) ≡ (new, rest) = cc in
      let whole : List A × List Token → List A = λ z. z.0 in
      let left : List A × List Token → List Token = λ z. z.1 in
      (p.0, ap (λ (z : List Token). Ok (p.0, z)) (ap left pair), sym (ap whole pair))

  pub fails_extended : (e : ReadError Token) (front : List A) (r : One) → Fails e r → Fails e (extend f front r)
  fails_extended errors.Memory front r h = tt
  fails_extended (errors.Fault d) front r h = rw h refl
