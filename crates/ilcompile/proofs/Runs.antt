-- Runs of a partial step: one after another, and to one last state.
use Rattle.std.proofs.Common.{◌≡◌, ℕ, zero, suc, Option, Some, None, refl, sym, ap, ◌∙◌, subst}
use Rattle.std.specs.Option.{option_and_then}

-- where this many steps lead
abbrev pub after : {S : Type 0} → (S → Option S) → ℕ → S → Option S
after step zero a = Some a
after step (suc n) a = option_and_then (after step n) (step a)

-- some steps lead from the one state to the other
pub record Leads {S : Type 0} (step : S → Option S) (a b : S) : Type 0 where
  pub steps : ℕ
  pub is : after step steps a ≡ Some b

module _ {S : Type 0} (f : S → Option S) where
  pub none : (a : S) → Leads f a a
  none a = record { steps = 0; is = refl }

  -- one step, and then others
  pub prepend : (a b c : S) → f a ≡ Some b → Leads f b c → Leads f a c
  prepend a b c p l = record { steps = suc l.steps; is = ap (option_and_then (after f l.steps)) p ∙ l.is }

  pub one : (a b : S) → f a ≡ Some b → Leads f a b
  one a b p = prepend a b b p (none b)

  -- a run of one step and more, taken apart
  pub first_step : {P : Type 0} (n : ℕ) (b : S) (o : Option S) → option_and_then (after f n) o ≡ Some b
      → ((c : S) → o ≡ Some c → after f n c ≡ Some b → P) → P
  first_step n b None e k = absurd cc
  first_step n b (Some c) e k = k c refl e

  on_from : (n : ℕ) (a b c : S) → after f n a ≡ Some b → Leads f b c → Leads f a c
  on_from zero a b c e l = let q : a ≡ b = cc in subst (λ x. Leads f x c) (sym q) l
  on_from (suc n) a b c e l = first_step n b (f a) e (λ d p e'. prepend a d c p (on_from n d b c e' l))

  pub leads_on : (a b c : S) → Leads f a b → Leads f b c → Leads f a c
  leads_on a b c l m = on_from l.steps a b c l.is m

  no_more : (n : ℕ) (a b : S) → f a ≡ None → after f n a ≡ Some b → a ≡ b
  no_more zero a b z e = cc
  no_more (suc n) a b z e = let w = ap (option_and_then (after f n)) z in absurd (cc)

  same_from : (n m : ℕ) (a b c : S) → after f n a ≡ Some b → f b ≡ None → after f m a ≡ Some c → f c ≡ None → b ≡ c
  same_from zero m a b c e z e' z' =
      let q : a ≡ b = cc in let w : f a ≡ None = cc in sym q ∙ no_more m a c w e'
  same_from (suc n) zero a b c e z e' z' =
      let q : a ≡ c = cc in let w : f a ≡ None = cc in sym (no_more (suc n) a b w e) ∙ q
  same_from (suc n) (suc m) a b c e z e' z' =
      first_step n b (f a) e (λ d p d_b. first_step m c (f a) e' (λ d' p' d_c.
      let q : d' ≡ d = cc in same_from n m d b c d_b z (subst (λ x. after f m x ≡ Some c) q d_c) z'))

  -- there is one last state
  pub same_last : (a b c : S) → Leads f a b → f b ≡ None → Leads f a c → f c ≡ None → b ≡ c
  same_last a b c l z m z' = same_from l.steps m.steps a b c l.is z m.is z'
