-- The least function that is too deep, one function after another.
use Rattle.std.proofs.Common.{◌≡◌, ℕ, ◌+◌, ◌<◌, ◌≤◌, List, length, nat_lt, Bool, true, false, refl, sym, ap, ◌∙◌, subst}
use Rattle.std.proofs.Common.{◌⊎◌, inl, inr, arith}
use Rattle.std.specs.Prelude.{Option, Some, None, min, slice_get}
use Rattle.std.proofs.lemmas.Bool.Decides.{nat_tests}
use Rattle.limits.specs.Limits.{most_calls}
use Rattle.ildeclared.specs.Faults.{IsNextOf, OfCause}
use Rattle.ildeclared.specs.Order.{lesser_of_two}
use Rattle.ildeclared.specs.declared.fault.NameCause.TheVariants.{TooMany}
use Rattle.ildeclared.specs.declared.found.Found.{Found}
use Rattle.ilscope.specs.Declarations.{DeclaredFunction}
use Rattle.ildeclared.proofs.Least.{either_next}
use Rattle.ilsyms.specs.Faults.{AreTooDeep}
use Rattle.ilsyms.proofs.FaultParts.{of_same}
use Rattle.ilsyms.proofs.Lists.{below_end}

module _ (functions : List DeclaredFunction) (depths : List ℕ) where
  -- one of the first so many
  abbrev pub AreTooDeepBefore : ℕ → ℕ → Type 0
  AreTooDeepBefore bound place = (deep : AreTooDeep functions depths place) × (deep.number < bound)

  module _ (k : ℕ) (f : DeclaredFunction) (d : ℕ) (is : slice_get functions k ≡ Some f)
      (its : slice_get depths k ≡ Some d) where
    abbrev IsDeep : ℕ → Type 0
    IsDeep place = (most_calls < d) × (place ≡ f.function.name.from)

    more : (place : ℕ) → AreTooDeepBefore k place ⊎ IsDeep place → AreTooDeepBefore (k + 1) place
    more place (inl deep) = let low = deep.1 in (deep.0, omega (arith, low))
    more place (inr deep) = (
      record {
        number = k;
        function = f;
        depth = d;
        is = is;
        its = its;
        deep = deep.0;
        stands = deep.1;
      },
      omega arith,
    )

    parts : (place : ℕ) → AreTooDeepBefore (k + 1) place → AreTooDeepBefore k place ⊎ IsDeep place
    parts place deep = by (nat_lt deep.0.number k) refl
      where
        by : (b : Bool) → nat_lt deep.0.number k ≡ b → AreTooDeepBefore k place ⊎ IsDeep place
        by true t = let lt : deep.0.number < k = grind (arith, nat_tests, t) in inl (deep.0, lt)
        by false t =
            let low = deep.1 in
            let le : k ≤ deep.0.number = grind (arith, nat_tests, t) in
            let same : deep.0.number ≡ k = omega (arith, low, le) in
            let one : Some deep.0.function ≡ Some f =
            sym deep.0.is ∙ ap (λ n. slice_get functions n) same ∙ is in
            let other : Some deep.0.depth ≡ Some d = sym deep.0.its ∙ ap (λ n. slice_get depths n) same ∙ its in
            let g : deep.0.function ≡ f = cc in
            let e : deep.0.depth ≡ d = cc in
            inr (
              subst (λ n. most_calls < n) e deep.0.deep,
              deep.0.stands ∙ ap (λ (h : DeclaredFunction). h.function.name.from) g,
            )

    pub one_more_deep : (after a b : Option Found) → IsNextOf after (OfCause TooMany (AreTooDeepBefore k)) a
        → IsNextOf after (OfCause TooMany IsDeep) b
        → IsNextOf after (OfCause TooMany (AreTooDeepBefore (k + 1))) (lesser_of_two a b)
    one_more_deep after a b h g =
        of_same after TooMany (λ at. AreTooDeepBefore k at ⊎ IsDeep at) (AreTooDeepBefore (k + 1)) (lesser_of_two a b)
        more parts (either_next after TooMany (AreTooDeepBefore k) IsDeep a b h g)

  pub none_deep : (after : Option Found) → IsNextOf after (OfCause TooMany (AreTooDeepBefore 0)) None
  none_deep after = λ place cause deep. let low = deep.0.1.1 in omega (arith, low)

  pub all_deep : (after : Option Found) (k : ℕ) (o : Option Found) → k ≡ min (length functions) (length depths)
      → IsNextOf after (OfCause TooMany (AreTooDeepBefore k)) o → IsNextOf after
      (OfCause TooMany (AreTooDeep functions depths)) o
  all_deep after k o e h =
      of_same after TooMany (AreTooDeepBefore k) (AreTooDeep functions depths) o (λ at deep. deep.0)
      (λ at deep.
      let low = below_end functions deep.number deep.function deep.is in
      let its = below_end depths deep.number deep.depth deep.its in
      (deep, omega (arith, low, its, e)))
      h
