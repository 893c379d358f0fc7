-- A whole text is what reading takes, with nothing left; else reading stops at the first token that goes on as no text.
use Rattle.std.proofs.Common.{◌≡◌, List, [], ◌∷◌, ◌++◌, Result, Ok, Err, ◌⊎◌, inl, inr, refl, sym, ap, subst, ◌∙◌}
use Rattle.std.proofs.Common.{append_assoc}
use Rattle.std.proofs.lemmas.List.{append-nil}
use Rattle.iltokens.specs.Items.{Item}
use Rattle.iltokens.specs.Stops.{StopsBefore, FaultAt, ended, whole_read}
use Rattle.iltokens.proofs.Laws.{bind_ok, bind_err, ok_is, Refused, Lawful}

-- of two ways to part a list, the front of one goes past that of the other by some elements, or the rests are one
abbrev IsPast : {T : Type 0} → List T → List T → List T → List T → Type 0
IsPast {T} f g r s = (t : T) × (w : List T) × (g ≡ f ++ t ∷ w) × (r ≡ t ∷ (w ++ s))

abbrev ArePartings : {T : Type 0} → List T → List T → List T → List T → Type 0
ArePartings f g r s = (r ≡ s) ⊎ (IsPast f g r s ⊎ IsPast g f s r)

one_longer : {T : Type 0} (t : T) (f g r s : List T) → ArePartings f g r s → ArePartings (t ∷ f) (t ∷ g) r s
one_longer {T} t f g r s (inl e) = inl e
one_longer {T} t f g r s (inr (inl p)) = inr (inl (p.0, p.1, ap (λ (z : List T). t ∷ z) p.2, p.3))
one_longer {T} t f g r s (inr (inr p)) = inr (inr (p.0, p.1, ap (λ (z : List T). t ∷ z) p.2, p.3))

splits : {T : Type 0} (f g r s : List T) → f ++ r ≡ g ++ s → ArePartings f g r s
splits {T} [] [] r s e = inl e
splits {T} [] (t ∷ g) r s e = inr (inl (t, g, refl, e))
splits {T} (t ∷ f) [] r s e = inr (inr (t, f, refl, sym e))
splits {T} (t ∷ f) (u ∷ g) r s e =
    let tails : f ++ r ≡ g ++ s = cc in
    let heads : t ≡ u = cc in
    subst (λ (z : T). ArePartings (t ∷ f) (z ∷ g) r s) heads (one_longer t f g r s (splits f g r s tails))

module _ (T A : Type 0) (a : Item T A) (s : T → Type 0) (la : Lawful T A a s) where
  -- what is read with nothing left is whole
  pub found : (ts : List T) (x : A) → a.read ts ≡ Ok (x, []) → a.whole ts x
  found ts x e =
      let t = la.ok ts x [] e in
      subst (λ (z : List T). a.whole z x) (sym (t.parts ∙ append-nil t.front)) t.whole

  -- what is whole is read
  pub only : (ts : List T) (x : A) → a.whole ts x → a.read ts ≡ Ok (x, [])
  only ts x h = subst (λ (z : List T). a.read z ≡ Ok (x, [])) (append-nil ts) (la.again ts x [] h tt)

  no_other : (u : List T) (t : T) (more : List T) (y : A) → a.whole ((u ++ t ∷ []) ++ more) y
      → a.read (u ++ t ∷ more) ≡ Ok (y, [])
  no_other u t more y h =
      subst (λ (z : List T). a.read z ≡ Ok (y, [])) (append_assoc u (t ∷ []) more) (only ((u ++ t ∷ []) ++ more) y h)

  refused_at : (ts rest : List T) → (r : Refused T A a ts rest) → a.read ts ≡ Err rest → StopsBefore a ts r.front rest
  refused_at ts [] r e =
      let all : ts ≡ r.front = r.parts ∙ append-nil r.front in (
        all,
        r.part,
        λ x h. let good = only r.front x h in let bad : a.read r.front ≡ Err [] = ap a.read
            (sym all) ∙ e in let both = sym good ∙ bad in cc,
      )
  refused_at ts (t ∷ v) r e = (
    r.parts,
    r.part,
    λ p.
        let c = la.completes (r.front ++ t ∷ []) p in
        let good = no_other r.front t c.0 c.1 c.2 in
        let bad = r.same (t ∷ c.0) refl in
        let both = sym good ∙ bad in cc,
  )

  pub refused : (ts rest : List T) → a.read ts ≡ Err rest → FaultAt a ts rest
  refused ts rest e = let r = la.err ts rest e in (r.front, refused_at ts rest r e)

  pub left_over : (ts : List T) (x : A) (t : T) (v : List T) → a.read ts ≡ Ok (x, t ∷ v) → FaultAt a ts (t ∷ v)
  left_over ts x t v e =
      let k = la.ok ts x (t ∷ v) e in (
        k.front,
        (
          k.parts,
          la.front k.front x k.whole,
          λ p.
              let c = la.completes (k.front ++ t ∷ []) p in
              let good = no_other k.front t c.0 c.1 c.2 in
              let bad = k.same (t ∷ c.0) refl in
              let rests : [] ≡ t ∷ c.0 = ap (λ (z : A × List T). z.1)
              (ok_is (c.1, []) (x, t ∷ c.0) (sym good ∙ bad)) in cc,
        ),
      )

  ended_ok : (x : A) (rest : List T) (y : A) → ended x rest ≡ Ok y → (rest ≡ []) × (x ≡ y)
  ended_ok x [] y e = (refl, cc)
  ended_ok x (t ∷ ts) y e = absurd cc

  pub whole_found : (ts : List T) (y : A) → whole_read a ts ≡ Ok y → a.whole ts y
  whole_found ts y e =
      let p = bind_ok (a.read ts) (λ p. ended p.0 p.1) y e in
      let q = ended_ok p.0.0 p.0.1 y p.2 in
      let r : a.read ts ≡ Ok (p.0.0, []) = subst (λ (z : List T). a.read ts ≡ Ok (p.0.0, z)) q.0 p.1 in
      subst (λ (z : A). a.whole ts z) q.1 (found ts p.0.0 r)

  pub whole_only : (ts : List T) (y : A) → a.whole ts y → whole_read a ts ≡ Ok y
  whole_only ts y h = rw (only ts y h) refl

  after_end : (ts : List T) (x : A) (rest bad : List T) → a.read ts ≡ Ok (x, rest) → ended x rest ≡ Err bad
      → FaultAt a ts bad
  after_end ts x [] bad r e = absurd cc
  after_end ts x (t ∷ v) bad r e =
      let same : t ∷ v ≡ bad = cc in
      subst (λ (z : List T). FaultAt a ts z) same (left_over ts x t v r)

  pub whole_fault : (ts bad : List T) → whole_read a ts ≡ Err bad → FaultAt a ts bad
  whole_fault ts bad e = elim (bind_err (a.read ts) (λ p. ended p.0 p.1) bad e) [
    | inl r ↦ refused ts bad r
    | inr p ↦ after_end ts p.0.0 p.0.1 bad p.1 p.2
  ]

  -- what is read of a front of a whole goes on
  front_taken : (u v : List T) (x y : A) (rest : List T) → a.read u ≡ Ok (y, rest) → a.read (u ++ v) ≡ Ok (x, [])
      → a.part u
  front_taken u v x y [] e all = la.front u y (found u y e)
  front_taken u v x y (t ∷ w) e all =
      let k = la.ok u y (t ∷ w) e in
      let moved : u ++ v ≡ k.front ++ t ∷ (w ++ v) = ap (λ (z : List T). z ++ v) k.parts ∙ append_assoc k.front
      (t ∷ w) v in
      let both = sym all ∙ ap a.read moved ∙ k.same (t ∷ (w ++ v)) refl in
      let rests : [] ≡ t ∷ (w ++ v) = ap (λ (z : A × List T). z.1) (ok_is (x, []) (y, t ∷ (w ++ v)) both) in absurd cc

  front_refused : (u v : List T) (x : A) (rest : List T) → a.read u ≡ Err rest → a.read (u ++ v) ≡ Ok (x, []) → a.part u
  front_refused u v x [] e all =
      let r = la.err u [] e in
      subst (λ (z : List T). a.part z) (sym (r.parts ∙ append-nil r.front)) r.part
  front_refused u v x (t ∷ w) e all =
      let r = la.err u (t ∷ w) e in
      let moved : u ++ v ≡ r.front ++ t ∷ (w ++ v) = ap (λ (z : List T). z ++ v) r.parts ∙ append_assoc r.front
      (t ∷ w) v in
      let both = sym all ∙ ap a.read moved ∙ r.same (t ∷ (w ++ v)) refl in absurd cc

  front_read : (u v : List T) (x : A) (r : Result (A × List T) (List T)) → a.read u ≡ r → a.read (u ++ v) ≡ Ok (x, [])
      → a.part u
  front_read u v x (Ok p) e all = front_taken u v x p.0 p.1 e all
  front_read u v x (Err rest) e all = front_refused u v x rest e all

  -- the tokens before any place of a whole, or of a front, are a front
  pub front_of_whole : (u v : List T) (x : A) → a.whole (u ++ v) x → a.part u
  front_of_whole u v x h = front_read u v x (a.read u) refl (only (u ++ v) x h)

  pub front_of_part : (u v : List T) → a.part (u ++ v) → a.part u
  front_of_part u v h =
      let c = la.completes (u ++ v) h in
      front_of_whole u (v ++ c.0) c.1 (subst (λ (z : List T). a.whole z c.1) (append_assoc u v c.0) c.2)

  -- no tokens up to and including the next are a front, where a longer front goes past it
  past : (f : List T) (t : T) (w g : List T) → g ≡ f ++ t ∷ w → (a.part (f ++ t ∷ []) → ⊥) → a.part g → ⊥
  past f t w g e never p =
      never (front_of_part (f ++ t ∷ []) w (subst (λ (z : List T). a.part z) (e ∙ sym (append_assoc f (t ∷ []) w)) p))

  pub stopped_split : (ts f rest : List T) → StopsBefore a ts f rest → ts ≡ f ++ rest
  stopped_split ts f [] h = h.0 ∙ sym (append-nil f)
  stopped_split ts f (t ∷ v) h = h.0

  stopped_part : (ts f rest : List T) → StopsBefore a ts f rest → a.part f
  stopped_part ts f [] h = h.1
  stopped_part ts f (t ∷ v) h = h.1

  stopped_next : (ts f rest : List T) (t : T) (v : List T) → rest ≡ t ∷ v → StopsBefore a ts f rest
      → a.part (f ++ t ∷ []) → ⊥
  stopped_next ts f rest t v e h = (subst (λ (z : List T). StopsBefore a ts f z) e h).2

  -- reading stops at one place
  pub one_fault : (ts r s : List T) → FaultAt a ts r → FaultAt a ts s → r ≡ s
  one_fault ts r s x y =
      elim (splits x.0 y.0 r s (sym (stopped_split ts x.0 r x.1) ∙ stopped_split ts y.0 s y.1)) [
        | inl e ↦ e
        | inr (inl p) ↦ absurd
            (past x.0 p.0 p.1 y.0 p.2 (stopped_next ts x.0 r p.0 (p.1 ++ s) p.3 x.1) (stopped_part ts y.0 s y.1))
        | inr (inr p) ↦ absurd
            (past y.0 p.0 p.1 x.0 p.2 (stopped_next ts y.0 s p.0 (p.1 ++ r) p.3 y.1) (stopped_part ts x.0 r x.1))
      ]

  -- and nowhere in a whole
  pub no_fault : (ts rest : List T) (x : A) → FaultAt a ts rest → a.whole ts x → ⊥
  no_fault ts [] x h w = h.1.2 x (subst (λ (z : List T). a.whole z x) h.1.0 w)
  no_fault ts (t ∷ v) x h w =
      h.1.2 (front_of_whole (h.0 ++ t ∷ []) v x
      (subst (λ (z : List T). a.whole z x) (h.1.0 ∙ sym (append_assoc h.0 (t ∷ []) v)) w))
