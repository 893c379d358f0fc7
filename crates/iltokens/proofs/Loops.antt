-- Reading one after the other, as a loop does.
use Rattle.std.proofs.Common.{◌≡◌, ◌<◌, true, false, List, [], ◌∷◌, ◌++◌, length, Result, Ok, Err, refl, sym, ap, subst}
use Rattle.std.proofs.Common.{◌∙◌, append_assoc, arith}
use Rattle.std.proofs.lemmas.List.{append-nil, length-append}
use Rattle.std.specs.List.{flat_map}
use Rattle.iltokens.specs.declared.read_error.ReadError.{ReadError}
use Rattle.iltokens.specs.declared.read_error.ReadError.TheVariants as errors
use Rattle.iltokens.specs.Items.{◌>>=◌, Item, begins, many}
use Rattle.iltokens.specs.Results.{Fails, extend}
use Rattle.iltokens.proofs.Firm.{Firm}
use Rattle.iltokens.proofs.Repeats.{none_more, one_more}

-- what was read before, and what is still read
abbrev pub with_front : {T A : Type 0} → List A → Result (List A × List T) (List T) → Result (List A × List T) (List T)
with_front front read = read >>= λ q. Ok (front ++ q.0, q.1)

module _ (T A : Type 0) (a : Item T A) (s : T → Type 0) (law : Firm T A a s) where
  regroup : (front : List A) (x : A) (r : Result (List A × List T) (List T))
      → with_front front (r >>= λ q. Ok (x ∷ q.0, q.1)) ≡ with_front (front ++ x ∷ []) r
  regroup front x (Ok q) = ap (λ (xs : List A). Ok (xs, q.1)) (simp append_assoc)
  regroup front x (Err d) = refl

  pub goes_on : (front : List A) (ts : List T) (x : A) (after : List T) (total : Result (List A × List T) (List T))
      → begins a ts ≡ true → a.read ts ≡ Ok (x, after)
      → with_front front ((many a).read ts) ≡ total → with_front (front ++ x ∷ []) ((many a).read after) ≡ total
  goes_on front ts x after total is e so_far =
      let one : with_front front ((many a).read ts) ≡ with_front (front ++ x ∷ []) ((many a).read after) = rw
      (one_more T A a s law.lawful law.solid ts is, e) (regroup front x ((many a).read after)) in
      sym one ∙ so_far

  pub fails : (e : ReadError T) (front : List A) (ts : List T) (total : Result (List A × List T) (List T))
      → begins a ts ≡ true → Fails e (a.read ts)
      → with_front front ((many a).read ts) ≡ total → Fails e total
  fails errors.Memory front ts total is h so_far = tt
  fails (errors.Fault f) front ts total is h so_far =
      let one : with_front front ((many a).read ts) ≡ Err f.now = rw
      (one_more T A a s law.lawful law.solid ts is, h) refl in
      sym so_far ∙ one

  pub is_done : (front : List A) (ts : List T) (total : Result (List A × List T) (List T)) → begins a ts ≡ false
      → with_front front ((many a).read ts) ≡ total → total ≡ Ok (front, ts)
  is_done front ts total is so_far =
      let one : with_front front ((many a).read ts) ≡ Ok (front, ts) = rw (none_more T A a s law.lawful law.solid ts is)
      (ap (λ (xs : List A). Ok (xs, ts)) (append-nil front)) in
      sym so_far ∙ one

  pub shrinks : (ts : List T) (x : A) (after : List T) → a.read ts ≡ Ok (x, after) → length after < length ts
  shrinks ts x after e = let k = law.lawful.ok ts x after e in go k.front k.parts k.whole
    where
      go : (u : List T) → ts ≡ u ++ after → a.whole u x → length after < length ts
      go [] p w = absurd (law.solid.none x w)
      go (t ∷ u) p w = omega (arith, ap length p, length-append u after)

-- the same, where the loop adds what f gives of each value to a list
module _ (T X A : Type 0) (f : X → List A) (a : Item T X) (s : T → Type 0) (law : Firm T X a s) where
  abbrev One : Type 0
  One = Result (X × List T) (List T)

  abbrev Lists : Type 0
  Lists = Result (List A × List T) (List T)

  abbrev more_of : X × List T → Result (List X × List T) (List T)
  more_of p = (many a).read p.1 >>= λ q. Ok (p.0 ∷ q.0, q.1)

  regroup_added : (front : List A) (x : X) (r : Result (List X × List T) (List T))
      → extend (flat_map f) front (r >>= λ q. Ok (x ∷ q.0, q.1)) ≡ extend (flat_map f) (front ++ f x) r
  regroup_added front x (Ok q) = ap (λ (xs : List A). Ok (xs, q.1)) (sym (append_assoc front (f x) (flat_map f q.0)))
  regroup_added front x (Err d) = refl

  after_one : (front new : List A) (ts after : List T) (r : One)
      → a.read ts ≡ r → begins a ts ≡ true → extend f front r ≡ Ok (new, after)
      → extend (flat_map f) front ((many a).read ts) ≡ extend (flat_map f) new ((many a).read after)
  after_one front new ts after (Err d) is b e = absurd cc
  after_one front new ts after (Ok p) is b e =
      let pair : (front ++ f p.0, p.1) ≡ (new, after) = cc in
      ap (extend (flat_map f) front)
      (one_more T X a s law.lawful law.solid ts b ∙ ap (λ (r : One). r >>= more_of) is)
      ∙ (regroup_added front p.0 ((many a).read p.1)
      ∙ ap (λ (z : List A × List T). extend (flat_map f) z.0 ((many a).read z.1)) pair)

  pub adds_on : (front new : List A) (ts after : List T) (total : Lists)
      → begins a ts ≡ true → extend f front (a.read ts) ≡ Ok (new, after)
      → extend (flat_map f) front ((many a).read ts) ≡ total → extend (flat_map f) new ((many a).read after) ≡ total
  adds_on front new ts after total b e so_far = sym (after_one front new ts after (a.read ts) refl b e) ∙ so_far

  fails_at : (front : List A) (ts rest : List T) (r : One)
      → a.read ts ≡ r → begins a ts ≡ true → extend f front r ≡ Err rest
      → extend (flat_map f) front ((many a).read ts) ≡ Err rest
  fails_at front ts rest (Ok p) is b e = absurd cc
  fails_at front ts rest (Err d) is b e =
      ap (extend (flat_map f) front)
      (one_more T X a s law.lawful law.solid ts b ∙ ap (λ (r : One). r >>= more_of) is)
      ∙ (let same : d ≡ rest = cc in ap Err same)

  pub adds_none : (e : ReadError T) (front : List A) (ts : List T) (total : Lists)
      → begins a ts ≡ true → Fails e (extend f front (a.read ts))
      → extend (flat_map f) front ((many a).read ts) ≡ total → Fails e total
  adds_none errors.Memory front ts total b h so_far = tt
  adds_none (errors.Fault d) front ts total b h so_far =
      sym so_far ∙ fails_at front ts d.now (a.read ts) refl b h

  pub all_added : (front : List A) (ts : List T) (total : Lists)
      → begins a ts ≡ false → extend (flat_map f) front ((many a).read ts) ≡ total → total ≡ Ok (front, ts)
  all_added front ts total b so_far =
      sym so_far
      ∙ (ap (extend (flat_map f) front) (none_more T X a s law.lawful law.solid ts b)
      ∙ ap (λ (xs : List A). Ok (xs, ts)) (append-nil front))

  shorter : (front new : List A) (ts after : List T) (r : One)
      → a.read ts ≡ r → extend f front r ≡ Ok (new, after) → length after < length ts
  shorter front new ts after (Err d) is e = absurd cc
  shorter front new ts after (Ok p) is e =
      let pair : (front ++ f p.0, p.1) ≡ (new, after) = cc in
      subst (λ (r : List T). length r < length ts) (ap (λ (z : List A × List T). z.1) pair)
      (shrinks T X a s law ts p.0 p.1 is)

  pub adding_shrinks : (front new : List A) (ts after : List T)
      → extend f front (a.read ts) ≡ Ok (new, after) → length after < length ts
  adding_shrinks front new ts after e = shorter front new ts after (a.read ts) refl e
