-- Reading is exact of nothing, and of an item that is selected by the value of the one before it.
use Rattle.std.proofs.Common.{◌≡◌, true, List, [], ◌∷◌, ◌++◌, Ok, Err, inl, inr, refl, sym, ap, subst, ◌∙◌}
use Rattle.std.proofs.Common.{append_assoc}
use Rattle.iltokens.specs.Items.{Item, empty, select, select_read}
use Rattle.iltokens.proofs.Laws.{bind_ok, bind_err, ok_is, SameHead, same_after, StopsAt, Took, Refused, Lawful, Solid}

-- ---- nothing

module _ (T A : Type 0) (x : A) where
  empty_ok : (ts : List T) (y : A) (rest : List T)
      → (empty {T = T} x).read ts ≡ Ok (y, rest) → Took T A (empty x) ts y rest
  empty_ok ts y rest e =
      let made : A × List T = (x, ts) in
      subst (λ (z : A × List T). Took T A (empty x) ts z.0 z.1) (ok_is made (y, rest) e)
      (record { front = []; parts = refl; whole = (refl, refl); same = λ w h. refl })

  pub Lawful-empty : Lawful T A (empty x) (λ t. Unit {0})
  Lawful-empty = record {
    ok = empty_ok;
    err = λ ts rest e. absurd cc;
    again = λ u y rest h s. rw (h.0, h.1) refl;
    completes = λ u h. ([], x, (rw h refl, refl));
    begun = λ t ts y h. let bad = h.0 in absurd cc;
    front = λ u y h. h.0;
    nothing = refl;
  }

-- ---- one that is selected

module _ (T A B : Type 0) (a : Item T A) (b : A → Item T B) (sa sb : T → Type 0)
    (la : Lawful T A a sa) (solid : Solid T A a) (lb : (x : A) → Lawful T B (b x) sb) where
  goes_before : (v rest w : List T) (u : List T) → rest ≡ u ++ v → SameHead v w → SameHead rest (u ++ w)
  goes_before v rest w u e h = subst (λ (r : List T). SameHead r (u ++ w)) (sym e) (same_after u v w h)

  select_ok : (ts : List T) (y : B) (rest : List T)
      → select_read a b ts ≡ Ok (y, rest) → Took T B (select a b) ts y rest
  select_ok ts y rest e =
      let p = bind_ok (a.read ts) (λ p. (b p.0).read p.1) (y, rest) e in
      let ta = la.ok ts p.0.0 p.0.1 p.1 in
      let tb = (lb p.0.0).ok p.0.1 y rest p.2 in
      record {
        front = ta.front ++ tb.front;
        parts = ta.parts ∙ ap (λ (r : List T). ta.front ++ r) tb.parts ∙ sym (append_assoc ta.front tb.front rest);
        whole = (ta.front, tb.front, p.0.0, refl, ta.whole, tb.whole);
        same = λ w h.
            let one = ta.same (tb.front ++ w) (goes_before rest p.0.1 w tb.front tb.parts h) in
            let two = tb.same w h in
            rw (append_assoc ta.front tb.front w, one, two) refl;
      }

  select_err : (ts rest : List T) → select_read a b ts ≡ Err rest → Refused T B (select a b) ts rest
  select_err ts rest e = elim (bind_err (a.read ts) (λ p. (b p.0).read p.1) rest e) [
    | inl ea ↦
        let ra = la.err ts rest ea in
        record { front = ra.front; parts = ra.parts; part = inl ra.part; same = λ w h. rw (ra.same w h) refl }
    | inr p ↦
        let ta = la.ok ts p.0.0 p.0.1 p.1 in
        let rb = (lb p.0.0).err p.0.1 rest p.2 in
        record {
          front = ta.front ++ rb.front;
          parts = ta.parts ∙ ap (λ (r : List T). ta.front ++ r) rb.parts ∙ sym (append_assoc ta.front rb.front rest);
          part = inr (ta.front, rb.front, p.0.0, refl, ta.whole, rb.part);
          same = λ w h.
              let one = ta.same (rb.front ++ w) (goes_before rest p.0.1 w rb.front rb.parts h) in
              let two = rb.same w h in
              rw (append_assoc ta.front rb.front w, one, two) refl;
        }
  ]

  select_completes : (u : List T) → (select a b).part u → (more : List T) × (y : B) × (select a b).whole (u ++ more) y
  select_completes u (inl h) =
      let ca = la.completes u h in
      let cb = (lb ca.1).completes [] (lb ca.1).nothing in
      (ca.0 ++ cb.0, cb.1, (u ++ ca.0, cb.0, ca.1, sym (append_assoc u ca.0 cb.0), ca.2, cb.2))
  select_completes u (inr h) =
      let cb = (lb h.2).completes h.1 h.5 in
      (cb.0, cb.1, (h.0, h.1 ++ cb.0, h.2, ap (λ (r : List T). r ++ cb.0) h.3 ∙ append_assoc h.0 h.1 cb.0, h.4, cb.2))

  select_begun : (t : T) (ts : List T) (y : B) → (select a b).whole (t ∷ ts) y → a.starts t ≡ true
  select_begun t ts y h = go h.0 h.1 h.2 h.3 h.4
    where
      go : (u v : List T) (x : A) → t ∷ ts ≡ u ++ v → a.whole u x → a.starts t ≡ true
      go [] v x e w = absurd (solid.none x w)
      go (d ∷ u) v x e w = let same : t ≡ d = cc in rw same (la.begun d u x w)

  module _ (apart : (x : A) (t : T) → (b x).starts t ≡ true → sa t) where
    before : (x : A) (v : List T) (y : B) (rest : List T)
        → (b x).whole v y → StopsAt (λ t. sa t × sb t) rest → StopsAt sa (v ++ rest)
    before x [] y [] w h = tt
    before x [] y (t ∷ ts) w h = h.0
    before x (t ∷ v) y rest w h = apart x t ((lb x).begun t v y w)

    behind : (rest : List T) → StopsAt (λ t. sa t × sb t) rest → StopsAt sb rest
    behind [] h = tt
    behind (t ∷ ts) h = h.1

    -- the item that is selected may be nothing
    pub Lawful-select : Lawful T B (select a b) (λ t. sa t × sb t)
    Lawful-select = record {
      ok = select_ok;
      err = select_err;
      again = λ u y rest h s.
          let one = la.again h.0 h.2 (h.1 ++ rest) h.4 (before h.2 h.1 y rest h.5 s) in
          let two = (lb h.2).again h.1 y rest h.5 (behind rest s) in
          rw (h.3, append_assoc h.0 h.1 rest, one, two) refl;
      completes = select_completes;
      begun = select_begun;
      front = λ u y h. inr (h.0, h.1, h.2, h.3, h.4, (lb h.2).front h.1 y h.5);
      nothing = inl la.nothing;
    }

pub Solid-select : (T A B : Type 0) (a : Item T A) (b : A → Item T B) → Solid T A a → Solid T B (select a b)
Solid-select T A B a b solid = record { none = λ y h. go h.0 h.1 h.2 h.3 h.4 }
  where
    go : (u v : List T) (x : A) → [] ≡ u ++ v → a.whole u x → ⊥
    go [] v x e w = solid.none x w
    go (d ∷ u) v x e w = cc
