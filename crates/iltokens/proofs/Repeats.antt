-- An item any number of times: reading is exact, and goes on one at a time.
use Rattle.std.proofs.Common.{◌≡◌, ℕ, zero, suc, ◌≤◌, Bool, true, false, cond, List, [], ◌∷◌, ◌++◌, length, Result, Ok}
use Rattle.std.proofs.Common.{Err, inl, inr, refl, sym, ap, subst, ◌∙◌, append_assoc, arith}
use Rattle.std.proofs.lemmas.List.{append-nil, length-append}
use Rattle.iltokens.specs.Items.{◌>>=◌, Item, begins, many, many_whole, many_part, many_read}
use Rattle.iltokens.proofs.Laws.{bind_ok, bind_err, ok_is, SameHead, same_after, same_begins, StopsAt, Lawful, Solid}

module _ (T A : Type 0) (a : Item T A) (s : T → Type 0) (la : Lawful T A a s) (solid : Solid T A a) where
  front_begins : (u : List T) (x : A) (w : List T) → a.whole u x → begins a (u ++ w) ≡ true
  front_begins [] x w h = absurd (solid.none x h)
  front_begins (t ∷ u) x w h = la.begun t u x h

  shorter : (u : List T) (x : A) (w : List T) (m : ℕ) → a.whole u x → length (u ++ w) ≤ suc m → length w ≤ m
  shorter [] x w m h le = absurd (solid.none x h)
  shorter (t ∷ u) x w m h le = omega (arith, length-append u w)

  -- none of it
  stays : (n : ℕ) (ts : List T) → begins a ts ≡ false → many_read a n ts ≡ Ok ([], ts)
  unfolding many_read
  stays zero ts h = refl
  stays (suc n) ts h = rw h refl

  -- one more of it
  goes : (n : ℕ) (u : List T) (x : A) (w : List T) → a.whole u x → length (u ++ w) ≤ n → a.read (u ++ w) ≡ Ok (x, w)
      → (m : ℕ) × (n ≡ suc m) × (length w ≤ m) × (many_read a n (u ++ w) ≡ (many_read a m w >>= λ q. Ok (x ∷ q.0, q.1)))
  unfolding many_read
  goes zero [] x w h le e = absurd (solid.none x h)
  goes zero (t ∷ u) x w h le e = absurd (omega arith)
  goes (suc m) u x w h le e = (m, refl, shorter u x w m h le, rw (front_begins u x w h, e) refl)

  abbrev Takes : ℕ → List T → List A → List T → Type 0
  Takes n ts xs rest =
      (u : List T) × (ts ≡ u ++ rest) × many_whole a u xs ×
      ((w : List T) (m : ℕ) → length (u ++ w) ≤ m → SameHead rest w → many_read a m (u ++ w) ≡ Ok (xs, w))

  one_taken : (u v : List T) (x : A) (xs : List A) (w : List T) (m : ℕ) → a.whole u x → length ((u ++ v) ++ w) ≤ m
      → a.read (u ++ (v ++ w)) ≡ Ok (x, v ++ w)
      → ((k : ℕ) → length (v ++ w) ≤ k → many_read a k (v ++ w) ≡ Ok (xs, w))
      → many_read a m ((u ++ v) ++ w) ≡ Ok (x ∷ xs, w)
  one_taken u v x xs w m h le one others =
      let g = goes m u x (v ++ w) h (rw append_assoc at le) one in
      let two = others g.0 g.2 in
      rw (append_assoc u v w, g.3, two) refl

  abbrev then_more : ℕ → A × List T → Result (List A × List T) (List T)
  then_more n p = many_read a n p.1 >>= λ q. Ok (p.0 ∷ q.0, q.1)

  abbrev IsExact : ℕ → Type 0
  IsExact n =
      (ts : List T) (xs : List A) (rest : List T) → length ts ≤ n → many_read a n ts ≡ Ok (xs, rest)
      → Takes n ts xs rest

  nothing_taken : (n : ℕ) (ts : List T) → begins a ts ≡ false → Takes n ts [] ts
  nothing_taken n ts is = ([], refl, refl, λ w m le h. stays m w (sym (same_begins a ts w h) ∙ is))

  takes_when : (n : ℕ) → IsExact n → (b : Bool) (ts : List T) (xs : List A) (rest : List T) → begins a ts ≡ b
      → length ts ≤ suc n → cond b (a.read ts >>= then_more n) (Ok ([], ts)) ≡ Ok (xs, rest) → Takes (suc n) ts xs rest
  takes_when n ih true ts xs rest is le e =
      let p = bind_ok (a.read ts) (then_more n) (xs, rest) e in
      let q = bind_ok (many_read a n p.0.1) (λ q. Ok (p.0.0 ∷ q.0, q.1)) (xs, rest) p.2 in
      let ta = la.ok ts p.0.0 p.0.1 p.1 in
      let short : length p.0.1 ≤ n = shorter ta.front p.0.0 p.0.1 n ta.whole
      (subst (λ (z : List T). length z ≤ suc n) ta.parts le) in
      let tb = ih p.0.1 q.0.0 q.0.1 short q.1 in
      let made : List A × List T = (p.0.0 ∷ q.0.0, q.0.1) in
      subst (λ (z : List A × List T). Takes (suc n) ts z.0 z.1) (ok_is made (xs, rest) q.2) (
        ta.front ++ tb.0,
        ta.parts ∙ ap (λ (r : List T). ta.front ++ r) tb.1 ∙ sym (append_assoc ta.front tb.0 q.0.1),
        (ta.front, tb.0, refl, ta.whole, tb.2),
        λ w m lm h. one_taken ta.front tb.0 p.0.0 q.0.0 w m ta.whole lm
            (ta.same (tb.0 ++ w) (subst (λ (r : List T). SameHead r (tb.0 ++ w)) (sym tb.1)
            (same_after tb.0 q.0.1 w h)))
            (λ k lk. tb.3 w k lk h),
      )
  takes_when n ih false ts xs rest is le e =
      let made : List A × List T = ([], ts) in
      subst (λ (z : List A × List T). Takes (suc n) ts z.0 z.1) (ok_is made (xs, rest) e) (nothing_taken (suc n) ts is)

  takes : (n : ℕ) → IsExact n
  unfolding many_read
  takes zero [] xs rest le e =
      let made : List A × List T = ([], []) in
      subst (λ (z : List A × List T). Takes zero [] z.0 z.1) (ok_is made (xs, rest) e) (nothing_taken zero [] refl)
  takes zero (t ∷ ts) xs rest le e = absurd (omega arith)
  takes (suc n) ts xs rest le e = takes_when n (takes n) (begins a ts) ts xs rest refl le e

  abbrev Ends : ℕ → List T → List T → Type 0
  Ends n ts rest =
      (u : List T) × (ts ≡ u ++ rest) × many_part a u ×
      ((w : List T) (m : ℕ) → length (u ++ w) ≤ m → SameHead rest w → many_read a m (u ++ w) ≡ Err w)

  abbrev IsExactErr : ℕ → Type 0
  IsExactErr n = (ts rest : List T) → length ts ≤ n → many_read a n ts ≡ Err rest → Ends n ts rest

  same_start : (ts rest u w : List T) → begins a ts ≡ true → ts ≡ u ++ rest → SameHead rest w → begins a (u ++ w) ≡ true
  same_start ts rest u w is parts h =
      sym (same_begins a (u ++ rest) (u ++ w) (same_after u rest w h)) ∙ ap (begins a) (sym parts) ∙ is

  no_room : (z : List T) → length z ≤ 0 → begins a z ≡ true → ⊥
  no_room [] le b = cc
  no_room (t ∷ z) le b = omega arith

  -- the first of it fails
  fails_now : (m : ℕ) (z w : List T) → begins a z ≡ true → a.read z ≡ Err w → length z ≤ m → many_read a m z ≡ Err w
  unfolding many_read
  fails_now zero z w is e le = absurd (no_room z le is)
  fails_now (suc m) z w is e le = rw (is, e) refl

  one_then_fails : (u v : List T) (x : A) (w : List T) (m : ℕ) → a.whole u x → length ((u ++ v) ++ w) ≤ m
      → a.read (u ++ (v ++ w)) ≡ Ok (x, v ++ w)
      → ((k : ℕ) → length (v ++ w) ≤ k → many_read a k (v ++ w) ≡ Err w) → many_read a m ((u ++ v) ++ w) ≡ Err w
  one_then_fails u v x w m h le one others =
      let g = goes m u x (v ++ w) h (rw append_assoc at le) one in
      let two = others g.0 g.2 in
      rw (append_assoc u v w, g.3, two) refl

  more_part : (u v : List T) (x : A) → a.whole u x → many_part a v → many_part a (u ++ v)
  more_part u v x h p = (
    u ++ p.0,
    p.1,
    x ∷ p.2,
    ap (λ (r : List T). u ++ r) p.3 ∙ sym (append_assoc u p.0 p.1),
    (u, p.0, refl, h, p.4),
    p.5,
  )

  ends_when : (n : ℕ) → IsExactErr n → (b : Bool) (ts rest : List T) → begins a ts ≡ b → length ts ≤ suc n
      → cond b (a.read ts >>= then_more n) (Ok ([], ts)) ≡ Err rest → Ends (suc n) ts rest
  ends_when n ih true ts rest is le e = elim (bind_err (a.read ts) (then_more n) rest e) [
    | inl ea ↦
        let ra = la.err ts rest ea in (
          ra.front,
          ra.parts,
          ([], ra.front, [], refl, refl, ra.part),
          λ w m lm h. fails_now m (ra.front ++ w) w
              (same_start ts rest ra.front w is ra.parts h) (ra.same w h) lm,
        )
    | inr p ↦ elim (bind_err (many_read a n p.0.1) (λ q. Ok (p.0.0 ∷ q.0, q.1)) rest p.2) [
      | inl eb ↦
          let ta = la.ok ts p.0.0 p.0.1 p.1 in
          let short : length p.0.1 ≤ n = shorter ta.front p.0.0 p.0.1 n ta.whole
          (subst (λ (z : List T). length z ≤ suc n) ta.parts le) in
          let tb = ih p.0.1 rest short eb in (
            ta.front ++ tb.0,
            ta.parts ∙ ap (λ (r : List T). ta.front ++ r) tb.1 ∙ sym (append_assoc ta.front tb.0 rest),
            more_part ta.front tb.0 p.0.0 ta.whole tb.2,
            λ w m lm h. one_then_fails ta.front tb.0 p.0.0 w m ta.whole lm
                (ta.same (tb.0 ++ w) (subst (λ (r : List T). SameHead r (tb.0 ++ w)) (sym tb.1)
                (same_after tb.0 rest w h)))
                (λ k lk. tb.3 w k lk h),
          )
      | inr q ↦ let bad = q.2 in absurd cc
    ]
  ]
  ends_when n ih false ts rest is le e = absurd cc

  ends : (n : ℕ) → IsExactErr n
  unfolding many_read
  ends zero ts rest le e = absurd cc
  ends (suc n) ts rest le e = ends_when n (ends n) (begins a ts) ts rest refl le e

  abbrev Stops : T → Type 0
  Stops t = s t × (a.starts t ≡ false)

  stop_begins : (rest : List T) → StopsAt Stops rest → begins a rest ≡ false
  stop_begins [] h = refl
  stop_begins (t ∷ ts) h = h.1

  stop_first : (rest : List T) → StopsAt Stops rest → StopsAt s rest
  stop_first [] h = tt
  stop_first (t ∷ ts) h = h.0

  many_begun : (t : T) (ts : List T) (xs : List A) → many_whole a (t ∷ ts) xs → a.starts t ≡ true
  many_begun t ts [] h = absurd cc
  many_begun t ts (x ∷ xs) h = go h.0 h.1 h.2 h.3
    where
      go : (u v : List T) → t ∷ ts ≡ u ++ v → a.whole u x → a.starts t ≡ true
      go [] v e w = absurd (solid.none x w)
      go (d ∷ u) v e w = let same : t ≡ d = cc in rw same (la.begun d u x w)

  many_push : (xs : List A) (u v : List T) (x : A) → many_whole a u xs → a.whole v x
      → many_whole a (u ++ v) (xs ++ x ∷ [])
  many_push [] u v x h w = rw h (v, [], sym (append-nil v), w, refl)
  many_push (y ∷ xs) u v x h w =
      (h.0, h.1 ++ v, ap (λ (r : List T). r ++ v) h.2 ∙ append_assoc h.0 h.1 v, h.3, many_push xs h.1 v x h.4 w)

  -- ---- as a loop goes

  pub none_more : (ts : List T) → begins a ts ≡ false → (many a).read ts ≡ Ok ([], ts)
  none_more ts h = stays (length ts) ts h

  after_one : (n m : ℕ) → ((ts : List T) → length ts ≤ n → length ts ≤ m → many_read a n ts ≡ many_read a m ts)
      → (ts : List T) → length ts ≤ suc n → length ts ≤ suc m
      → (r : Result (A × List T) (List T)) → a.read ts ≡ r → (r >>= then_more n) ≡ (r >>= then_more m)
  after_one n m ih ts ln lm (Err d) e = refl
  after_one n m ih ts ln lm (Ok p) e =
      let ta = la.ok ts p.0 p.1 e in
      let sn : length p.1 ≤ n = shorter ta.front p.0 p.1 n ta.whole
      (subst (λ (z : List T). length z ≤ suc n) ta.parts ln) in
      let sm : length p.1 ≤ m = shorter ta.front p.0 p.1 m ta.whole
      (subst (λ (z : List T). length z ≤ suc m) ta.parts lm) in
      ap (λ (r : Result (List A × List T) (List T)). r >>= λ q. Ok (p.0 ∷ q.0, q.1)) (ih p.1 sn sm)

  same_fuel : (n m : ℕ) (ts : List T) → length ts ≤ n → length ts ≤ m → many_read a n ts ≡ many_read a m ts
  unfolding many_read
  same_fuel zero m [] ln lm = sym (stays m [] refl)
  same_fuel zero m (t ∷ ts) ln lm = absurd (omega arith)
  same_fuel (suc n) zero [] ln lm = stays (suc n) [] refl
  same_fuel (suc n) zero (t ∷ ts) ln lm = absurd (omega arith)
  same_fuel (suc n) (suc m) ts ln lm =
      ap (λ (r : Result (List A × List T) (List T)). cond (begins a ts) r (Ok ([], ts)))
      (after_one n m (same_fuel n m) ts ln lm (a.read ts) refl)

  one_more_from : (n : ℕ) (ts : List T) → length ts ≤ n → begins a ts ≡ true
      → many_read a n ts ≡ (a.read ts >>= λ p. (many a).read p.1 >>= λ q. Ok (p.0 ∷ q.0, q.1))
  unfolding many_read
  one_more_from zero ts le is = absurd (no_room ts le is)
  one_more_from (suc n) ts le is = rw is (fueled (a.read ts) refl)
    where
      fueled : (r : Result (A × List T) (List T)) → a.read ts ≡ r
          → (r >>= then_more n) ≡ (r >>= λ p. (many a).read p.1 >>= λ q. Ok (p.0 ∷ q.0, q.1))
      fueled (Err d) e = refl
      fueled (Ok p) e =
          let ta = la.ok ts p.0 p.1 e in
          let sn : length p.1 ≤ n = shorter ta.front p.0 p.1 n ta.whole
          (subst (λ (z : List T). length z ≤ suc n) ta.parts le) in
          ap (λ (r : Result (List A × List T) (List T)). r >>= λ q. Ok (p.0 ∷ q.0, q.1))
          (same_fuel n (length p.1) p.1 sn (omega arith))

  pub one_more : (ts : List T) → begins a ts ≡ true
      → (many a).read ts ≡ (a.read ts >>= λ p. (many a).read p.1 >>= λ q. Ok (p.0 ∷ q.0, q.1))
  one_more ts is = one_more_from (length ts) ts (omega arith) is

  module _ (apart : (t : T) → a.starts t ≡ true → s t) where
    stops_before : (v : List T) (xs : List A) (rest : List T) → many_whole a v xs → StopsAt Stops rest
        → StopsAt s (v ++ rest)
    stops_before [] xs rest w h = stop_first rest h
    stops_before (t ∷ v) xs rest w h = apart t (many_begun t v xs w)

    many_again : (xs : List A) (u rest : List T) → many_whole a u xs → StopsAt Stops rest → (m : ℕ)
        → length (u ++ rest) ≤ m → many_read a m (u ++ rest) ≡ Ok (xs, rest)
    many_again [] u rest h st m le = rw h (stays m rest (stop_begins rest st))
    many_again (x ∷ xs) u rest h st m le =
        let one = la.again h.0 x (h.1 ++ rest) h.3 (stops_before h.1 xs rest h.4 st) in
        let others = many_again xs h.1 rest h.4 st in
        rw h.2 (one_taken h.0 h.1 x xs rest m h.3 (subst (λ (z : List T). length (z ++ rest) ≤ m) h.2 le) one others)

    pub Lawful-many : Lawful T (List A) (many a) Stops
    Lawful-many = record {
      ok = λ ts xs rest e. let t = takes (length ts) ts xs rest
          (omega arith) e in record {
            front = t.0;
            parts = t.1;
            whole = t.2;
            same = λ w h. t.3 w (length (t.0 ++ w))
                (omega arith) h;
          };
      err = λ ts rest e. let t = ends (length ts) ts rest
          (omega arith) e in record {
            front = t.0;
            parts = t.1;
            part = t.2;
            same = λ w h. t.3 w (length (t.0 ++ w))
                (omega arith) h;
          };
      again = λ u xs rest h st. many_again xs u rest h st (length (u ++ rest)) (omega arith);
      completes = λ u h. let c = la.completes h.1 h.5 in
          (c.0, h.2 ++ c.1 ∷ [], rw (h.3, append_assoc h.0 h.1 c.0) (many_push h.2 h.0 (h.1 ++ c.0) c.1 h.4 c.2));
      begun = many_begun;
      front = λ u xs h. (u, [], xs, sym (append-nil u), h, la.nothing);
      nothing = ([], [], [], refl, refl, la.nothing);
    }
