-- What holds of every item: reading is exact, in what it takes and where it stops.
use Rattle.std.proofs.Common.{◌≡◌, Bool, true, false, cond, List, [], ◌∷◌, ◌++◌, Option, Some, None, Result, Ok, Err}
use Rattle.std.proofs.Common.{◌⊎◌, inl, inr, refl, sym, ap, subst, ◌∙◌, append_assoc, ◌||◌}
use Rattle.iltokens.specs.Items.{◌>>=◌, Item, begins, one, one_whole, one_part, one_read, one_read_at, is_in, map}
use Rattle.iltokens.specs.Items.{map_read, seq, lead, seq_read, opt, opt_read, alt, alt_read}

-- ---- steps

pub bind_ok : {T A B : Type 0} (r : Result A (List T)) (f : A → Result B (List T)) (y : B) → (r >>= f) ≡ Ok y
    → (x : A) × (r ≡ Ok x) × (f x ≡ Ok y)
bind_ok (Ok x) f y e = (x, refl, e)
bind_ok (Err d) f y e = absurd cc

pub bind_err : {T A B : Type 0} (r : Result A (List T)) (f : A → Result B (List T)) (d : List T) → (r >>= f) ≡ Err d
    → (r ≡ Err d) ⊎ ((x : A) × (r ≡ Ok x) × (f x ≡ Err d))
bind_err (Ok x) f d e = inr (x, refl, e)
bind_err (Err c) f d e = inl cc

abbrev done : {T A : Type 0} → A → Result A (List T)
done x = Ok x

pub ok_is : {T A : Type 0} (x y : A) → done {T = T} x ≡ done {T = T} y → x ≡ y
ok_is x y e = cc

-- ---- what follows

abbrev pub SameHead : {T : Type 0} → List T → List T → Type 0
SameHead [] [] = Unit {0}
SameHead [] (t ∷ w) = ⊥
SameHead (t ∷ v) [] = ⊥
SameHead (t ∷ v) (u ∷ w) = t ≡ u

pub same_after : {T : Type 0} (u v w : List T) → SameHead v w → SameHead (u ++ v) (u ++ w)
same_after [] v w h = h
same_after (t ∷ u) v w h = refl

pub same_begins : {T A : Type 0} (a : Item T A) (v w : List T) → SameHead v w → begins a v ≡ begins a w
same_begins a [] [] h = refl
same_begins a [] (t ∷ w) h = absurd h
same_begins a (t ∷ v) [] h = absurd h
same_begins a (t ∷ v) (u ∷ w) h = ap a.starts h

abbrev pub StopsAt : {T : Type 0} → (T → Type 0) → List T → Type 0
StopsAt s [] = Unit {0}
StopsAt s (t ∷ ts) = s t

pub record Took (T A : Type 0) (a : Item T A) (ts : List T) (x : A) (rest : List T) : Type 0 where
  pub front : List T
  pub parts : ts ≡ front ++ rest
  pub whole : a.whole front x
  pub same : (w : List T) → SameHead rest w → a.read (front ++ w) ≡ Ok (x, w)

pub record Refused (T A : Type 0) (a : Item T A) (ts rest : List T) : Type 0 where
  pub front : List T
  pub parts : ts ≡ front ++ rest
  pub part : a.part front
  pub same : (w : List T) → SameHead rest w → a.read (front ++ w) ≡ Err w

pub record Lawful (T A : Type 0) (a : Item T A) (s : T → Type 0) : Type 0 where
  pub ok : (ts : List T) (x : A) (rest : List T) → a.read ts ≡ Ok (x, rest) → Took T A a ts x rest
  pub err : (ts rest : List T) → a.read ts ≡ Err rest → Refused T A a ts rest
  pub again : (u : List T) (x : A) (rest : List T) → a.whole u x → StopsAt s rest → a.read (u ++ rest) ≡ Ok (x, rest)
  pub completes : (u : List T) → a.part u → (more : List T) × (x : A) × a.whole (u ++ more) x
  pub begun : (t : T) (ts : List T) (x : A) → a.whole (t ∷ ts) x → a.starts t ≡ true
  pub front : (u : List T) (x : A) → a.whole u x → a.part u
  pub nothing : a.part []

-- nothing is no whole
pub record Solid (T A : Type 0) (a : Item T A) : Type 0 where
  pub none : (x : A) → a.whole [] x → ⊥

-- ---- one token

module _ (T A : Type 0) (class : T → Option A) (sample : T) (value : A) (has : class sample ≡ Some value) where
  one_at_ok : (o : Option A) (t : T) (ts : List T) (x : A) (rest : List T) → class t ≡ o
      → one_read_at o t ts ≡ Ok (x, rest) → Took T A (one class) (t ∷ ts) x rest
  one_at_ok None t ts x rest is e = absurd cc
  one_at_ok (Some y) t ts x rest is e =
      let made : A × List T = (y, ts) in
      subst (λ (z : A × List T). Took T A (one class) (t ∷ ts) z.0 z.1) (ok_is made (x, rest) e)
      (record { front = t ∷ []; parts = refl; whole = is; same = λ w h. rw is refl })

  one_at_err : (o : Option A) (t : T) (ts rest : List T) → class t ≡ o → one_read_at o t ts ≡ Err rest
      → Refused T A (one class) (t ∷ ts) rest
  one_at_err None t ts rest is e =
      subst (λ (z : List T). Refused T A (one class) (t ∷ ts) z) (let e2 : t ∷ ts ≡ rest = cc in e2)
      (record { front = []; parts = refl; part = tt; same = none_same is })
    where
      none_same : class t ≡ None → (w : List T) → SameHead (t ∷ ts) w → one_read class w ≡ Err w
      none_same is [] h = absurd h
      none_same is (u ∷ w) h = rw (← h, is) refl
  one_at_err (Some y) t ts rest is e = absurd cc

  one_ok : (ts : List T) (x : A) (rest : List T) → one_read class ts ≡ Ok (x, rest) → Took T A (one class) ts x rest
  one_ok [] x rest e = absurd cc
  one_ok (t ∷ ts) x rest e = one_at_ok (class t) t ts x rest refl e

  one_err : (ts rest : List T) → one_read class ts ≡ Err rest → Refused T A (one class) ts rest
  one_err [] rest e =
      subst (λ (z : List T). Refused T A (one class) [] z) (let nil : List T = [] in let e2 : nil ≡ rest = cc in e2)
      (record { front = []; parts = refl; part = tt; same = nil_same })
    where
      nil_same : (w : List T) → SameHead [] w → one_read class w ≡ Err w
      nil_same [] h = refl
      nil_same (u ∷ w) h = absurd h
  one_err (t ∷ ts) rest e = one_at_err (class t) t ts rest refl e

  one_again : (u : List T) (x : A) (rest : List T) → one_whole class u x → one_read class (u ++ rest) ≡ Ok (x, rest)
  one_again [] x rest h = absurd h
  one_again (t ∷ []) x rest h = rw h refl
  one_again (t ∷ v ∷ ts) x rest h = absurd h

  one_completes : (u : List T) → one_part class u → (more : List T) × (x : A) × one_whole class (u ++ more) x
  one_completes [] h = (sample ∷ [], value, has)
  one_completes (t ∷ []) h = ([], h.0, h.1)
  one_completes (t ∷ v ∷ ts) h = absurd h.1

  one_begun : (t : T) (ts : List T) (x : A) → one_whole class (t ∷ ts) x → is_in (class t) ≡ true
  one_begun t [] x h = rw h refl
  one_begun t (u ∷ ts) x h = absurd h

  one_front : (u : List T) (x : A) → one_whole class u x → one_part class u
  one_front [] x h = tt
  one_front (t ∷ ts) x h = (x, h)

  pub Lawful-one : Lawful T A (one class) (λ t. Unit {0})
  Lawful-one =
      record {
        ok = one_ok;
        err = one_err;
        again = λ u x rest h s. one_again u x rest
            h;
        completes = one_completes;
        begun = one_begun;
        front = one_front;
        nothing = tt;
      }

pub Solid-one : (T A : Type 0) (class : T → Option A) → Solid T A (one class)
Solid-one T A class = record { none = λ x h. h }

-- ---- one and then the other

abbrev then_second : {T A B : Type 0} → Item T B → A × List T → Result ((A × B) × List T) (List T)
then_second b p = b.read p.1 >>= λ q. Ok ((p.0, q.0), q.1)

module _ (T A B : Type 0) (a : Item T A) (b : Item T B) (sa sb : T → Type 0) (la : Lawful T A a sa)
    (lb : Lawful T B b sb) where
  seq_ok : (ts : List T) (x : A × B) (rest : List T) → seq_read a b ts ≡ Ok (x, rest)
      → Took T (A × B) (seq a b) ts x rest
  seq_ok ts x rest e =
      let p = bind_ok (a.read ts) (λ p. b.read p.1 >>= λ q. Ok ((p.0, q.0), q.1)) (x, rest) e in
      let q = bind_ok (b.read p.0.1) (λ q. Ok ((p.0.0, q.0), q.1)) (x, rest) p.2 in
      let ta = la.ok ts p.0.0 p.0.1 p.1 in
      let tb = lb.ok p.0.1 q.0.0 q.0.1 q.1 in
      let made : (A × B) × List T = ((p.0.0, q.0.0), q.0.1) in
      subst (λ (z : (A × B) × List T). Took T (A × B) (seq a b) ts z.0 z.1) (ok_is made (x, rest) q.2)
      (record {
        front = ta.front ++ tb.front;
        parts = ta.parts ∙ ap (λ (r : List T). ta.front ++ r) tb.parts ∙ sym (append_assoc ta.front tb.front q.0.1);
        whole = (ta.front, tb.front, refl, ta.whole, tb.whole);
        same = λ w h.
            let one = ta.same (tb.front ++ w)
            (subst (λ (r : List T). SameHead r (tb.front ++ w)) (sym tb.parts) (same_after tb.front q.0.1 w h)) in
            let two = tb.same w h in
            rw (append_assoc ta.front tb.front w, one, two) refl;
      })

  seq_err : (ts rest : List T) → seq_read a b ts ≡ Err rest → Refused T (A × B) (seq a b) ts rest
  seq_err ts rest e = elim (bind_err (a.read ts) (λ p. b.read p.1 >>= λ q. Ok ((p.0, q.0), q.1)) rest e) [
    | inl ea ↦
        let ra = la.err ts rest ea in
        record { front = ra.front; parts = ra.parts; part = inl ra.part; same = λ w h. rw (ra.same w h) refl }
    | inr p ↦ second p
  ]
    where
      second : (p : A × List T) × (a.read ts ≡ Ok p) × (then_second b p ≡ Err rest)
          → Refused T (A × B) (seq a b) ts rest
      second p = elim (bind_err (b.read p.0.1) (λ q. Ok ((p.0.0, q.0), q.1)) rest p.2) [
        | inl eb ↦
            let ta = la.ok ts p.0.0 p.0.1 p.1 in
            let rb = lb.err p.0.1 rest eb in
            record {
              front = ta.front ++ rb.front;
              parts = ta.parts ∙ ap (λ (r : List T). ta.front ++ r) rb.parts
                  ∙ sym (append_assoc ta.front rb.front rest);
              part = inr (ta.front, rb.front, p.0.0, refl, ta.whole, rb.part);
              same = λ w h.
                  let one = ta.same (rb.front ++ w)
                  (subst (λ (r : List T). SameHead r (rb.front ++ w)) (sym rb.parts)
                  (same_after rb.front rest w h)) in
                  let two = rb.same w h in
                  rw (append_assoc ta.front rb.front w, one, two) refl;
            }
        | inr q ↦ let bad = q.2 in absurd cc
      ]

  seq_completes : (u : List T) → (seq a b).part u → (more : List T) × (x : A × B) × (seq a b).whole (u ++ more) x
  seq_completes u (inl h) =
      let ca = la.completes u h in
      let cb = lb.completes [] lb.nothing in
      (ca.0 ++ cb.0, (ca.1, cb.1), (u ++ ca.0, cb.0, sym (append_assoc u ca.0 cb.0), ca.2, cb.2))
  seq_completes u (inr h) =
      let cb = lb.completes h.1 h.5 in
      (cb.0, (h.2, cb.1), (h.0, h.1 ++ cb.0, ap (λ (r : List T). r ++ cb.0) h.3 ∙ append_assoc h.0 h.1 cb.0, h.4, cb.2))

  seq_front : (u : List T) (x : A × B) → (seq a b).whole u x → (seq a b).part u
  seq_front u x h = inr (h.0, h.1, x.0, h.2, h.3, lb.front h.1 x.1 h.4)

  seq_begun : Solid T A a → (t : T) (ts : List T) (x : A × B) → (seq a b).whole (t ∷ ts) x → a.starts t ≡ true
  seq_begun solid t ts x h = go h.0 h.1 h.2 h.3
    where
      go : (u v : List T) → t ∷ ts ≡ u ++ v → a.whole u x.0 → a.starts t ≡ true
      go [] v e w = absurd (solid.none x.0 w)
      go (d ∷ u) v e w = let same : t ≡ d = cc in rw same (la.begun d u x.0 w)

  lead_begun : (t : T) (ts : List T) (x : A × B) → (seq a b).whole (t ∷ ts) x → (a.starts t || b.starts t) ≡ true
  lead_begun t ts x h = go h.0 h.1 h.2 h.3 h.4
    where
      either : (c d : Bool) → d ≡ true → (c || d) ≡ true
      either true d e = refl
      either false d e = e

      go : (u v : List T) → t ∷ ts ≡ u ++ v → a.whole u x.0 → b.whole v x.1 → (a.starts t || b.starts t) ≡ true
      go [] v e w z = either (a.starts t) (b.starts t) (lb.begun t ts x.1 (rw e z))
      go (d ∷ u) v e w z = let same : t ≡ d = cc in rw (same, la.begun d u x.0 w) refl

  -- b begins where a stops
  module _ (apart : (t : T) → b.starts t ≡ true → sa t) where
    stops_before : (v : List T) (y : B) (rest : List T) → b.whole v y → (b.whole [] y → StopsAt sa rest)
        → StopsAt sa (v ++ rest)
    stops_before [] y rest w h = h w
    stops_before (t ∷ v) y rest w h = apart t (lb.begun t v y w)

    seq_again_when : (u : List T) (x : A × B) (rest : List T) → (seq a b).whole u x → StopsAt sb rest
        → (b.whole [] x.1 → StopsAt sa rest) → seq_read a b (u ++ rest) ≡ Ok (x, rest)
    seq_again_when u x rest h s empty =
        let one = la.again h.0 x.0 (h.1 ++ rest) h.3 (stops_before h.1 x.1 rest h.4 empty) in
        let two = lb.again h.1 x.1 rest h.4 s in
        rw (h.2, append_assoc h.0 h.1 rest, one, two) refl

    pub Lawful-seq : Solid T A a → Solid T B b → Lawful T (A × B) (seq a b) sb
    Lawful-seq solid full =
        record {
          ok = seq_ok;
          err = seq_err;
          again = λ u x rest h s. seq_again_when u x rest h s
              (λ w. absurd (full.none x.1 w));
          completes =
              seq_completes;
          begun = seq_begun solid;
          front = seq_front;
          nothing = inl la.nothing;
        }

    both_stop : (rest : List T) → StopsAt (λ t. sa t × sb t) rest → StopsAt sa rest × StopsAt sb rest
    both_stop [] h = (tt, tt)
    both_stop (t ∷ ts) h = h

    -- where b may be nothing
    pub Lawful-seq_open : Solid T A a → Lawful T (A × B) (seq a b) (λ t. sa t × sb t)
    Lawful-seq_open solid =
        record {
          ok = seq_ok;
          err = seq_err;
          again = λ u x rest h s. seq_again_when u x rest h (both_stop rest s).1
              (λ w. (both_stop rest s).0);
          completes =
              seq_completes;
          begun = seq_begun solid;
          front = seq_front;
          nothing = inl la.nothing;
        }

    lead_ok : (ts : List T) (x : A × B) (rest : List T) → seq_read a b ts ≡ Ok (x, rest)
        → Took T (A × B) (lead a b) ts x rest
    lead_ok ts x rest e =
        let t = seq_ok ts x rest e in
        record { front = t.front; parts = t.parts; whole = t.whole; same = t.same }

    lead_err : (ts rest : List T) → seq_read a b ts ≡ Err rest → Refused T (A × B) (lead a b) ts rest
    lead_err ts rest e =
        let t = seq_err ts rest e in
        record { front = t.front; parts = t.parts; part = t.part; same = t.same }

    -- where both may be nothing
    pub Lawful-lead_open : Lawful T (A × B) (lead a b) (λ t. sa t × sb t)
    Lawful-lead_open =
        record {
          ok = lead_ok;
          err = lead_err;
          again = λ u x rest h s. seq_again_when u x rest h (both_stop rest s).1
              (λ w. (both_stop rest s).0);
          completes =
              seq_completes;
          begun = lead_begun;
          front = seq_front;
          nothing = inl la.nothing;
        }

    pub Lawful-lead : Solid T B b → Lawful T (A × B) (lead a b) sb
    Lawful-lead full =
        record {
          ok = lead_ok;
          err = lead_err;
          again = λ u x rest h s. seq_again_when u x rest h s
              (λ w. absurd (full.none x.1 w));
          completes =
              seq_completes;
          begun = lead_begun;
          front = seq_front;
          nothing = inl la.nothing;
        }

pub Solid-seq : (T A B : Type 0) (a : Item T A) (b : Item T B) → Solid T A a → Solid T (A × B) (seq a b)
Solid-seq T A B a b solid = record { none = λ x h. go x h.0 h.1 h.2 h.3 }
  where
    go : (x : A × B) (u v : List T) → [] ≡ u ++ v → a.whole u x.0 → ⊥
    go x [] v e w = solid.none x.0 w
    go x (d ∷ u) v e w = cc

-- ---- a value by f

module _ (T A B : Type 0) (f : A → B) (a : Item T A) (s : T → Type 0) (la : Lawful T A a s) where
  map_ok : (ts : List T) (y : B) (rest : List T) → map_read f a ts ≡ Ok (y, rest) → Took T B (map f a) ts y rest
  map_ok ts y rest e =
      let p = bind_ok (a.read ts) (λ p. Ok (f p.0, p.1)) (y, rest) e in
      let ta = la.ok ts p.0.0 p.0.1 p.1 in
      let made : B × List T = (f p.0.0, p.0.1) in
      subst (λ (z : B × List T). Took T B (map f a) ts z.0 z.1) (ok_is made (y, rest) p.2)
      (record {
        front = ta.front;
        parts = ta.parts;
        whole = (p.0.0, ta.whole, refl);
        same = λ w h. rw
            (ta.same w h) refl;
      })

  map_err : (ts rest : List T) → map_read f a ts ≡ Err rest → Refused T B (map f a) ts rest
  map_err ts rest e = elim (bind_err (a.read ts) (λ p. Ok (f p.0, p.1)) rest e) [
    | inl ea ↦
        let ra = la.err ts rest ea in
        record { front = ra.front; parts = ra.parts; part = ra.part; same = λ w h. rw (ra.same w h) refl }
    | inr p ↦ let bad = p.2 in absurd cc
  ]

  pub Lawful-map : Lawful T B (map f a) s
  Lawful-map = record {
    ok = map_ok;
    err = map_err;
    again = λ u y rest h st. rw (la.again u h.0 rest h.1 st, h.2) refl;
    completes = λ u h. let c = la.completes u h in (c.0, f c.1, (c.1, c.2, refl));
    begun = λ t ts y h. la.begun t ts h.0 h.1;
    front = λ u y h. la.front u h.0 h.1;
    nothing = la.nothing;
  }

pub Solid-map : (T A B : Type 0) (f : A → B) (a : Item T A) → Solid T A a → Solid T B (map f a)
Solid-map T A B f a solid = record { none = λ y h. solid.none h.0 h.1 }

-- ---- an item or nothing

module _ (T A : Type 0) (a : Item T A) (s : T → Type 0) (la : Lawful T A a s) (solid : Solid T A a) where
  abbrev some_of : Result (A × List T) (List T) → Result (Option A × List T) (List T)
  some_of r = r >>= λ p. Ok (Some p.0, p.1)

  front_begins : (u : List T) (x : A) (w : List T) → a.whole u x → begins a (u ++ w) ≡ true
  front_begins [] x w h = absurd (solid.none x h)
  front_begins (t ∷ u) x w h = la.begun t u x h

  opt_ok : (b : Bool) (ts : List T) (x : Option A) (rest : List T) → begins a ts ≡ b
      → cond b (some_of (a.read ts)) (Ok (None, ts)) ≡ Ok (x, rest) → Took T (Option A) (opt a) ts x rest
  opt_ok true ts x rest is e =
      let p = bind_ok (a.read ts) (λ p. Ok (Some p.0, p.1)) (x, rest) e in
      let ta = la.ok ts p.0.0 p.0.1 p.1 in
      let made : Option A × List T = (Some p.0.0, p.0.1) in
      subst (λ (z : Option A × List T). Took T (Option A) (opt a) ts z.0 z.1) (ok_is made (x, rest) p.2)
      (record {
        front = ta.front;
        parts = ta.parts;
        whole = ta.whole;
        same = λ w h. rw
            (front_begins ta.front p.0.0 w ta.whole, ta.same w h) refl;
      })
  opt_ok false ts x rest is e =
      let made : Option A × List T = (None, ts) in
      subst (λ (z : Option A × List T). Took T (Option A) (opt a) ts z.0 z.1) (ok_is made (x, rest) e)
      (record { front = []; parts = refl; whole = refl; same = λ w h. rw (sym (same_begins a ts w h) ∙ is) refl })

  opt_err : (b : Bool) (ts rest : List T) → begins a ts ≡ b → cond b (some_of (a.read ts)) (Ok (None, ts)) ≡ Err rest
      → Refused T (Option A) (opt a) ts rest
  opt_err true ts rest is e = elim (bind_err (a.read ts) (λ p. Ok (Some p.0, p.1)) rest e) [
    | inl ea ↦
        let ra = la.err ts rest ea in
        record {
          front = ra.front;
          parts = ra.parts;
          part = ra.part;
          same = λ w h.
              let same : begins a (ra.front ++ w) ≡ true = sym
              (same_begins a (ra.front ++ rest) (ra.front ++ w) (same_after ra.front rest w h)) ∙ ap (begins a)
              (sym ra.parts) ∙ is in
              rw (same, ra.same w h) refl;
        }
    | inr p ↦ let bad = p.2 in absurd cc
  ]
  opt_err false ts rest is e = absurd cc

  stop_begins : (rest : List T) → StopsAt (λ t. s t × (a.starts t ≡ false)) rest → begins a rest ≡ false
  stop_begins [] h = refl
  stop_begins (t ∷ ts) h = h.1

  stop_first : (rest : List T) → StopsAt (λ t. s t × (a.starts t ≡ false)) rest → StopsAt s rest
  stop_first [] h = tt
  stop_first (t ∷ ts) h = h.0

  opt_again : (u : List T) (x : Option A) (rest : List T) → (opt a).whole u x
      → StopsAt (λ t. s t × (a.starts t ≡ false)) rest → opt_read a (u ++ rest) ≡ Ok (x, rest)
  opt_again u None rest h st = rw (h, stop_begins rest st) refl
  opt_again u (Some x) rest h st = rw (front_begins u x rest h, la.again u x rest h (stop_first rest st)) refl

  opt_begun : (t : T) (ts : List T) (x : Option A) → (opt a).whole (t ∷ ts) x → a.starts t ≡ true
  opt_begun t ts None h = absurd cc
  opt_begun t ts (Some x) h = la.begun t ts x h

  opt_front : (u : List T) (x : Option A) → (opt a).whole u x → a.part u
  opt_front u None h = rw h la.nothing
  opt_front u (Some x) h = la.front u x h

  pub Lawful-opt : Lawful T (Option A) (opt a) (λ t. s t × (a.starts t ≡ false))
  Lawful-opt = record {
    ok = λ ts x rest e. opt_ok (begins a ts) ts x rest refl e;
    err = λ ts rest e. opt_err (begins a ts) ts rest refl e;
    again = opt_again;
    completes = λ u h. let c = la.completes u h in (c.0, Some c.1, c.2);
    begun = opt_begun;
    front = opt_front;
    nothing = la.nothing;
  }

-- ---- one of two

module _ (T A : Type 0) (a b : Item T A) (sa sb : T → Type 0) (la : Lawful T A a sa) (lb : Lawful T A b sb)
    (solid : Solid T A a) (full : Solid T A b) (apart : (t : T) → b.starts t ≡ true → a.starts t ≡ false) where
  first_begins : (u : List T) (x : A) (w : List T) → a.whole u x → begins a (u ++ w) ≡ true
  first_begins [] x w h = absurd (solid.none x h)
  first_begins (t ∷ u) x w h = la.begun t u x h

  second_begins : (u : List T) (x : A) (w : List T) → b.whole u x → begins a (u ++ w) ≡ false
  second_begins [] x w h = absurd (full.none x h)
  second_begins (t ∷ u) x w h = apart t (lb.begun t u x h)

  alt_ok : (c : Bool) (ts : List T) (x : A) (rest : List T) → begins a ts ≡ c
      → cond c (a.read ts) (b.read ts) ≡ Ok (x, rest) → Took T A (alt a b) ts x rest
  alt_ok true ts x rest is e =
      let ta = la.ok ts x rest e in
      record {
        front = ta.front;
        parts = ta.parts;
        whole = inl ta.whole;
        same = λ w h. rw
            (first_begins ta.front x w ta.whole, ta.same w h) refl;
      }
  alt_ok false ts x rest is e =
      let tb = lb.ok ts x rest e in
      record {
        front = tb.front;
        parts = tb.parts;
        whole = inr tb.whole;
        same = λ w h. rw
            (second_begins tb.front x w tb.whole, tb.same w h) refl;
      }

  same_choice : (c : Bool) (ts u v w : List T) → begins a ts ≡ c → ts ≡ u ++ v → SameHead v w → begins a (u ++ w) ≡ c
  same_choice c ts u v w is parts h =
      sym (same_begins a (u ++ v) (u ++ w) (same_after u v w h)) ∙ ap (begins a) (sym parts) ∙ is

  alt_err : (c : Bool) (ts rest : List T) → begins a ts ≡ c → cond c (a.read ts) (b.read ts) ≡ Err rest
      → Refused T A (alt a b) ts rest
  alt_err true ts rest is e =
      let ra = la.err ts rest e in
      record {
        front = ra.front;
        parts = ra.parts;
        part = inl ra.part;
        same = λ w h. rw
            (same_choice true ts ra.front rest w is ra.parts h, ra.same w h) refl;
      }
  alt_err false ts rest is e =
      let rb = lb.err ts rest e in
      record {
        front = rb.front;
        parts = rb.parts;
        part = inr rb.part;
        same = λ w h. rw
            (same_choice false ts rb.front rest w is rb.parts h, rb.same w h) refl;
      }

  alt_stop_first : (rest : List T) → StopsAt (λ t. sa t × sb t) rest → StopsAt sa rest × StopsAt sb rest
  alt_stop_first [] h = (tt, tt)
  alt_stop_first (t ∷ ts) h = h

  alt_again : (u : List T) (x : A) (rest : List T) → (alt a b).whole u x → StopsAt (λ t. sa t × sb t) rest
      → alt_read a b (u ++ rest) ≡ Ok (x, rest)
  alt_again u x rest (inl h) s = rw (first_begins u x rest h, la.again u x rest h (alt_stop_first rest s).0) refl
  alt_again u x rest (inr h) s = rw (second_begins u x rest h, lb.again u x rest h (alt_stop_first rest s).1) refl

  alt_completes : (u : List T) → (alt a b).part u → (more : List T) × (x : A) × (alt a b).whole (u ++ more) x
  alt_completes u (inl h) = let c = la.completes u h in (c.0, c.1, inl c.2)
  alt_completes u (inr h) = let c = lb.completes u h in (c.0, c.1, inr c.2)

  alt_begun : (t : T) (ts : List T) (x : A) → (alt a b).whole (t ∷ ts) x → (a.starts t || b.starts t) ≡ true
  alt_begun t ts x (inl h) = rw (la.begun t ts x h) refl
  alt_begun t ts x (inr h) = let e = lb.begun t ts x h in rw (apart t e, e) refl

  alt_front : (u : List T) (x : A) → (alt a b).whole u x → (alt a b).part u
  alt_front u x (inl h) = inl (la.front u x h)
  alt_front u x (inr h) = inr (lb.front u x h)

  pub Lawful-alt : Lawful T A (alt a b) (λ t. sa t × sb t)
  Lawful-alt = record {
    ok = λ ts x rest e. alt_ok (begins a ts) ts x rest refl e;
    err = λ ts rest e. alt_err (begins a ts) ts rest refl e;
    again = alt_again;
    completes = alt_completes;
    begun = alt_begun;
    front = alt_front;
    nothing = inl la.nothing;
  }

pub Solid-alt : (T A : Type 0) (a b : Item T A) → Solid T A a → Solid T A b → Solid T A (alt a b)
Solid-alt T A a b solid full = record { none = go }
  where
    go : (x : A) → (alt a b).whole [] x → ⊥
    go x (inl h) = solid.none x h
    go x (inr h) = full.none x h

pub Solid-lead : (T A B : Type 0) (a : Item T A) (b : Item T B) → Solid T B b → Solid T (A × B) (lead a b)
Solid-lead T A B a b full = record { none = λ x h. go x h.0 h.1 h.2 h.4 }
  where
    go : (x : A × B) (u v : List T) → [] ≡ u ++ v → b.whole v x.1 → ⊥
    go x [] v e w = full.none x.1 (rw e w)
    go x (d ∷ u) v e w = cc

-- an item that stops at more may be said to stop at fewer
pub Lawful-fewer : (T A : Type 0) (a : Item T A) (s r : T → Type 0) → ((t : T) → r t → s t) → Lawful T A a s
    → Lawful T A a r
Lawful-fewer T A a s r sub la =
    record {
      ok = la.ok;
      err = la.err;
      again = λ u x rest h st. la.again u x rest h
          (at rest st);
      completes = la.completes;
      begun = la.begun;
      front = la.front;
      nothing = la.nothing;
    }
  where
    at : (rest : List T) → StopsAt r rest → StopsAt s rest
    at [] h = tt
    at (t ∷ ts) h = sub t h
