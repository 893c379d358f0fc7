-- Reading is exact of one of two items, of which the second may be nothing.
use Rattle.std.proofs.Common.{◌≡◌, Bool, true, false, cond, List, [], ◌∷◌, ◌++◌, Ok, Err}
use Rattle.std.proofs.Common.{◌||◌, inl, inr, refl, sym, ap, ◌∙◌}
use Rattle.iltokens.specs.Items.{Item, begins, alt, alt_read}
use Rattle.iltokens.proofs.Laws.{SameHead, same_after, same_begins, StopsAt, Took, Refused, Lawful, Solid}

module _ (T A : Type 0) (a b : Item T A) (sa sb : T → Type 0) (la : Lawful T A a sa) (lb : Lawful T A b sb)
    (solid : Solid T A a) (apart : (t : T) → b.starts t ≡ true → a.starts t ≡ false) where
  -- where both stop, and the first does not begin
  abbrev Stops : T → Type 0
  Stops t = (sa t × sb t) × (a.starts t ≡ false)

  first_begins : (u : List T) (x : A) (w : List T) → a.whole u x → begins a (u ++ w) ≡ true
  first_begins [] x w h = absurd (solid.none x h)
  first_begins (t ∷ u) x w h = la.begun t u x h

  -- the choice depends on the first token alone
  same_choice : (c : Bool) (ts u v w : List T) → begins a ts ≡ c → ts ≡ u ++ v → SameHead v w → begins a (u ++ w) ≡ c
  same_choice c ts u v w is parts h =
      sym (same_begins a (u ++ v) (u ++ w) (same_after u v w h)) ∙ ap (begins a) (sym parts) ∙ is

  open_ok : (c : Bool) (ts : List T) (x : A) (rest : List T) → begins a ts ≡ c
      → cond c (a.read ts) (b.read ts) ≡ Ok (x, rest) → Took T A (alt a b) ts x rest
  open_ok true ts x rest is e =
      let ta = la.ok ts x rest e in
      record {
        front = ta.front;
        parts = ta.parts;
        whole = inl ta.whole;
        same = λ w h. rw (first_begins ta.front x w ta.whole, ta.same w h) refl;
      }
  open_ok false ts x rest is e =
      let tb = lb.ok ts x rest e in
      record {
        front = tb.front;
        parts = tb.parts;
        whole = inr tb.whole;
        same = λ w h. rw (same_choice false ts tb.front rest w is tb.parts h, tb.same w h) refl;
      }

  open_err : (c : Bool) (ts rest : List T) → begins a ts ≡ c → cond c (a.read ts) (b.read ts) ≡ Err rest
      → Refused T A (alt a b) ts rest
  open_err true ts rest is e =
      let ra = la.err ts rest e in
      record {
        front = ra.front;
        parts = ra.parts;
        part = inl ra.part;
        same = λ w h. rw (same_choice true ts ra.front rest w is ra.parts h, ra.same w h) refl;
      }
  open_err false ts rest is e =
      let rb = lb.err ts rest e in
      record {
        front = rb.front;
        parts = rb.parts;
        part = inr rb.part;
        same = λ w h. rw (same_choice false ts rb.front rest w is rb.parts h, rb.same w h) refl;
      }

  stops_first : (rest : List T) → StopsAt Stops rest → StopsAt sa rest
  stops_first [] h = tt
  stops_first (t ∷ ts) h = h.0.0

  stops_second : (rest : List T) → StopsAt Stops rest → StopsAt sb rest
  stops_second [] h = tt
  stops_second (t ∷ ts) h = h.0.1

  stops_choice : (rest : List T) → StopsAt Stops rest → begins a rest ≡ false
  stops_choice [] h = refl
  stops_choice (t ∷ ts) h = h.1

  second_begins : (u : List T) (x : A) (rest : List T) → b.whole u x → StopsAt Stops rest
      → begins a (u ++ rest) ≡ false
  second_begins [] x rest w s = stops_choice rest s
  second_begins (t ∷ u) x rest w s = apart t (lb.begun t u x w)

  open_again : (u : List T) (x : A) (rest : List T) → (alt a b).whole u x → StopsAt Stops rest
      → alt_read a b (u ++ rest) ≡ Ok (x, rest)
  open_again u x rest (inl h) s = rw (first_begins u x rest h, la.again u x rest h (stops_first rest s)) refl
  open_again u x rest (inr h) s = rw (second_begins u x rest h s, lb.again u x rest h (stops_second rest s)) refl

  open_completes : (u : List T) → (alt a b).part u → (more : List T) × (x : A) × (alt a b).whole (u ++ more) x
  open_completes u (inl h) = let c = la.completes u h in (c.0, c.1, inl c.2)
  open_completes u (inr h) = let c = lb.completes u h in (c.0, c.1, inr c.2)

  open_begun : (t : T) (ts : List T) (x : A) → (alt a b).whole (t ∷ ts) x → (a.starts t || b.starts t) ≡ true
  open_begun t ts x (inl h) = rw (la.begun t ts x h) refl
  open_begun t ts x (inr h) = let e = lb.begun t ts x h in rw (apart t e, e) refl

  open_front : (u : List T) (x : A) → (alt a b).whole u x → (alt a b).part u
  open_front u x (inl h) = inl (la.front u x h)
  open_front u x (inr h) = inr (lb.front u x h)

  pub Lawful-alt_open : Lawful T A (alt a b) (λ t. (sa t × sb t) × (a.starts t ≡ false))
  Lawful-alt_open = record {
    ok = λ ts x rest e. open_ok (begins a ts) ts x rest refl e;
    err = λ ts rest e. open_err (begins a ts) ts rest refl e;
    again = open_again;
    completes = open_completes;
    begun = open_begun;
    front = open_front;
    nothing = inl la.nothing;
  }
