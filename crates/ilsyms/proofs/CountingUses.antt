-- With one use more there is one constant more at most, and the use that makes too many is the first after as many as
-- the limit.
use Rattle.std.proofs.Common.{◌≡◌, ℕ, ◌+◌, ◌<◌, ◌≤◌, nat_lt, List, [], ◌∷◌, ◌++◌, length, Bool, true, false, cond, ◌||◌}
use Rattle.std.proofs.Common.{refl, sym, ap, ◌∙◌, subst, arith, ◌⊎◌, inl, inr, append_assoc, length-append}
use Rattle.std.specs.Prelude.{Option, Some, None}
use Rattle.std.specs.List.{list_any, cons_option}
use Rattle.std.proofs.lemmas.Bool.Decides.{nat_tests}
use Rattle.std.proofs.lemmas.List.Folds.{list_any-append}
use Rattle.std.proofs.lemmas.List.{append-nil}
use Rattle.std.proofs.lemmas.List.Elements.{filter_map-append}
use Rattle.iltypes.specs.declared.value.Value.{Value}
use Rattle.ilsource.specs.declared.uses.Use.{Use}
use Rattle.limits.specs.Limits.{most_constants}
use Rattle.ilplan.specs.Constants.{same_value, constant_in, constants_used, each_once, with_constant}
use Rattle.ilplan.proofs.EachOnce.{any_each_once, each_once_more, is_same}
use Rattle.ilsyms.specs.Faults.{MakesTooManyConstants}
use Rattle.ilsyms.specs.CountingSteps.{AreCounted}
use Rattle.ilsyms.proofs.Lists.{or_true}

pub used_append : {N : Type 0} (us vs : List (Use N))
    → constants_used (us ++ vs) ≡ constants_used us ++ constants_used vs
used_append {N} us vs = filter_map-append (λ (u : Use N). constant_in u.operand) us vs

-- how many different constants some uses have
abbrev pub many : {N : Type 0} → List (Use N) → ℕ
many uses = length (each_once (constants_used uses))

-- a name is no constant
name_used : {N : Type 0} (us : List (Use N)) (u : Use N) → constant_in u.operand ≡ None
    → each_once (constants_used (us ++ u ∷ [])) ≡ each_once (constants_used us)
name_used us u e =
    ap each_once
    (used_append us (u ∷ []) ∙ ap (λ o. constants_used us ++ cons_option o []) e ∙ append-nil (constants_used us))

constant_used : {N : Type 0} (us : List (Use N)) (u : Use N) (v : Value) → constant_in u.operand ≡ Some v
    → each_once (constants_used (us ++ u ∷ [])) ≡ with_constant (each_once (constants_used us)) v
constant_used us u v e =
    ap each_once (used_append us (u ∷ []) ∙ ap (λ o. constants_used us ++ cons_option o []) e)
    ∙ each_once_more (constants_used us) v

-- with one use more there is at most one constant more
with_length : (known : List Value) (v : Value)
    → (length (with_constant known v) ≡ length known) ⊎ (length (with_constant known v) ≡ length known + 1)
with_length known v = by (list_any (same_value v) known)
  where
    by : (b : Bool) → (length (cond b known (known ++ v ∷ [])) ≡ length known)
        ⊎ (length (cond b known (known ++ v ∷ [])) ≡ length known + 1)
    by true = inl refl
    by false = inr (omega (arith, length-append known (v ∷ [])))

more_used : {N : Type 0} (us : List (Use N)) (u : Use N)
    → (many us ≤ many (us ++ u ∷ [])) × (many (us ++ u ∷ []) ≤ many us + 1)
more_used us u = by (constant_in u.operand) refl
  where
    one : (v : Value) → many (us ++ u ∷ []) ≡ length (with_constant (each_once (constants_used us)) v)
        → (length (with_constant (each_once (constants_used us)) v) ≡ many us)
        ⊎ (length (with_constant (each_once (constants_used us)) v) ≡ many us + 1)
        → (many us ≤ many (us ++ u ∷ [])) × (many (us ++ u ∷ []) ≤ many us + 1)
    one v e (inl s) = (omega (arith, e, s), omega (arith, e, s))
    one v e (inr s) = (omega (arith, e, s), omega (arith, e, s))

    by : (o : Option Value) → constant_in u.operand ≡ o
        → (many us ≤ many (us ++ u ∷ [])) × (many (us ++ u ∷ []) ≤ many us + 1)
    by None e =
        let same = ap (λ (vs : List Value). length vs) (name_used us u e) in
        (omega (arith, same), omega (arith, same))
    by (Some v) e =
        one v (ap (λ (vs : List Value). length vs) (constant_used us u v e))
        (with_length (each_once (constants_used us)) v)

pub not_fewer : {N : Type 0} (us vs : List (Use N)) → many us ≤ many (us ++ vs)
not_fewer us [] = let e = ap many (append-nil us) in omega (arith, e)
not_fewer us (v ∷ vs) =
    let e = ap many (append_assoc us (v ∷ []) vs) in
    let one = more_used us v in
    let rest = not_fewer (us ++ v ∷ []) vs in
    omega (arith, e, one.0, rest)

-- where a list with one more at its end has an element
nothing_there : {X : Type 0} (before after : List X) (last : X) → [] ≡ before ++ last ∷ after → ⊥
nothing_there [] after last e = cc
nothing_there (b ∷ before) after last e = cc

last_or_before : {X : Type 0} (us : List X) (u : X) (before after : List X) (last : X)
    → us ++ u ∷ [] ≡ before ++ last ∷ after
    → ((us ≡ before) × (u ≡ last)) ⊎ ((rest : List X) × (us ≡ before ++ last ∷ rest))
last_or_before [] u [] after last e = let h : u ≡ last = cc in inl (refl, h)
last_or_before [] u (b ∷ before) after last e =
    let t : [] ≡ before ++ last ∷ after = cc in
    absurd (nothing_there before after last t)
last_or_before (x ∷ us) u [] after last e = let h : x ≡ last = cc in inr (us, ap (λ y. y ∷ us) h)
last_or_before (x ∷ us) u (b ∷ before) after last e =
    let h : x ≡ b = cc in
    let t : us ++ u ∷ [] ≡ before ++ last ∷ after = cc in
    under x b h (last_or_before us u before after last t)
  where
    under : {X : Type 0} {us before : List X} {u last : X} (x b : X) → x ≡ b
        → ((us ≡ before) × (u ≡ last)) ⊎ ((rest : List X) × (us ≡ before ++ last ∷ rest))
        → ((x ∷ us ≡ b ∷ before) × (u ≡ last)) ⊎ ((rest : List X) × (x ∷ us ≡ b ∷ (before ++ last ∷ rest)))
    under x b h (inl e) = inl ((λ i. h i ∷ e.0 i), e.1)
    under x b h (inr e) = inr (e.0, (λ i. h i ∷ e.1 i))

-- what makes too many of some uses does so of more
still_too_many : {N : Type 0} (us : List (Use N)) (u : Use N) (place : ℕ) → MakesTooManyConstants us place
    → MakesTooManyConstants (us ++ u ∷ []) place
still_too_many us u place m = record {
  before = m.before;
  last = m.last;
  after = m.after ++ u ∷ [];
  is = ap (λ l. l ++ u ∷ []) m.is ∙ append_assoc m.before (m.last ∷ m.after) (u ∷ []);
  full = m.full;
  more = m.more;
  stands = m.stands;
}

-- the use at the place is the one more that makes too many
abbrev IsLast : {N : Type 0} → List (Use N) → Use N → ℕ → Type 0
IsLast us u place = (many us ≡ most_constants) × (many (us ++ u ∷ []) ≡ most_constants + 1) × (place ≡ u.at)

too_many_of_more : {N : Type 0} (us : List (Use N)) (u : Use N) (place : ℕ)
    → MakesTooManyConstants (us ++ u ∷ []) place → MakesTooManyConstants us place ⊎ IsLast us u place
too_many_of_more {N} us u place m = by (last_or_before us u m.before m.after m.last m.is)
  where
    by : ((us ≡ m.before) × (u ≡ m.last)) ⊎ ((rest : List (Use N)) × (us ≡ m.before ++ m.last ∷ rest))
        → MakesTooManyConstants us place ⊎ IsLast us u place
    by (inl e) =
        inr (
          ap many e.0 ∙ m.full,
          ap many (λ i. e.0 i ++ e.1 i ∷ []) ∙ m.more,
          m.stands ∙ ap (λ (v : Use N). v.at) (sym e.1),
        )
    by (inr e) = inl (record {
      before = m.before;
      last = m.last;
      after = e.0;
      is = e.1;
      full = m.full;
      more = m.more;
      stands = m.stands;
    })

-- more than the limit
too_many_are_more : {N : Type 0} (us : List (Use N)) (place : ℕ) → MakesTooManyConstants us place
    → most_constants + 1 ≤ many us
too_many_are_more us place m =
    let e = ap many (m.is ∙ sym (append_assoc m.before (m.last ∷ []) m.after)) in
    let more = not_fewer (m.before ++ m.last ∷ []) m.after in
    let g = m.more in
    omega (arith, e, more, g)

pub none_counted : {N : Type 0} → AreCounted {N = N} [] [] None
none_counted = record {
  different = refl;
  too_many = λ place. ((λ e. absurd cc), (λ m. absurd (nothing_there m.before m.after m.last m.is)));
}

module _ {N : Type 0} (us : List (Use N)) (known more : List Value) (excess : Option ℕ) (u : Use N)
    (c : AreCounted us known excess) (e : more ≡ each_once (constants_used (us ++ u ∷ []))) where
  last_counted : many us ≡ most_constants → many (us ++ u ∷ []) ≡ most_constants + 1
      → AreCounted (us ++ u ∷ []) more (Some u.at)
  last_counted full too_many = record {
    different = e;
    too_many = λ place. (here place, there place);
  }
    where
      here : (place : ℕ) → Some u.at ≡ Some place → MakesTooManyConstants (us ++ u ∷ []) place
      here place e = record {
        before = us;
        last = u;
        after = [];
        is = refl;
        full = full;
        more = too_many;
        stands = let h : place ≡ u.at = cc in h;
      }

      place_of : (place : ℕ) → MakesTooManyConstants us place ⊎ IsLast us u place → Some u.at ≡ Some place
      place_of place (inl m) = let n = too_many_are_more us place m in absurd (omega (arith, n, full))
      place_of place (inr l) = let h = l.2 in cc

      there : (place : ℕ) → MakesTooManyConstants (us ++ u ∷ []) place → Some u.at ≡ Some place
      there place m = place_of place (too_many_of_more us u place m)

  more_counted : ¬ ((many us ≡ most_constants) × (many (us ++ u ∷ []) ≡ most_constants + 1))
      → AreCounted (us ++ u ∷ []) more excess
  more_counted not_last = record {
    different = e;
    too_many = λ place. (
      (λ h. still_too_many us u place ((c.too_many place).0 h)),
      (λ m. there place (too_many_of_more us u place m)),
    );
  }
    where
      there : (place : ℕ) → MakesTooManyConstants us place ⊎ IsLast us u place → excess ≡ Some place
      there place (inl m) = (c.too_many place).1 m
      there place (inr l) = absurd (not_last (l.0, l.1))

-- a use of a name
pub name_counted : {N : Type 0} (us : List (Use N)) (known : List Value) (excess : Option ℕ) (u : Use N)
    → AreCounted us known excess → constant_in u.operand ≡ None → AreCounted (us ++ u ∷ []) known excess
name_counted us known excess u c e =
    let same = name_used us u e in
    more_counted us known known excess u c (c.different ∙ sym same)
    (λ l. let f = l.0 in let m = l.1 in let n = ap (λ (vs : List Value). length vs) same in omega (arith, f, m, n))

-- a use of a constant: the one that makes too many, and any other
module _ {N : Type 0} (us : List (Use N)) (known more : List Value) (excess : Option ℕ) (u : Use N) (v : Value)
    (c : AreCounted us known excess) (is : constant_in u.operand ≡ Some v) (e : more ≡ with_constant known v) where
  same : more ≡ each_once (constants_used (us ++ u ∷ []))
  same = e ∙ ap (λ known. with_constant known v) c.different ∙ sym (constant_used us u v is)

  pub last_constant : length known ≡ most_constants → length known < length more
      → AreCounted (us ++ u ∷ []) more (Some u.at)
  last_constant full longer =
      let n = ap (λ (vs : List Value). length vs) c.different in
      let m = ap (λ (vs : List Value). length vs) same in
      let most = more_used us u in
      last_counted us known more excess u c same (omega (arith, n, full)) (omega (arith, n, m, full, longer, most.1))

  pub other_constant : ¬ ((length known ≡ most_constants) × (length known < length more))
      → AreCounted (us ++ u ∷ []) more excess
  other_constant not_last =
      let n = ap (λ (vs : List Value). length vs) c.different in
      let m = ap (λ (vs : List Value). length vs) same in
      more_counted us known more excess u c same
      (λ l. let f = l.0 in let g = l.1 in not_last (omega (arith, n, f), omega (arith, n, m, f, g)))

-- ---- uses of constants that are all known

-- the constants of the uses are among those of others
abbrev pub AreKnown : {N : Type 0} → List (Use N) → List (Use N) → Type 0
AreKnown us vs = (v : Value) → list_any (same_value v) (constants_used vs) ≡ true
    → list_any (same_value v) (constants_used us) ≡ true

known_already : {N : Type 0} (us : List (Use N)) (u : Use N) (v : Value) → constant_in u.operand ≡ Some v
    → list_any (same_value v) (constants_used us) ≡ true
    → each_once (constants_used (us ++ u ∷ [])) ≡ each_once (constants_used us)
known_already us u v is there =
    constant_used us u v is
    ∙ ap (λ b. cond b (each_once (constants_used us)) (each_once (constants_used us) ++ v ∷ []))
    (any_each_once v (constants_used us) ∙ there)

pub known_counted : {N : Type 0} (vs us : List (Use N)) (known : List Value) (excess : Option ℕ) → AreKnown us vs
    → AreCounted us known excess → AreCounted (us ++ vs) known excess
known_counted {N} [] us known excess are c =
    subst (λ (ws : List (Use N)). AreCounted ws known excess) (sym (append-nil us)) c
known_counted {N} (u ∷ vs) us known excess are c =
    subst (λ (ws : List (Use N)). AreCounted ws known excess) (append_assoc us (u ∷ []) vs)
    (known_counted vs (us ++ u ∷ []) known excess (λ v e. still (list_any (same_value v) (constants_used us)) v
    (later v (constant_in u.operand) refl e)) (one (constant_in u.operand) refl))
  where
    later : (v : Value) (o : Option Value) → constant_in u.operand ≡ o
        → list_any (same_value v) (constants_used vs) ≡ true → list_any (same_value v) (constants_used us) ≡ true
    later v None is e = are v (ap (λ o. list_any (same_value v) (cons_option o (constants_used vs))) is ∙ e)
    later v (Some w) is e =
        are v (ap (λ o. list_any (same_value v) (cons_option o (constants_used vs))) is
        ∙ ap (λ b. same_value v w || b) e ∙ or_true (same_value v w))

    still : (b : Bool) (v : Value) → list_any (same_value v) (constants_used us) ≡ true
        → list_any (same_value v) (constants_used (us ++ u ∷ [])) ≡ true
    still b v e =
        ap (list_any (same_value v)) (used_append us (u ∷ []))
        ∙ list_any-append (same_value v) (constants_used us) (constants_used (u ∷ []))
        ∙ ap (λ x. x || list_any (same_value v) (constants_used (u ∷ []))) e

    one : (o : Option Value) → constant_in u.operand ≡ o → AreCounted (us ++ u ∷ []) known excess
    one None is = name_counted us known excess u c is
    one (Some v) is =
        let there : list_any (same_value v) (constants_used us) ≡ true =
        are v (ap (λ o. list_any (same_value v) (cons_option o (constants_used vs))) is
        ∙ ap (λ b. b || list_any (same_value v) (constants_used vs)) (is_same v)) in
        let same = known_already us u v is there in
        more_counted us known known excess u c (c.different ∙ sym same)
        (λ l. let f = l.0 in let m = l.1 in let n = ap (λ (ws : List Value). length ws) same in omega (arith, f, m, n))

-- where none makes too many there are at most as many as the limit
few_of_more : {N : Type 0} (front back : List (Use N)) → ((place : ℕ) → ¬ MakesTooManyConstants (front ++ back) place)
    → many front ≤ most_constants → many (front ++ back) ≤ most_constants
few_of_more front [] none few = let e = ap many (append-nil front) in omega (arith, e, few)
few_of_more {N} front (u ∷ back) none few =
    let all = append_assoc front (u ∷ []) back in
    subst (λ us. many us ≤ most_constants) all
    (few_of_more (front ++ u ∷ []) back (subst (λ us. (place : ℕ) → ¬ MakesTooManyConstants us place) (sym all) none)
    (still_few (nat_lt most_constants (many (front ++ u ∷ []))) refl))
  where
    still_few : (b : Bool) → nat_lt most_constants (many (front ++ u ∷ [])) ≡ b
        → many (front ++ u ∷ []) ≤ most_constants
    still_few false e = grind (arith, nat_tests)
    still_few true e =
        let most = more_used front u in
        let over : most_constants < many (front ++ u ∷ []) = grind (arith, nat_tests) in
        absurd (none u.at (record {
          before = front;
          last = u;
          after = back;
          is = refl;
          full = omega (arith, over, most.1, few);
          more = omega (arith, over, most.1, few);
          stands = refl;
        }))

pub few_constants : {N : Type 0} (us : List (Use N)) → ((place : ℕ) → ¬ MakesTooManyConstants us place)
    → length (each_once (constants_used us)) ≤ most_constants
few_constants us none = few_of_more [] us none (omega arith)
