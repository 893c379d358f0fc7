-- What is kept of the requests on paths, from word to word and from body to body.
use Rattle.std.proofs.Common.{◌≡◌, ℕ, ◌+◌, ◌<◌, ◌≤◌, ◌⊎◌, inl, inr, List, [], ◌∷◌, length, Option, Some, None}
use Rattle.std.proofs.Common.{refl, sym, ◌∙◌, subst, arith}
use Rattle.std.specs.Prelude.{slice_get, replicate}
use Rattle.std.proofs.lemmas.Bool.{cases_eq, cases_lt}
use Rattle.std.proofs.lemmas.List.{length-replicate}
use Rattle.iltypes.specs.declared.condition.Condition.TheVariants.{Always, IfTrue, IfFalse}
use Rattle.ilcode.specs.declared.word.Word.{Word}
use Rattle.ilcode.specs.declared.word.Word.TheVariants as words
use Rattle.ilcode.specs.Listings.{Listing, IsLawful, IsIn, end_of, start_of}
use Rattle.ilcode.specs.Paths.{PathCall, path_call, Standing, standing, body_on, land, IsWord, LeadsTo}
use Rattle.ilcode.proofs.Bodies.{start_suc, rising, within, one_body}
use Rattle.ilverify.specs.declared.through.Counted.TheVariants.{Requests}
use Rattle.ilverify.specs.Tables.{plus, IsEarlier}
use Rattle.ilverify.specs.Through.{weight, through_in}
use Rattle.ilverify.specs.RequestSteps.{HasBefore, HasPathTo, IsAt, IsBehind, IsTargeted, LeadsWith, IsAhead}
use Rattle.ilverify.specs.RequestSteps.{IsPassedOn, AreMost, raised, raised_after}
use Rattle.ilverify.proofs.Lists.{get_replicate}
use Rattle.ilverify.proofs.CalledBodies.{good_call, callable_earlier}
use Rattle.ilverify.proofs.Fills.{past_start, target_in}
use Rattle.ilverify.proofs.Placed.{land_in}
use Rattle.ilverify.proofs.Raises.{Raises, raises_one, raises_after}
use Rattle.ilverify.proofs.RequestPaths.{before_more, before_less}
use Rattle.ilverify.proofs.RequestWays.{AreWays, comes_to, leads_through}

-- ---- where a word leads is ahead

-- the word at a place of a body
record AtBody (code : Listing) (through : List (Option ℕ)) (body place : ℕ) (word : Word) : Type 0 where
  right : AreWays code through
  in_body : IsIn code body place
  is : slice_get code.instructions place ≡ Some word

on_ahead : (code : Listing) (body place to at requests n : ℕ) → place < to → IsAt (end_of code body) to at requests n
    → IsAhead code body (place + 1) at
on_ahead code body place to at requests n lt l =
    inl (let q = l.is in omega (arith, q, lt), l.within)

target_is_ahead : (code : Listing) (through : List (Option ℕ)) (body place target at requests n : ℕ) (word : Word)
    → AtBody code through body place word → IsTargeted code (end_of code body) place target at requests n
    → IsAhead code body (place + 1) at
target_is_ahead code through body place target at requests n word h l =
    let a = target_in code body place target h.in_body l.0 in
    on_ahead code body place target at requests n a.0 l.1

behind_ahead : (code : Listing) (body place at requests n : ℕ) (inside : Option ℕ)
    → IsBehind inside (end_of code body) (place + 1) at requests n → IsAhead code body (place + 1) at
behind_ahead code body place at requests n (Some inside) l =
    on_ahead code body place (place + 1) at (plus requests inside) n (omega arith) l
behind_ahead code body place at requests n None l = absurd l

called_ahead : (code : Listing) (through : List (Option ℕ)) (body place function at requests n : ℕ)
    → AtBody code through body place (words.Invoke function)
    → IsAt (end_of code (function + 1)) (end_of code function) at requests n → IsAhead code body (place + 1) at
called_ahead code through body place function at requests n h l =
    let good = good_call code h.right.good body place function h.in_body h.is in
    let start = start_suc code function in
    let q = l.is in
    inr (
      function + 1,
      callable_earlier body function good.callable,
      record { from = omega (arith, start, q); to = l.within },
    )

leads_ahead : (code : Listing) (through : List (Option ℕ)) (body place requests : ℕ) (word : Word)
    → AtBody code through body place word → (at n : ℕ)
    → LeadsWith code through (end_of code body) place word requests at n → IsAhead code body (place + 1) at
leads_ahead code through body place requests (words.Jump Always target) h at n l =
    target_is_ahead code through body place target at requests n (words.Jump Always target) h l
leads_ahead code through body place requests (words.Jump IfTrue target) h at n (inl l) =
    on_ahead code body place (place + 1) at requests n (omega arith) l
leads_ahead code through body place requests (words.Jump IfTrue target) h at n (inr l) =
    target_is_ahead code through body place target at requests n (words.Jump IfTrue target) h l
leads_ahead code through body place requests (words.Jump IfFalse target) h at n (inl l) =
    on_ahead code body place (place + 1) at requests n (omega arith) l
leads_ahead code through body place requests (words.Jump IfFalse target) h at n (inr l) =
    target_is_ahead code through body place target at requests n (words.Jump IfFalse target) h l
leads_ahead code through body place requests (words.Invoke function) h at n (inl l) =
    behind_ahead code body place at requests n (through_in code through function) l
leads_ahead code through body place requests (words.Invoke function) h at n (inr l) =
    called_ahead code through body place function at requests n h l
leads_ahead code through body place requests word h at n l =
    on_ahead code body place (place + 1) at requests n (omega arith) l

-- ---- a path goes on wherever the word leads

-- a path to the word
record HasPathAt (code : Listing) (through : List (Option ℕ)) (calls : List PathCall) (place before : ℕ) (word : Word)
    : Type 0 where
  at : AtBody code through (body_on calls) place word
  is : HasBefore code (standing place calls) before

path_on : (code : Listing) (through : List (Option ℕ)) (calls : List PathCall) (place before : ℕ) (word : Word)
    → HasPathAt code through calls place before word → (to at n : ℕ)
    → IsAt (end_of code (body_on calls)) to at (plus before (weight code Requests word)) n → place < to
    → LeadsTo code word (standing place calls) (land code to calls) → HasPathTo code at n
path_on code through calls place before word h to at n l lt leads =
    let q = l.is in
    let many = l.many in
    let below : to < end_of code (body_on calls) = (let w = l.within in omega (arith, q, w)) in
    let here = land_in code calls to below in
    let from = h.at.in_body.from in
    let b = before_more code (standing place calls) (standing to calls) before word h.is h.at.is (record {
      word = word;
      is = h.at.is;
      leads = subst (LeadsTo code word (standing place calls)) here leads;
      within = below;
    }) in
    subst (λ (p : ℕ). HasPathTo code p n) (sym q) (record {
      calls = calls;
      in_body = record { from = omega (arith, from, lt); to = below };
      is = before_less code (standing to calls) (before + weight code Requests word) n b (omega (arith, many));
    })

path_target : (code : Listing) (through : List (Option ℕ)) (calls : List PathCall) (place before target : ℕ)
    (word : Word) → HasPathAt code through calls place before word → (at n : ℕ)
    → IsTargeted code (end_of code (body_on calls)) place target at (plus before (weight code Requests word)) n
    → LeadsTo code word (standing place calls) (land code target calls) → HasPathTo code at n
path_target code through calls place before target word h at n l leads =
    let a = target_in code (body_on calls) place target h.at.in_body l.0 in
    path_on code through calls place before word h target at n l.1 a.0 leads

path_called : (code : Listing) (through : List (Option ℕ)) (calls : List PathCall) (place before function : ℕ)
    → HasPathAt code through calls place before (words.Invoke function) → (at n : ℕ)
    → IsAt (end_of code (function + 1)) (end_of code function) at
    (plus before (weight code Requests (words.Invoke function))) n → HasPathTo code at n
path_called code through calls place before function h at n l =
    let q = l.is in
    let many = l.many in
    let start = end_of code function in
    let inner = path_call function (place + 1) ∷ calls in
    let k = before + weight code Requests (words.Invoke function) in
    let below : start < end_of code (function + 1) = (let w = l.within in omega (arith, q, w)) in
    let here = land_in code inner start below in
    let good = good_call code h.at.right.good (body_on calls) place function h.at.in_body h.at.is in
    let c = comes_to code calls inner place start before (words.Invoke function) h.is h.at.is
    (record { lawful = good.callable; within = good.within; is = refl }) in
    let b = subst (λ (s : Standing). IsWord code s → HasBefore code s k) here c below in
    let s = start_suc code function in
    subst (λ (p : ℕ). HasPathTo code p n) (sym q) (record {
      calls = inner;
      in_body = record { from = omega (arith, s); to = below };
      is = before_less code (standing start inner) k n b (omega (arith, many));
    })

path_behind : (code : Listing) (through : List (Option ℕ)) (calls : List PathCall) (place before function : ℕ)
    → HasPathAt code through calls place before (words.Invoke function) → (at n : ℕ) (inside : Option ℕ)
    → through_in code through function ≡ inside
    → IsBehind inside (end_of code (body_on calls)) (place + 1) at
    (plus before (weight code Requests (words.Invoke function))) n → HasPathTo code at n
path_behind code through calls place before function h at n None e l = absurd l
path_behind code through calls place before function h at n (Some inside) e l =
    let q = l.is in
    let many = l.many in
    let k = before + weight code Requests (words.Invoke function) in
    let below : place + 1 < end_of code (body_on calls) = (let w = l.within in omega (arith, q, w)) in
    let here = land_in code calls (place + 1) below in
    let good = good_call code h.at.right.good (body_on calls) place function h.at.in_body h.at.is in
    let c = comes_to code calls (path_call function (place + 1) ∷ calls) place (end_of code function) before
    (words.Invoke function) h.is h.at.is (record { lawful = good.callable; within = good.within; is = refl }) in
    let d = leads_through code through h.at.right function (end_of code function) inside (place + 1) k calls
    (omega arith) (rising code h.at.right.lawful function) e c in
    let b = subst (λ (s : Standing). IsWord code s → HasBefore code s (k + inside)) here d below in
    let from = h.at.in_body.from in
    subst (λ (p : ℕ). HasPathTo code p n) (sym q) (record {
      calls = calls;
      in_body = record { from = omega (arith, from); to = below };
      is = before_less code (standing (place + 1) calls) (k + inside) n b (omega (arith, many));
    })

path_leads : (code : Listing) (through : List (Option ℕ)) (calls : List PathCall) (place before : ℕ) (word : Word)
    → HasPathAt code through calls place before word → (at n : ℕ)
    → LeadsWith code through (end_of code (body_on calls)) place word (plus before (weight code Requests word)) at n
    → HasPathTo code at n
path_leads code through calls place before (words.Jump Always target) h at n l =
    path_target code through calls place before target (words.Jump Always target) h at n l
    (record { lawful = l.0; is = refl })
path_leads code through calls place before (words.Jump IfTrue target) h at n (inl l) =
    path_on code through calls place before (words.Jump IfTrue target) h (place + 1) at n l (omega arith) (inl refl)
path_leads code through calls place before (words.Jump IfTrue target) h at n (inr l) =
    path_target code through calls place before target (words.Jump IfTrue target) h at n l
    (inr (record { lawful = l.0; is = refl }))
path_leads code through calls place before (words.Jump IfFalse target) h at n (inl l) =
    path_on code through calls place before (words.Jump IfFalse target) h (place + 1) at n l (omega arith) (inl refl)
path_leads code through calls place before (words.Jump IfFalse target) h at n (inr l) =
    path_target code through calls place before target (words.Jump IfFalse target) h at n l
    (inr (record { lawful = l.0; is = refl }))
path_leads code through calls place before (words.Invoke function) h at n (inl l) =
    path_behind code through calls place before function h at n (through_in code through function) refl l
path_leads code through calls place before (words.Invoke function) h at n (inr l) =
    path_called code through calls place before function h at n l
path_leads code through calls place before word h at n l =
    path_on code through calls place before word h (place + 1) at n l (omega arith) refl

-- ---- from word to word

-- what is ahead of the next word is ahead of this one, and of what is ahead of this one it alone is not
ahead_next : (code : Listing) (body place at : ℕ) → (at ≡ place → ⊥) → IsAhead code body place at
    → IsAhead code body (place + 1) at
ahead_next code body place at d (inl a) = inl (let le = a.0 in omega (arith, le, d), a.1)
ahead_next code body place at d (inr a) = inr a

-- no path leads to the place
pub most_unreached : (code : Listing) (through most : List (Option ℕ)) (body place : ℕ)
    → AreMost code through most body place → slice_get most place ≡ Some None
    → AreMost code through most body (place + 1)
most_unreached code through most body place m e = record {
  long = m.long;
  each = m.each;
  first = m.first;
  passed = λ from never.
      elim (cases_eq from place) as (λ _. IsPassedOn code through most from) [
        | inl q ↦ λ other before word i w is at n l.
            absurd (let k = subst (λ (p : ℕ). slice_get most p ≡ Some (Some before)) q is in cc)
        | inr d ↦ m.passed from (λ a. never (ahead_next code body place from d a))
      ];
}

abbrev LeadsAfter : Listing → List (Option ℕ) → ℕ → ℕ → Word → ℕ → ℕ → ℕ → Type 0
LeadsAfter code through place body word before at n =
    LeadsWith code through (end_of code body) place word (plus before (weight code Requests word)) at n

-- the word passes on what is kept for it
abbrev after_word : Listing → List (Option ℕ) → List (Option ℕ) → ℕ → ℕ → ℕ → Word → List (Option ℕ)
after_word code through most body place before word =
    raised_after code through most (end_of code body) place word (plus before (weight code Requests word))

pub most_passed : (code : Listing) (through most : List (Option ℕ)) (body place before : ℕ) (word : Word)
    → AreWays code through → AreMost code through most body place → IsIn code body place
    → slice_get code.instructions place ≡ Some word → slice_get most place ≡ Some (Some before)
    → AreMost code through
    (after_word code through most body place before word) body (place + 1)
most_passed code through most body place before word right m i is e = record {
  long = r.long ∙ m.long;
  each = each;
  first = λ lt. r.kept 0 0 (m.first lt);
  passed = passed;
}
  where
    le : (other : ℕ) → end_of code other ≤ length most
    le other = let l = m.long in let w = within code right.lawful other in omega (arith, l, w)

    r : Raises
        (LeadsAfter code through place body word before) most
        (after_word code through most body place before word)
    r = raises_after code through most (end_of code body) place (plus before (weight code Requests word)) word
        (le body) le

    at_body : AtBody code through body place word
    at_body = record { right = right; in_body = i; is = is }

    untouched : (at : ℕ) → ¬ IsAhead code body (place + 1) at
        → slice_get (after_word code through most body place before word) at
        ≡ slice_get most at
    untouched at never = r.same at (λ n l.
        never (leads_ahead code through body place (plus before (weight code Requests word)) word at_body at n l))

    each : (to n : ℕ)
        → slice_get (after_word code through most body place before word) to
        ≡ Some (Some n) → HasPathTo code to n
    each to n f =
        elim (r.from to n f) [
          | inl old ↦ m.each to n old
          | inr l ↦
              let p = m.each place before e in
              let one = one_body code right.lawful body (body_on p.calls) place i p.in_body in
              path_leads code through p.calls place before word (record {
                at = record { right = right; in_body = p.in_body; is = is };
                is = p.is;
              }) to n
              (subst (λ (b : ℕ). LeadsAfter code through place b word before to n) one l)
        ]

    here : IsPassedOn code through
        (after_word code through most body place before word) place
    here other kept same j w f at n l =
        let one = one_body code right.lawful other body place j i in
        let words_are : same ≡ word = cc in
        let old = sym (untouched place (λ a. not_ahead a)) ∙ f in
        let before_is : kept ≡ before = cc in
        r.there at n
        (subst (λ (b : ℕ). LeadsAfter code through place b word before at n) one
        (subst (λ (v : Word). LeadsAfter code through place other v before at n) words_are
        (subst (λ (b : ℕ). LeadsAfter code through place other same b at n) before_is l)))
      where
        not_ahead : IsAhead code body (place + 1) place → ⊥
        not_ahead (inl a) = let le = a.0 in omega (arith, le)
        not_ahead (inr a) =
            let one = one_body code right.lawful a.0 body place a.2 i in
            let f = a.1.function in
            elim a.1.earlier [ inl z ↦ omega (arith, z, one, f) | inr lt ↦ omega (arith, lt, one) ]

    passed : (from : ℕ) → ¬ IsAhead code body (place + 1) from → IsPassedOn code through
        (after_word code through most body place before word) from
    passed from never =
        elim (cases_eq from place) as (λ _. IsPassedOn code through
        (after_word code through most body place before word) from) [
          | inl q ↦ subst (IsPassedOn code through
              (after_word code through most body place before word))
              (sym q) here
          | inr d ↦ λ other kept same j w f at n l.
              r.kept at n
              (m.passed from (λ a. never (ahead_next code body place from d a)) other kept same j w
              (sym (untouched from never) ∙ f) at n l)
        ]

-- ---- before the first word

-- nothing is kept for a place
abbrev none_kept : Option ℕ
none_kept = None

pub most_at_first : (code : Listing) (through : List (Option ℕ)) → IsLawful code
    → AreMost code through (raised (replicate (length code.instructions) None) (end_of code 0) 0 0) 0 0
most_at_first code through lawful = record {
  long = r.long ∙ long;
  each = λ to n e.
      elim (r.from to n e) [
        | inl old ↦
            let f : None ≡ Some n = get_replicate (length code.instructions) to None (Some n) old in
            let k : ⊥ = cc in absurd k
        | inr l ↦
            let q = l.is in
            let many = l.many in
            let w = l.within in
            let lt : 0 < end_of code 0 = omega (arith, q, w) in
            subst (λ (p : ℕ). HasPathTo code p n) (sym q) (record {
              calls = [];
              in_body = record { from = omega arith; to = lt };
              is = record { before = []; path = (refl, lt, tt); many = omega (arith, many) };
            })
      ];
  first = λ lt. r.there 0 0 (record { is = refl; within = lt; many = refl });
  passed = λ from never other before word i. absurd (never (ahead other i));
}
  where
    long : length (replicate (length code.instructions) none_kept) ≡ length code.instructions
    long = length-replicate (length code.instructions) none_kept

    r : Raises (λ at n. IsAt (end_of code 0) 0 at 0 n) (replicate (length code.instructions) none_kept)
        (raised (replicate (length code.instructions) none_kept) (end_of code 0) 0 0)
    r = raises_one (replicate (length code.instructions) none_kept) (end_of code 0) 0 0
        (let w = within code lawful 0 in let l = long in omega (arith, w, l))

    ahead : {from : ℕ} → (other : ℕ) → IsIn code other from → IsAhead code 0 0 from
    ahead {from} other i = elim (cases_eq other 0) as (λ _. IsAhead code 0 0 from) [
      | inl q ↦ inl (omega arith, subst (λ (b : ℕ). from < end_of code b) q i.to)
      | inr d ↦ inr (other, record { function = omega (arith, d); earlier = inl refl }, i)
    ]

-- ---- from body to body

most_moved : (code : Listing) (through most : List (Option ℕ)) (body place other to : ℕ)
    → AreMost code through most body place
    → ((from : ℕ) → IsAhead code body place from → IsAhead code other to from) → AreMost code through most other to
most_moved code through most body place other to m ahead = record {
  long = m.long;
  each = m.each;
  first = m.first;
  passed = λ from never. m.passed from (λ a. never (ahead from a));
}

-- behind the programs the functions are ahead
pub most_behind_programs : (code : Listing) (through most : List (Option ℕ)) → IsLawful code
    → AreMost code through most 0 (end_of code 0)
    → AreMost code through most (length code.functions + 1) (end_of code (length code.functions + 1))
most_behind_programs code through most lawful m =
    let n = length code.functions + 1 in
    most_moved code through most 0 (end_of code 0) n (end_of code n) m ahead
  where
    ahead : (from : ℕ) → IsAhead code 0 (end_of code 0) from
        → IsAhead code (length code.functions + 1) (end_of code (length code.functions + 1)) from
    ahead from (inl a) = absurd (let x = a.0 in let y = a.1 in omega (arith, x, y))
    ahead from (inr a) = elim (cases_lt a.0 (length code.functions + 1))
        as (λ _. IsAhead code (length code.functions + 1) (end_of code (length code.functions + 1)) from) [
          | inl lt ↦ inr (a.0, record { function = a.1.function; earlier = inr lt }, a.2)
          | inr ge ↦
              let start = past_start code a.0 ge in
              let w = within code lawful a.0 in
              let x = a.2.from in
              let y = a.2.to in
              absurd (omega (arith, start, w, x, y))
        ]

-- behind a function those before it are
pub most_before : (code : Listing) (through most : List (Option ℕ)) (body : ℕ)
    → AreMost code through most (body + 1) (end_of code (body + 1))
    → AreMost code through most body (start_of code body)
most_before code through most body m =
    most_moved code through most (body + 1) (end_of code (body + 1)) body (start_of code body) m ahead
  where
    by : (from other : ℕ) → IsEarlier (body + 1) other → IsIn code other from
        → IsAhead code body (start_of code body) from
    by from other e i = elim (cases_eq other body) as (λ _. IsAhead code body (start_of code body) from) [
      | inl q ↦
          let j = subst (λ (b : ℕ). IsIn code b from) q i in inl (j.from, j.to)
      | inr d ↦ inr (other, record { function = e.function; earlier = inr (less d e.earlier) }, i)
    ]
      where
        less : (other ≡ body → ⊥) → (body + 1 ≡ 0) ⊎ (other < body + 1) → other < body
        less d (inl z) = absurd (omega (arith, z))
        less d (inr lt) = omega (arith, lt, d)

    ahead : (from : ℕ) → IsAhead code (body + 1) (end_of code (body + 1)) from
        → IsAhead code body (start_of code body) from
    ahead from (inl a) = absurd (let x = a.0 in let y = a.1 in omega (arith, x, y))
    ahead from (inr a) = by from a.0 a.1 a.2

-- behind the first function nothing is ahead
pub nothing_ahead : (code : Listing) (from : ℕ) → ¬ IsAhead code 1 (end_of code 1) from
nothing_ahead code from (inl a) = let x = a.0 in let y = a.1 in omega (arith, x, y)
nothing_ahead code from (inr a) =
    let f = a.1.function in elim a.1.earlier [ inl z ↦ omega (arith, z) | inr lt ↦ omega (arith, lt, f) ]
