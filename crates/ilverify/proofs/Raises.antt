-- What is kept of the requests on paths, after one word has passed on what is kept for it.
use Rattle.std.proofs.Common.{◌≡◌, ℕ, ◌+◌, ◌<◌, ◌≤◌, ◌⊎◌, inl, inr, List, length, Bool, true, false}
use Rattle.std.proofs.Common.{Option, Some, None, refl, sym, ap, ◌∙◌, subst, arith, length-set}
use Rattle.std.specs.Prelude.{IsTrue, nat_lt, slice_get, slice_set, get_or, max, if◌then◌else◌}
use Rattle.std.specs.Option.{unwrap_or}
use Rattle.std.proofs.lemmas.Bool.{cases_eq, cases_lt}
use Rattle.std.proofs.lemmas.Bool.Decides.{nat_tests}
use Rattle.std.proofs.lemmas.Option.{slice_get-get_or}
use Rattle.iltypes.specs.declared.condition.Condition.TheVariants.{Always, IfTrue, IfFalse}
use Rattle.ilcode.specs.declared.word.Word.{Word}
use Rattle.ilcode.specs.declared.word.Word.TheVariants as words
use Rattle.ilcode.specs.Listings.{Listing, end_of}
use Rattle.ilcode.specs.Steps.{is_target}
use Rattle.ilverify.specs.Tables.{plus}
use Rattle.ilverify.specs.Through.{through_in}
use Rattle.ilverify.specs.RequestSteps.{Holds, IsAt, IsBehind, IsTargeted, LeadsWith, raised, raised_target}
use Rattle.ilverify.specs.RequestSteps.{raised_behind}
use Rattle.ilverify.specs.RequestSteps.{raised_after}
use Rattle.ilverify.proofs.Lists.{set_there, same_set, other_set}

-- so many are kept at least wherever they lead, and nothing else is new
pub record Raises (leads : ℕ → ℕ → Type 0) (old new : List (Option ℕ)) : Type 0 where
  pub long : length new ≡ length old
  pub from : (at n : ℕ) → slice_get new at ≡ Some (Some n) → (slice_get old at ≡ Some (Some n)) ⊎ leads at n
  pub kept : (at n : ℕ) → Holds (slice_get old at) n → Holds (slice_get new at) n
  pub there : (at n : ℕ) → leads at n → Holds (slice_get new at) n
  pub same : (at : ℕ) → ((n : ℕ) → leads at n → ⊥) → slice_get new at ≡ slice_get old at

raises_none : (leads : ℕ → ℕ → Type 0) (most : List (Option ℕ)) → ((at n : ℕ) → leads at n → ⊥)
    → Raises leads most most
raises_none leads most none = record {
  long = refl;
  from = λ at n e. inl e;
  kept = λ at n h. h;
  there = λ at n l. absurd (none at n l);
  same = λ at never. refl;
}

raises_both : (one other : ℕ → ℕ → Type 0) (old between new : List (Option ℕ)) → Raises other old between
    → Raises one between new → Raises (λ at n. one at n ⊎ other at n) old new
raises_both one other old between new a b = record {
  long = b.long ∙ a.long;
  from = λ at n e.
      elim (b.from at n e) [
        | inl f ↦ elim (a.from at n f) [ inl g ↦ inl g | inr g ↦ inr (inr g) ]
        | inr f ↦ inr (inl f)
      ];
  kept = λ at n h. b.kept at n (a.kept at n h);
  there = λ at n l. elim l [ inl h ↦ b.there at n h | inr h ↦ b.kept at n (a.there at n h) ];
  same = λ at never. b.same at (λ n l. never n (inl l)) ∙ a.same at (λ n l. never n (inr l));
}

raises_as : (one other : ℕ → ℕ → Type 0) (old new : List (Option ℕ)) → ((at n : ℕ) → one at n → other at n)
    → ((at n : ℕ) → other at n → one at n) → Raises one old new → Raises other old new
raises_as one other old new to back r = record {
  long = r.long;
  from = λ at n e. elim (r.from at n e) [ inl f ↦ inl f | inr f ↦ inr (to at n f) ];
  kept = r.kept;
  there = λ at n l. r.there at n (back at n l);
  same = λ at never. r.same at (λ n l. never n (to at n l));
}

-- ---- one place

-- the number that was kept, or the new one
either_is : (before : Option ℕ) (requests n : ℕ) → max (unwrap_or before 0) requests ≡ n
    → (before ≡ Some n) ⊎ (n ≡ requests)
either_is None requests n e = inr (omega (arith, e))
either_is (Some m) requests n e =
    elim (cases_lt m requests) [
      | inl lt ↦ inr (omega (arith, e, lt))
      | inr ge ↦ let same : m ≡ n = omega (arith, e, ge) in inl (ap Some same)
    ]

kept_by : (before : Option ℕ) (requests n : ℕ) → Holds (Some before) n
    → n ≤ max (unwrap_or before 0) requests
kept_by None requests n h = absurd h
kept_by (Some m) requests n h = omega (arith, h)

raises_there : (most : List (Option ℕ)) (end place requests : ℕ) (before : Option ℕ)
    → slice_get most place ≡ Some before → place < length most → place < end
    → Raises (λ at n. IsAt end place at requests n) most
    (slice_set most place (Some (max (unwrap_or before 0) requests)))
raises_there most end place requests before is lt below =
    let value = max (unwrap_or before 0) requests in
    let new = slice_set most place (Some value) in
    let here = set_there most place (Some value) lt in
    record {
      long = length-set most place (Some value);
      from = λ at n e.
          elim (cases_eq at place) [
            | inl q ↦
                let same : Some value ≡ Some n =
                same_set most place (Some value) (Some n)
                (subst (λ (p : ℕ). slice_get new p ≡ Some (Some n)) q e) in
                let number : value ≡ n = cc in
                elim (either_is before requests n number) [
                  | inl old ↦ inl (ap (slice_get most) q ∙ is ∙ ap Some old)
                  | inr r ↦ inr (record { is = q; within = omega (arith, q, below); many = r })
                ]
            | inr d ↦ inl (sym (other_set most place at (Some value) d) ∙ e)
          ];
      kept = λ at n h.
          elim (cases_eq at place) [
            | inl q ↦
                let there = ap (slice_get new) q ∙ here in
                subst (λ (o : Option (Option ℕ)). Holds o n) (sym there)
                (kept_by before requests n
                (subst (λ (o : Option (Option ℕ)). Holds o n) (ap (slice_get most) q ∙ is) h))
            | inr d ↦
                subst (λ (o : Option (Option ℕ)). Holds o n) (sym (other_set most place at (Some value) d)) h
          ];
      there = λ at n l.
          let there = ap (slice_get new) l.is ∙ here in
          let many = l.many in
          subst (λ (o : Option (Option ℕ)). Holds o n) (sym there) (omega (arith, many));
      same = λ at never.
          other_set most place at (Some value)
          (λ q. never requests (record { is = q; within = omega (arith, q, below); many = refl }));
    }

raised_by : (most : List (Option ℕ)) (end place requests : ℕ) (below : Bool) → (IsTrue below → place < end)
    → (place < end → IsTrue below) → end ≤ length most
    → Raises (λ at n. IsAt end place at requests n) most
    (if below then slice_set most place (Some (max (unwrap_or (get_or most place None) 0) requests)) else most)
raised_by most end place requests true is back le =
    let lt = is refl in
    let within : place < length most = omega (arith, lt, le) in
    raises_there most end place requests (get_or most place None) (slice_get-get_or most place None within) within lt
raised_by most end place requests false is back le =
    raises_none (λ at n. IsAt end place at requests n) most (λ at n l.
    let q = l.is in
    let lt = l.within in
    let t = back (omega (arith, q, lt)) in let k : ⊥ = cc in k)

pub raises_one : (most : List (Option ℕ)) (end place requests : ℕ) → end ≤ length most
    → Raises (λ at n. IsAt end place at requests n) most (raised most end place requests)
raises_one most end place requests le =
    raised_by most end place requests (nat_lt place end) (λ t. grind (arith, nat_tests))
    (λ lt. grind (arith, nat_tests)) le

-- ---- a word

target_by : (code : Listing) (most : List (Option ℕ)) (end place target requests : ℕ) (lawful : Bool)
    → is_target code place target ≡ lawful → end ≤ length most
    → Raises (λ at n. IsTargeted code end place target at requests n) most
    (if lawful then raised most end target requests else most)
target_by code most end place target requests true e le =
    raises_as (λ at n. IsAt end target at requests n) (λ at n. IsTargeted code end place target at requests n) most
    (raised most end target requests) (λ at n l. (e, l)) (λ at n l. l.1) (raises_one most end target requests le)
target_by code most end place target requests false e le =
    raises_none (λ at n. IsTargeted code end place target at requests n) most
    (λ at n l. let t = l.0 in let k : ⊥ = cc in k)

raises_target : (code : Listing) (most : List (Option ℕ)) (end place target requests : ℕ) → end ≤ length most
    → Raises (λ at n. IsTargeted code end place target at requests n) most
    (raised_target code most end place target requests)
raises_target code most end place target requests le =
    target_by code most end place target requests (is_target code place target) refl le

raises_if : (code : Listing) (most : List (Option ℕ)) (end place target requests : ℕ) → end ≤ length most
    → Raises (λ at n. IsAt end (place + 1) at requests n ⊎ IsTargeted code end place target at requests n) most
    (raised (raised_target code most end place target requests) end (place + 1) requests)
raises_if code most end place target requests le =
    let between = raised_target code most end place target requests in
    let r = raises_target code most end place target requests le in
    let long = r.long in
    raises_both (λ at n. IsAt end (place + 1) at requests n) (λ at n. IsTargeted code end place target at requests n)
    most between (raised between end (place + 1) requests) r
    (raises_one between end (place + 1) requests (omega (arith, long, le)))

raises_behind : (most : List (Option ℕ)) (end place requests : ℕ) (inside : Option ℕ) → end ≤ length most
    → Raises (λ at n. IsBehind inside end place at requests n) most (raised_behind most end place requests inside)
raises_behind most end place requests None le = raises_none _ most (λ at n l. l)
raises_behind most end place requests (Some inside) le = raises_one most end place (plus requests inside) le

raises_called : (code : Listing) (through most : List (Option ℕ)) (end place function requests : ℕ)
    → end ≤ length most → end_of code (function + 1) ≤ length most
    → Raises (LeadsWith code through end place (words.Invoke function) requests) most
    (raised_after code through most end place (words.Invoke function) requests)
raises_called code through most end place function requests le inner =
    let between = raised most (end_of code (function + 1)) (end_of code function) requests in
    let r = raises_one most (end_of code (function + 1)) (end_of code function) requests inner in
    let long = r.long in
    raises_both (λ at n. IsBehind (through_in code through function) end (place + 1) at requests n)
    (λ at n. IsAt (end_of code (function + 1)) (end_of code function) at requests n) most between
    (raised_behind between end (place + 1) requests (through_in code through function)) r
    (raises_behind between end (place + 1) requests (through_in code through function) (omega (arith, long, le)))

pub raises_after : (code : Listing) (through most : List (Option ℕ)) (end place requests : ℕ) (word : Word)
    → end ≤ length most → ((body : ℕ) → end_of code body ≤ length most)
    → Raises (LeadsWith code through end place word requests) most
    (raised_after code through most end place word requests)
raises_after code through most end place requests (words.Jump Always target) le within =
    raises_target code most end place target requests le
raises_after code through most end place requests (words.Jump IfTrue target) le within =
    raises_if code most end place target requests le
raises_after code through most end place requests (words.Jump IfFalse target) le within =
    raises_if code most end place target requests le
raises_after code through most end place requests (words.Invoke function) le within =
    raises_called code through most end place function requests le (within (function + 1))
raises_after code through most end place requests word le within = raises_one most end (place + 1) requests le
