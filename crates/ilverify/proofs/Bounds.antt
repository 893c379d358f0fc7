-- Each step along a path takes one word away from those that may still follow, and some step takes no more.
use Rattle.std.proofs.Common.{◌≡◌, ℕ, zero, suc, ◌+◌, ◌<◌, ◌≤◌, ◌⊎◌, inl, inr, Bool, true, false, List, [], ◌∷◌, length}
use Rattle.std.proofs.Common.{Option, Some, None, refl, sym, ap, ◌∙◌, subst, arith}
use Rattle.std.specs.Prelude.{IsTrue, slice_get, min, max, if◌then◌else◌}
use Rattle.std.proofs.Math.Nat.{le_refl}
use Rattle.std.proofs.lemmas.Bool.{cases_lt}
use Rattle.iltypes.specs.declared.condition.Condition.TheVariants.{Always, IfTrue, IfFalse}
use Rattle.ilcode.specs.declared.word.Word.{Word}
use Rattle.ilcode.specs.declared.word.Word.TheVariants as words
use Rattle.ilcode.specs.Listings.{Listing, IsLawful, IsIn, end_of, start_of}
use Rattle.ilcode.specs.Paths.{PathCall, path_call, Standing, standing, body_on, land, IsWord, IsJumpTo, LeadsTo}
use Rattle.ilcode.specs.Paths.{IsNext, AreNext}
use Rattle.ilcode.specs.Steps.{is_target}
use Rattle.ilverify.specs.declared.through.Counted.TheVariants.{Words}
use Rattle.ilverify.specs.Calls.{HasGoodCalls}
use Rattle.ilverify.specs.Tables.{cap, AreRightFrom, IsFilled}
use Rattle.ilverify.specs.Through.{max_if, through_at, through_to, through_in, through_after, through_from}
use Rattle.ilverify.specs.Through.{AreThrough}
use Rattle.ilverify.specs.BoundSteps.{longest_at, longest_to, longest_in, longest_after, longest_from, AreRight}
use Rattle.ilverify.specs.LongestWays.{IsPlaced}
use Rattle.ilverify.proofs.CalledBodies.{good_call}
use Rattle.ilverify.proofs.Fills.{at_end_is, at_place_is, target_in}
use Rattle.ilverify.proofs.Placed.{placed_within, placed_on, next_placed, call_placed, land_keeps}
use Rattle.ilverify.proofs.Placed.{land_placed}
use Rattle.ilverify.proofs.Placed.{LandsOn, lands_on, word_at}
use Rattle.ilverify.proofs.Throughs.{through_is}
use Rattle.ilverify.proofs.Spans.{span, IsNear, near_is, near_trans, near_more, near_joined, span_either, span_nowhere}

-- ---- what is kept, with open calls

abbrev pub reach : Listing → List (Option ℕ) → List ℕ → List PathCall → ℕ → ℕ
reach code through longest [] place = longest_at longest (end_of code 0) place
reach code through longest (c ∷ cs) place =
    span (through_at through (end_of code (c.function + 1)) place)
    (longest_at longest (end_of code (c.function + 1)) place) (Some (reach code through longest cs c.back))

abbrev rest : Listing → List (Option ℕ) → List ℕ → List PathCall → Option ℕ
rest code through longest [] = None
rest code through longest (c ∷ cs) = Some (reach code through longest cs c.back)

reach_is : (code : Listing) (through : List (Option ℕ)) (longest : List ℕ) (calls : List PathCall) (place : ℕ)
    → reach code through longest calls place
    ≡ span (through_at through (end_of code (body_on calls)) place)
    (longest_at longest (end_of code (body_on calls)) place)
    (rest code through longest calls)
reach_is code through longest [] place = refl
reach_is code through longest (c ∷ cs) place = refl

abbrev pub reach_at : Listing → List (Option ℕ) → List ℕ → Standing → ℕ
reach_at code through longest s = reach code through longest s.calls s.place

-- ---- where a body ends

end_reach : (code : Listing) (through : List (Option ℕ)) (longest : List ℕ) (c : PathCall) (cs : List PathCall)
    → reach code through longest (c ∷ cs) (end_of code (c.function + 1)) ≡ reach code through longest cs c.back
end_reach code through longest c cs =
    let end = end_of code (c.function + 1) in
    let r = reach code through longest cs c.back in
    let e : span (through_at through end end) (longest_at longest end end) (Some r) ≡ span (Some 0) 0 (Some r) =
    ap (λ (t : Option ℕ). span t (longest_at longest end end) (Some r)) (at_end_is (Some 0) None through end end refl)
    ∙ ap (λ (l : ℕ). span (Some 0) l (Some r)) (at_end_is 0 0 longest end end refl) in
    omega (arith, e)

pub land_reach : (code : Listing) (through : List (Option ℕ)) (longest : List ℕ) (calls : List PathCall) (place : ℕ)
    → reach_at code through longest (land code place calls) ≡ reach code through longest calls place
land_reach code through longest calls place =
    land_keeps code (λ cs p. reach code through longest cs p ≡ reach code through longest calls place)
    (λ c cs e. sym (end_reach code through longest c cs) ∙ e) calls place refl

-- where something may follow, a word stands
pub land_word : (code : Listing) (through : List (Option ℕ)) (longest : List ℕ) (calls : List PathCall) (place : ℕ)
    → IsPlaced code calls place → 1 ≤ reach code through longest calls place → IsWord code (land code place calls)
land_word code through longest calls place h some =
    by (land code place calls) (lands_on code calls place h)
    (let e = land_reach code through longest calls place in omega (arith, e, some))
  where
    by : (s : Standing) → LandsOn code s → 1 ≤ reach_at code through longest s → IsWord code s
    by s (inr w) k = w
    by s (inl at) k =
        let e = at.end in
        let a = ap (λ (cs : List PathCall). reach code through longest cs s.place) at.none in
        let z = at_end_is 0 0 longest (end_of code 0) s.place e in
        absurd (omega (arith, a, z, k))

-- ---- from a word to its successors

record AtWord (code : Listing) (through : List (Option ℕ)) (longest : List ℕ) (calls : List PathCall) (place : ℕ)
    (word : Word) : Type 0 where
  right : AreRight code through longest
  in_body : IsIn code (body_on calls) place
  placed : IsPlaced code calls place
  is : slice_get code.instructions place ≡ Some word

-- what may follow a word
abbrev behind : Listing → List (Option ℕ) → List ℕ → List PathCall → ℕ → Word → ℕ
behind code through longest calls place word =
    span (through_after code through (end_of code (body_on calls)) place word)
    (longest_after code through longest (end_of code (body_on calls)) place word) (rest code through longest calls)

longest_is : (code : Listing) (through : List (Option ℕ)) (longest : List ℕ) (calls : List PathCall) (place : ℕ)
    (word : Word) → AtWord code through longest calls place word
    → longest_at longest (end_of code (body_on calls)) place
    ≡ longest_from code through longest (end_of code (body_on calls)) place word
longest_is code through longest calls place word h =
    let i = h.in_body in
    at_place_is 0 0 longest (end_of code (body_on calls)) place (λ e. let lt = i.to in omega (arith, lt, e))
    ∙ h.right.each (body_on calls) place word i.from i.to h.is

reach_from : (code : Listing) (through : List (Option ℕ)) (longest : List ℕ) (calls : List PathCall) (place : ℕ)
    (word : Word) → AtWord code through longest calls place word
    → reach code through longest calls place
    ≡ span (through_from code Words through (end_of code (body_on calls)) place word)
    (longest_from code through longest (end_of code (body_on calls)) place word) (rest code through longest calls)
reach_from code through longest [] place word h = longest_is code through longest [] place word h
reach_from code through longest (c ∷ cs) place word h =
    let end = end_of code (c.function + 1) in
    let r = Some (reach code through longest cs c.back) in
    ap (λ (t : Option ℕ). span t (longest_at longest end place) r)
    (through_is code Words through h.right.ways c.function place word h.in_body h.is)
    ∙ ap (λ (l : ℕ). span (through_from code Words through end place word) l r)
    (longest_is code through longest (c ∷ cs) place word h)

-- a word, and what may follow it
word_near : (code : Listing) (through : List (Option ℕ)) (longest : List ℕ) (calls : List PathCall) (place : ℕ)
    (word : Word) → AtWord code through longest calls place word
    → IsNear (reach code through longest calls place) (1 + behind code through longest calls place word)
word_near code through longest calls place word h =
    let end = end_of code (body_on calls) in
    near_trans (reach code through longest calls place)
    (span (through_from code Words through end place word) (longest_from code through longest end place word)
    (rest code through longest calls))
    (1 + behind code through longest calls place word)
    (near_is _ _ (reach_from code through longest calls place word h))
    (near_more (through_after code through end place word) (longest_after code through longest end place word)
    (rest code through longest calls))

-- the next place
abbrev onward : Listing → List (Option ℕ) → List ℕ → List PathCall → ℕ → ℕ
onward code through longest calls place = reach code through longest calls (place + 1)

-- a jump's target
abbrev targets : Listing → List (Option ℕ) → List ℕ → List PathCall → ℕ → ℕ → ℕ
targets code through longest calls place target =
    span (through_to code through (end_of code (body_on calls)) place target)
    (longest_to code longest (end_of code (body_on calls)) place target) (rest code through longest calls)

-- the target is lawful, or nothing follows there
abbrev IsLawfulTo : Listing → List (Option ℕ) → List ℕ → List PathCall → ℕ → ℕ → Bool → ℕ → Type 0
IsLawfulTo code through longest calls place target lawful n =
    (IsTrue lawful × (n ≡ reach code through longest calls target)) ⊎ ((IsTrue lawful → ⊥) × (n ≡ 0))

targets_by : (code : Listing) (through : List (Option ℕ)) (longest : List ℕ) (calls : List PathCall)
    (place target : ℕ) (lawful : Bool)
    → IsLawfulTo code through longest calls place target lawful
    (span (if lawful then through_at through (end_of code (body_on calls)) target else None)
    (if lawful then longest_at longest (end_of code (body_on calls)) target else 0) (rest code through longest calls))
targets_by code through longest calls place target true = inl (refl, sym (reach_is code through longest calls target))
targets_by code through longest calls place target false =
    inr ((λ k. let z : ⊥ = cc in z), span_nowhere (rest code through longest calls))

targets_are : (code : Listing) (through : List (Option ℕ)) (longest : List ℕ) (calls : List PathCall)
    (place target : ℕ)
    → IsLawfulTo code through longest calls place target (is_target code place target)
    (targets code through longest calls place target)
targets_are code through longest calls place target =
    targets_by code through longest calls place target (is_target code place target)

-- either
either_behind : (code : Listing) (through : List (Option ℕ)) (longest : List ℕ) (calls : List PathCall)
    (place target : ℕ)
    → span (max_if (through_at through (end_of code (body_on calls)) (place + 1))
    (through_to code through (end_of code (body_on calls)) place target))
    (max (longest_at longest (end_of code (body_on calls)) (place + 1))
    (longest_to code longest (end_of code (body_on calls)) place target)) (rest code through longest calls)
    ≡ max (onward code through longest calls place) (targets code through longest calls place target)
either_behind code through longest calls place target =
    let end = end_of code (body_on calls) in
    span_either (through_at through end (place + 1)) (longest_at longest end (place + 1))
    (through_to code through end place target) (longest_to code longest end place target)
    (rest code through longest calls)
    ∙ ap (λ (n : ℕ). max n (targets code through longest calls place target))
    (sym (reach_is code through longest calls (place + 1)))

-- the function that is called
abbrev called : Listing → List (Option ℕ) → List ℕ → List PathCall → ℕ → ℕ → ℕ
called code through longest calls place function =
    reach code through longest (path_call function (place + 1) ∷ calls) (end_of code function)

called_near : (code : Listing) (through : List (Option ℕ)) (longest : List ℕ) (calls : List PathCall)
    (place function : ℕ)
    → IsNear (behind code through longest calls place (words.Invoke function))
    (called code through longest calls place function)
called_near code through longest calls place function =
    let end = end_of code (body_on calls) in
    let t = through_in code through function in
    let l = longest_in code longest function in
    let u = through_at through end (place + 1) in
    let k = longest_at longest end (place + 1) in
    let r = rest code through longest calls in
    let e : span t l (Some (span u k r)) ≡ called code through longest calls place function =
    ap (λ (n : ℕ). span t l (Some n)) (sym (reach_is code through longest calls (place + 1))) in
    subst (IsNear (behind code through longest calls place (words.Invoke function))) e (near_joined t l u k r)

-- ---- a step takes one away

record IsAfter (code : Listing) (through : List (Option ℕ)) (longest : List ℕ) (calls : List PathCall) (place : ℕ)
    (t : Standing) : Type 0 where
  less : min (1 + reach_at code through longest t) cap ≤ reach code through longest calls place
  placed : IsPlaced code t.calls t.place

after_by : (code : Listing) (through : List (Option ℕ)) (longest : List ℕ) (calls raw : List PathCall)
    (place to : ℕ) (word : Word) (t : Standing) → AtWord code through longest calls place word
    → min (reach code through longest raw to) cap ≤ behind code through longest calls place word
    → IsPlaced code raw to → t ≡ land code to raw → IsAfter code through longest calls place t
after_by code through longest calls raw place to word t h le placed e =
    let near = word_near code through longest calls place word h in
    let l = land_reach code through longest raw to in
    subst (IsAfter code through longest calls place) (sym e)
    (record { less = let a = near.above in omega (arith, a, le, l); placed = land_placed code raw to placed })

after_target : (code : Listing) (through : List (Option ℕ)) (longest : List ℕ) (calls : List PathCall)
    (place target : ℕ) (word : Word) (t : Standing) → AtWord code through longest calls place word
    → targets code through longest calls place target ≤ behind code through longest calls place word
    → IsJumpTo code (standing place calls) target t → IsAfter code through longest calls place t
after_target code through longest calls place target word t h le j =
    let ahead = target_in code (body_on calls) place target h.in_body j.lawful in
    let on = placed_on code calls place target h.placed (let a = ahead.0 in omega (arith, a)) ahead.1 in
    elim (targets_are code through longest calls place target) as (λ _. IsAfter code through longest calls place t) [
      | inl e ↦
          after_by code through longest calls calls place target word t h (let q = e.1 in omega (arith, le, q)) on j.is
      | inr e ↦ absurd (e.0 j.lawful)
    ]

after_next : (code : Listing) (through : List (Option ℕ)) (longest : List ℕ) (calls : List PathCall) (place : ℕ)
    (word : Word) (t : Standing) → AtWord code through longest calls place word
    → onward code through longest calls place ≤ behind code through longest calls place word
    → t ≡ land code (place + 1) calls → IsAfter code through longest calls place t
after_next code through longest calls place word t h le e =
    after_by code through longest calls calls place (place + 1) word t h (omega (arith, le))
    (next_placed code calls place h.in_body h.placed) e

-- what may follow a word that goes on alone is what may at the next place
plain : (code : Listing) (through : List (Option ℕ)) (longest : List ℕ) (calls : List PathCall) (place : ℕ)
    → onward code through longest calls place
    ≤ span (through_at through (end_of code (body_on calls)) (place + 1))
    (longest_at longest (end_of code (body_on calls)) (place + 1)) (rest code through longest calls)
plain code through longest calls place =
    let e = reach_is code through longest calls (place + 1) in omega (arith, e)

after_if : (code : Listing) (through : List (Option ℕ)) (longest : List ℕ) (calls : List PathCall)
    (place target : ℕ) (word : Word) (t : Standing) → AtWord code through longest calls place word
    → behind code through longest calls place word
    ≡ max (onward code through longest calls place) (targets code through longest calls place target)
    → (t ≡ land code (place + 1) calls) ⊎ IsJumpTo code (standing place calls) target t
    → IsAfter code through longest calls place t
after_if code through longest calls place target word t h e (inl on) =
    after_next code through longest calls place word t h (omega (arith, e)) on
after_if code through longest calls place target word t h e (inr j) =
    after_target code through longest calls place target word t h (omega (arith, e)) j

step_after : (code : Listing) (through : List (Option ℕ)) (longest : List ℕ) (calls : List PathCall) (place : ℕ)
    (word : Word) (t : Standing) → AtWord code through longest calls place word
    → LeadsTo code word (standing place calls) t → IsAfter code through longest calls place t
step_after code through longest calls place (words.Jump Always target) t h l =
    after_target code through longest calls place target (words.Jump Always target) t h (le_refl _) l
step_after code through longest calls place (words.Jump IfTrue target) t h l =
    after_if code through longest calls place target (words.Jump IfTrue target) t h
    (either_behind code through longest calls place target) l
step_after code through longest calls place (words.Jump IfFalse target) t h l =
    after_if code through longest calls place target (words.Jump IfFalse target) t h
    (either_behind code through longest calls place target) l
step_after code through longest calls place (words.Invoke function) t h l =
    after_by code through longest calls (path_call function (place + 1) ∷ calls) place (end_of code function)
    (words.Invoke function) t h (called_near code through longest calls place function).above
    (call_placed code calls place function h.right.lawful h.in_body h.placed) l.is
step_after code through longest calls place word t h l =
    after_next code through longest calls place word t h (plain code through longest calls place) l

-- ---- and some step takes no more

record Goes (code : Listing) (through : List (Option ℕ)) (longest : List ℕ) (calls : List PathCall) (place : ℕ)
    : Type 0 where
  to : Standing
  next : IsNext code (standing place calls) to
  less : reach code through longest calls place ≤ 1 + reach_at code through longest to

goes_by : (code : Listing) (through : List (Option ℕ)) (longest : List ℕ) (calls raw : List PathCall)
    (place to : ℕ) (word : Word) → AtWord code through longest calls place word
    → 2 ≤ reach code through longest calls place
    → behind code through longest calls place word ≤ reach code through longest raw to → IsPlaced code raw to
    → LeadsTo code word (standing place calls) (land code to raw) → Goes code through longest calls place
goes_by code through longest calls raw place to word h some le placed leads =
    let near = (word_near code through longest calls place word h).below in
    let l = land_reach code through longest raw to in
    record {
      to = land code to raw;
      next = record {
        word = word;
        is = h.is;
        leads = leads;
        within = land_word code through longest raw to placed (omega (arith, near, le, some));
      };
      less = omega (arith, near, le, l);
    }

goes_target : (code : Listing) (through : List (Option ℕ)) (longest : List ℕ) (calls : List PathCall)
    (place target : ℕ) (word : Word) → AtWord code through longest calls place word
    → 2 ≤ reach code through longest calls place
    → behind code through longest calls place word ≤ targets code through longest calls place target
    → ((t : Standing) → IsJumpTo code (standing place calls) target t → LeadsTo code word (standing place calls) t)
    → Goes code through longest calls place
goes_target code through longest calls place target word h some le leads =
    elim (targets_are code through longest calls place target) as (λ _. Goes code through longest calls place) [
      | inl e ↦
          let ahead = target_in code (body_on calls) place target h.in_body e.0 in
          let on = placed_on code calls place target h.placed (let a = ahead.0 in omega (arith, a)) ahead.1 in
          goes_by code through longest calls calls place target word h some (let q = e.1 in omega (arith, le, q)) on
          (leads (land code target calls) (record { lawful = e.0; is = refl }))
      | inr e ↦
          let near = (word_near code through longest calls place word h).below in
          let q = e.1 in
          absurd (omega (arith, q, le, some, near))
    ]

goes_next : (code : Listing) (through : List (Option ℕ)) (longest : List ℕ) (calls : List PathCall) (place : ℕ)
    (word : Word) → AtWord code through longest calls place word → 2 ≤ reach code through longest calls place
    → behind code through longest calls place word ≤ onward code through longest calls place
    → LeadsTo code word (standing place calls) (land code (place + 1) calls) → Goes code through longest calls place
goes_next code through longest calls place word h some le leads =
    goes_by code through longest calls calls place (place + 1) word h some le
    (next_placed code calls place h.in_body h.placed) leads

goes_if : (code : Listing) (through : List (Option ℕ)) (longest : List ℕ) (calls : List PathCall)
    (place target : ℕ) (word : Word) → AtWord code through longest calls place word
    → 2 ≤ reach code through longest calls place
    → behind code through longest calls place word
    ≡ max (onward code through longest calls place) (targets code through longest calls place target)
    → ((t : Standing) → (t ≡ land code (place + 1) calls) ⊎ IsJumpTo code (standing place calls) target t
    → LeadsTo code word (standing place calls) t)
    → Goes code through longest calls place
goes_if code through longest calls place target word h some e leads =
    elim (cases_lt (onward code through longest calls place) (targets code through longest calls place target))
    as (λ _. Goes code through longest calls place) [
      | inl lt ↦
          goes_target code through longest calls place target word h some (omega (arith, e, lt))
          (λ t j. leads t (inr j))
      | inr ge ↦
          goes_next code through longest calls place word h some (omega (arith, e, ge))
          (leads (land code (place + 1) calls) (inl refl))
    ]

-- what may follow a word that goes on alone is what may at the next place
plain_least : (code : Listing) (through : List (Option ℕ)) (longest : List ℕ) (calls : List PathCall) (place : ℕ)
    → span (through_at through (end_of code (body_on calls)) (place + 1))
    (longest_at longest (end_of code (body_on calls)) (place + 1)) (rest code through longest calls)
    ≤ onward code through longest calls place
plain_least code through longest calls place =
    let e = reach_is code through longest calls (place + 1) in omega (arith, e)

goes : (code : Listing) (through : List (Option ℕ)) (longest : List ℕ) (calls : List PathCall) (place : ℕ)
    (word : Word) → AtWord code through longest calls place word → 2 ≤ reach code through longest calls place
    → Goes code through longest calls place
goes code through longest calls place (words.Jump Always target) h some =
    goes_target code through longest calls place target (words.Jump Always target) h some (le_refl _) (λ t j. j)
goes code through longest calls place (words.Jump IfTrue target) h some =
    goes_if code through longest calls place target (words.Jump IfTrue target) h some
    (either_behind code through longest calls place target) (λ t j. j)
goes code through longest calls place (words.Jump IfFalse target) h some =
    goes_if code through longest calls place target (words.Jump IfFalse target) h some
    (either_behind code through longest calls place target) (λ t j. j)
goes code through longest calls place (words.Invoke function) h some =
    let good = good_call code h.right.good (body_on calls) place function h.in_body h.is in
    goes_by code through longest calls (path_call function (place + 1) ∷ calls) place (end_of code function)
    (words.Invoke function) h some (called_near code through longest calls place function).below
    (call_placed code calls place function h.right.lawful h.in_body h.placed)
    (record { lawful = good.callable; within = good.within; is = refl })
goes code through longest calls place word h some =
    goes_next code through longest calls place word h some (plain_least code through longest calls place) refl

-- ---- paths

record HasWord (code : Listing) (through : List (Option ℕ)) (longest : List ℕ) (s : Standing) : Type 0 where
  word : Word
  there : AtWord code through longest s.calls s.place word

has_word : (code : Listing) (through : List (Option ℕ)) (longest : List ℕ) (s : Standing)
    → AreRight code through longest → IsPlaced code s.calls s.place → IsWord code s → HasWord code through longest s
has_word code through longest s h placed w =
    let g = word_at code h.lawful s w in
    record {
      word = g.0;
      there = record { right = h; in_body = placed_within code s.calls s.place placed w; placed = placed; is = g.1 };
    }

next_after : (code : Listing) (through : List (Option ℕ)) (longest : List ℕ) (s t : Standing)
    → AreRight code through longest → IsPlaced code s.calls s.place → IsWord code s → IsNext code s t
    → IsAfter code through longest s.calls s.place t
next_after code through longest s t h placed w n =
    step_after code through longest s.calls s.place n.word t
    (record { right = h; in_body = placed_within code s.calls s.place placed w; placed = placed; is = n.is }) n.leads

pub few_words : (code : Listing) (through : List (Option ℕ)) (longest : List ℕ) → AreRight code through longest
    → (s : Standing) (more : List Standing) → IsPlaced code s.calls s.place → IsWord code s → AreNext code s more
    → min (length more + 1) cap ≤ reach_at code through longest s
few_words code through longest h s [] placed w are =
    let x = has_word code through longest s h placed w in
    let near = (word_near code through longest s.calls s.place x.word x.there).above in
    omega (arith, near)
few_words code through longest h s (t ∷ more) placed w are =
    let a = next_after code through longest s t h placed w are.0 in
    let i = few_words code through longest h t more a.placed are.0.within are.1 in
    let less = a.less in
    omega (arith, less, i)

pub record HasPath (code : Listing) (s : Standing) (n : ℕ) : Type 0 where
  pub more : List Standing
  pub are : AreNext code s more
  pub long : length more ≡ n

pub has_path : (code : Listing) (through : List (Option ℕ)) (longest : List ℕ) → AreRight code through longest → (n : ℕ)
    (s : Standing) → IsPlaced code s.calls s.place → IsWord code s → n < reach_at code through longest s
    → HasPath code s n
has_path code through longest h zero s placed w lt = record { more = []; are = tt; long = refl }
has_path code through longest h (suc n) s placed w lt =
    let x = has_word code through longest s h placed w in
    let g = goes code through longest s.calls s.place x.word x.there (omega arith) in
    let a = next_after code through longest s g.to h placed w g.next in
    let less = g.less in
    let p = has_path code through longest h n g.to a.placed g.next.within (omega (arith, less, lt)) in
    record { more = g.to ∷ p.more; are = (g.next, p.are); long = let e = p.long in omega (arith, e) }

-- ---- when all bodies are filled in

pub all_right : (code : Listing) (through : List (Option ℕ)) (longest : List ℕ) → HasGoodCalls code → IsLawful code
    → AreThrough code Words through → IsFilled code 0 (longest_from code through) longest 0 0
    → AreRight code through longest
all_right code through longest good lawful done f = record {
  good = good;
  lawful = lawful;
  ways = done;
  each = each;
}
  where
    each : (body : ℕ) → AreRightFrom code 0 (longest_from code through) longest body (start_of code body)
    each zero = f.right
    each (suc b) = f.done (suc b) (record { function = omega arith; earlier = inl refl })
