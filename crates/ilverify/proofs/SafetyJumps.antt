-- Jumps are sound: the way that is taken is not empty, and what is known on it is so.
use Rattle.std.proofs.Common.{◌≡◌, ℕ, zero, suc, ◌+◌, ℤ, Bool, true, false, cond, List, [], ◌∷◌}
use Rattle.std.proofs.Common.{Option, Some, None, refl, sym, ap, ◌∙◌, subst, inl, inr}
use Rattle.std.specs.Prelude.{IsNone, slice_get, slice_set}
use Rattle.std.specs.List.{AllZip}
use Rattle.iltypes.specs.declared.range.Range.{Range}
use Rattle.iltypes.specs.declared.value.Value.{Value}
use Rattle.iltypes.specs.declared.value.Value.TheVariants as values
use Rattle.iltypes.specs.Ranges.{Holds}
use Rattle.iltypes.specs.declared.condition.Condition.{Condition}
use Rattle.iltypes.specs.declared.condition.Condition.TheVariants.{Always, IfTrue, IfFalse}
use Rattle.iltypes.specs.declared.operator.Operator.{Operator}
use Rattle.iltypes.specs.Conditions.{holds, chosen}
use Rattle.iltypes.specs.Operators.{value_of_operator}
use Rattle.ilcode.specs.declared.nesting.Opened.{Opened}
use Rattle.ilcode.specs.declared.word.Word.TheVariants as words
use Rattle.ilcode.specs.Listings.{Listing}
use Rattle.ilcode.specs.Steps.{Configuration, effect, goes_to, jumps, is_target}
use Rattle.ilverify.specs.declared.cause.Cause.TheVariants as causes
use Rattle.ilverify.specs.declared.entry.Entry.{Entry}
use Rattle.ilverify.specs.declared.known.Known.{Known}
use Rattle.ilverify.specs.declared.known.Known.TheVariants as knowns
use Rattle.ilverify.specs.declared.mark.ResultMark.{ResultMark}
use Rattle.ilverify.specs.declared.mark.ResultMark.TheVariants.{Copy, Test}
use Rattle.ilverify.specs.Fits.{IsResultKnown, Fits}
use Rattle.ilverify.specs.Knowns.{IsKnown}
use Rattle.ilverify.specs.Marks.{IsMarked}
use Rattle.ilverify.specs.Refusals.{MayBe, ArisesAtCondition}
use Rattle.ilverify.specs.Rules.{Ways, IsTested, IsRefined, AreJumped}
use Rattle.ilverify.specs.Safety.{Goes}

-- ---- refinement

-- the way is gone, and all is as is known on it
pub record IsTaken (code : Listing) (c : Configuration) (way : Option Entry) : Type 0 where
  pub after : Entry
  pub is : way ≡ Some after
  pub fits : Fits code after c

all_kept : (code : Listing) (c : Configuration) (entry : Entry) (way : Option Entry) → Fits code entry c
    → way ≡ Some entry → IsTaken code c way
all_kept code c entry way f e = record { after = entry; is = e; fits = f }

-- a number of a slot is as is known of the slot
slot_holds : (slots : List Value) (said : List Known) (slot : ℕ) (z : ℤ) (range : Range)
    → AllZip IsKnown slots said → slice_get slots slot ≡ Some (values.Int z)
    → slice_get said slot ≡ Some (knowns.Int range) → Holds range z
slot_holds [] said slot z range h e k = absurd (cc)
slot_holds (x ∷ xs) [] slot z range h e k = absurd h
slot_holds (x ∷ xs) (y ∷ ys) zero z range h e k =
    let p : x ≡ values.Int z = cc in
    let q : y ≡ knowns.Int range = cc in
    subst (IsKnown (values.Int z)) q (subst (λ (v : Value). IsKnown v y) p h.0)
slot_holds (x ∷ xs) (y ∷ ys) (suc slot) z range h e k = slot_holds xs ys slot z range h.1 e k

-- more is known of one slot
slot_kept : (slots : List Value) (said : List Known) (slot : ℕ) (value : Value) (known : Known)
    → AllZip IsKnown slots said → slice_get slots slot ≡ Some value → IsKnown value known
    → AllZip IsKnown slots (slice_set said slot known)
slot_kept [] [] slot value known h e k = tt
slot_kept [] (y ∷ ys) slot value known h e k = absurd h
slot_kept (x ∷ xs) [] slot value known h e k = absurd h
slot_kept (x ∷ xs) (y ∷ ys) zero value known h e k =
    let p : x ≡ value = cc in (subst (λ (v : Value). IsKnown v known) (sym p) k, h.1)
slot_kept (x ∷ xs) (y ∷ ys) (suc slot) value known h e k = (h.0, slot_kept xs ys slot value known h.1 e k)

tested_taken : (code : Listing) (c : Configuration) (entry : Entry) (slot : ℕ) (comparison : Operator) (outcome : Bool)
    (limit z : ℤ) (known : Option Known) (way : Option Entry) → Fits code entry c
    → slice_get c.store.slots slot ≡ Some (values.Int z) → slice_get entry.slots slot ≡ known
    → value_of_operator comparison (values.Int z) (values.Int limit) ≡ Some (values.Bool outcome)
    → IsTested entry slot comparison outcome limit known way → IsTaken code c way
tested_taken code c entry slot comparison outcome limit z None way f e k p h = all_kept code c entry way f h
tested_taken code c entry slot comparison outcome limit z (Some knowns.Bool) way f e k p h =
    all_kept code c entry way f h
tested_taken code c entry slot comparison outcome limit z (Some (knowns.Int range)) None f e k p h =
    absurd (h z (record { of_range = slot_holds c.store.slots entry.slots slot z range f.slots e k; is = p }))
tested_taken code c entry slot comparison outcome limit z (Some (knowns.Int range)) (Some way) f e k p h =
    let held = slot_holds c.store.slots entry.slots slot z range f.slots e k in
    let lies = h.least.each z (record { of_range = held; is = p }) in
    record {
      after = way;
      is = refl;
      fits = subst (λ (e : Entry). Fits code e c) (sym h.is) (record {
        typed = f.typed;
        slots = slot_kept c.store.slots entry.slots slot (values.Int z) (knowns.Int h.kept) f.slots e lies;
        result = f.result;
        mark = f.mark;
        nesting = f.nesting;
      });
    }

refined_by : (code : Listing) (c : Configuration) (entry : Entry) (outcome : Bool) (mark : Option ResultMark)
    (way : Option Entry) → Fits code entry c → IsMarked c.store.slots c.result mark
    → c.result ≡ Some (values.Bool outcome) → IsRefined entry outcome mark way → IsTaken code c way
refined_by code c entry outcome None way f m r h = all_kept code c entry way f h
refined_by code c entry outcome (Some (Copy slot)) way f m r h = all_kept code c entry way f h
refined_by code c entry outcome (Some (Test slot comparison limit)) way f m r h =
    let i = m.is in
    let e : m.outcome ≡ outcome = cc in
    tested_taken code c entry slot comparison outcome limit m.number (slice_get entry.slots slot) way f m.there refl
    (m.tested ∙ ap (λ (b : Bool). Some (values.Bool b)) e) h

-- the way of the outcome that the current result has
refined : (code : Listing) (c : Configuration) (entry : Entry) (outcome : Bool) (way : Option Entry)
    → Fits code entry c → c.result ≡ Some (values.Bool outcome) → IsRefined entry outcome entry.mark way
    → IsTaken code c way
refined code c entry outcome way f r h = refined_by code c entry outcome entry.mark way f f.mark r h

-- ---- where a jump goes

-- a condition that may be tested finds a truth value
truth_found : (result : Option Value) (known : Option Known) → IsResultKnown result known → ¬ IsNone known
    → ¬ ¬ MayBe (values.Bool true) known → (b : Bool) × (result ≡ Some (values.Bool b))
truth_found result None r n m = absurd (n refl)
truth_found result (Some (knowns.Int range)) r n m = absurd (m (λ k. k))
truth_found None (Some knowns.Bool) r n m = absurd r
truth_found (Some (values.Bool b)) (Some knowns.Bool) r n m = (b, refl)
truth_found (Some (values.Int z)) (Some knowns.Bool) r n m = absurd r

placed : (code : Listing) (c : Configuration) (entry : Entry) (place : ℕ) → Fits code entry c
    → Fits code entry (goes_to c place)
placed code c entry place f =
    record { typed = f.typed; slots = f.slots; result = f.result; mark = f.mark; nesting = f.nesting }

jumps_closed : (code : Listing) (c : Configuration) (target : ℕ) (nesting : List Opened) (met : Option Bool)
    → is_target code c.place target ≡ true → nesting ≡ []
    → jumps code c target nesting met ≡ chosen met (Some (goes_to c target)) (Some (goes_to c (c.place + 1)))
jumps_closed code c target [] met l e =
    ap (λ (b : Bool). chosen met (cond b (Some (goes_to c target)) None) (Some (goes_to c (c.place + 1)))) l
jumps_closed code c target (innermost ∷ nesting) met l e = absurd (cc)

-- a lawful jump where nothing is open goes by its condition
jump_is : (code : Listing) (c : Configuration) (condition : Condition) (target : ℕ)
    → is_target code c.place target ≡ true → c.nesting ≡ []
    → effect code c (words.Jump condition target)
    ≡ chosen (holds condition c.result) (Some (goes_to c target)) (Some (goes_to c (c.place + 1)))
jump_is code c condition target l n = jumps_closed code c target c.nesting (holds condition c.result) l n

-- by whether the condition is met
met_is : (code : Listing) (c : Configuration) (condition : Condition) (target : ℕ) (met : Bool)
    → is_target code c.place target ≡ true → c.nesting ≡ [] → holds condition c.result ≡ Some met
    → effect code c (words.Jump condition target)
    ≡ chosen (Some met) (Some (goes_to c target)) (Some (goes_to c (c.place + 1)))
met_is code c condition target met l n h =
    jump_is code c condition target l n
    ∙ ap (λ (o : Option Bool). chosen o (Some (goes_to c target)) (Some (goes_to c (c.place + 1)))) h

if_true : (code : Listing) (c : Configuration) (entry : Entry) (target : ℕ) (ways : Ways) (b : Bool)
    → Fits code entry c → is_target code c.place target ≡ true → c.nesting ≡ [] → c.result ≡ Some (values.Bool b)
    → AreJumped IfTrue entry ways → Goes code c (words.Jump IfTrue target) ways
if_true code c entry target ways true f l n r h =
    let t = refined code c entry true ways.target f r h.0 in
    record {
      to = goes_to c target;
      is = met_is code c IfTrue target true l n (ap (holds IfTrue) r);
      calls = refl;
      leads = inr l;
      kept = inl refl;
      after = t.after;
      way = inl (refl, t.is);
      fits = placed code c t.after target t.fits;
    }
if_true code c entry target ways false f l n r h =
    let t = refined code c entry false ways.next f r h.1 in
    record {
      to = goes_to c (c.place + 1);
      is = met_is code c IfTrue target false l n (ap (holds IfTrue) r);
      calls = refl;
      leads = inl refl;
      kept = inl refl;
      after = t.after;
      way = inr (refl, t.is);
      fits = placed code c t.after (c.place + 1) t.fits;
    }

if_false : (code : Listing) (c : Configuration) (entry : Entry) (target : ℕ) (ways : Ways) (b : Bool)
    → Fits code entry c → is_target code c.place target ≡ true → c.nesting ≡ [] → c.result ≡ Some (values.Bool b)
    → AreJumped IfFalse entry ways → Goes code c (words.Jump IfFalse target) ways
if_false code c entry target ways false f l n r h =
    let t = refined code c entry false ways.target f r h.0 in
    record {
      to = goes_to c target;
      is = met_is code c IfFalse target true l n (ap (holds IfFalse) r);
      calls = refl;
      leads = inr l;
      kept = inl refl;
      after = t.after;
      way = inl (refl, t.is);
      fits = placed code c t.after target t.fits;
    }
if_false code c entry target ways true f l n r h =
    let t = refined code c entry true ways.next f r h.1 in
    record {
      to = goes_to c (c.place + 1);
      is = met_is code c IfFalse target false l n (ap (holds IfFalse) r);
      calls = refl;
      leads = inl refl;
      kept = inl refl;
      after = t.after;
      way = inr (refl, t.is);
      fits = placed code c t.after (c.place + 1) t.fits;
    }

-- a jump that no cause refuses, where nothing is open
pub jump_goes : (code : Listing) (c : Configuration) (entry : Entry) (condition : Condition) (target : ℕ) (ways : Ways)
    → Fits code entry c → is_target code c.place target ≡ true → c.nesting ≡ []
    → ¬ ArisesAtCondition condition entry.result causes.NoResult
    → ¬ ArisesAtCondition condition entry.result causes.WrongType → AreJumped condition entry ways
    → Goes code c (words.Jump condition target) ways
jump_goes code c entry Always target ways f l n none wrong h = record {
  to = goes_to c target;
  is = jump_is code c Always target l n;
  calls = refl;
  leads = inr l;
  kept = inl refl;
  after = entry;
  way = inl (refl, h.0);
  fits = placed code c entry target f;
}
jump_goes code c entry IfTrue target ways f l n none wrong h =
    let t = truth_found c.result entry.result f.result none wrong in
    if_true code c entry target ways t.0 f l n t.1 h
jump_goes code c entry IfFalse target ways f l n none wrong h =
    let t = truth_found c.result entry.result f.result none wrong in
    if_false code c entry target ways t.0 f l n t.1 h
