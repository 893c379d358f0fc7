-- What a word says of the ways from it depends on what is kept for its successors alone.
use Rattle.std.proofs.Common.{◌≡◌, ℕ, ◌+◌, inl, List, Option, Some, None, refl, ap, ◌∙◌, arith}
use Rattle.std.specs.Prelude.{slice_get, slice_set, max}
use Rattle.iltypes.specs.declared.condition.Condition.TheVariants.{Always, IfTrue, IfFalse}
use Rattle.ilcode.specs.declared.word.Word.{Word}
use Rattle.ilcode.specs.declared.word.Word.TheVariants as words
use Rattle.ilcode.specs.Listings.{Listing, IsLawful, IsIn, end_of}
use Rattle.ilverify.specs.declared.through.Counted.{Counted}
use Rattle.ilverify.specs.Calls.{HasGoodCalls}
use Rattle.ilverify.specs.Tables.{plus}
use Rattle.ilverify.specs.Through.{plus_if, max_if, weight, through_at, through_to, through_in, through_after}
use Rattle.ilverify.specs.Through.{through_from}
use Rattle.ilverify.specs.Through.{AreThrough}
use Rattle.ilverify.specs.BoundSteps.{longest_at, longest_to, longest_in, longest_behind, longest_after, longest_from}
use Rattle.ilverify.proofs.CalledBodies.{good_call}
use Rattle.ilverify.proofs.Fills.{at_place_is, Own, Others, IsLocal, same_next, same_to, same_in}

-- ---- through functions

through_if : (code : Listing) → IsLawful code → (kept : List (Option ℕ)) (p : ℕ) (v : Option ℕ) (body place target : ℕ)
    → IsIn code body place → Own code body place p
    → max_if (through_at (slice_set kept p v) (end_of code body) (place + 1))
    (through_to code (slice_set kept p v) (end_of code body) place target)
    ≡ max_if (through_at kept (end_of code body) (place + 1)) (through_to code kept (end_of code body) place target)
through_if code lawful kept p v body place target i own =
    let end = end_of code body in
    let a = same_next (Some 0) None code kept p v body place i own in
    let b = same_to (Some 0) None code lawful kept p v body place target i own in
    ap (λ (o : Option ℕ). max_if o (through_to code (slice_set kept p v) end place target)) a
    ∙ ap (λ (o : Option ℕ). max_if (through_at kept end (place + 1)) o) b

through_same : (code : Listing) → IsLawful code → HasGoodCalls code → (kept : List (Option ℕ)) (p : ℕ) (v : Option ℕ)
    (body place : ℕ) (word : Word) → IsIn code body place → slice_get code.instructions place ≡ Some word
    → Own code body place p → Others code body p
    → through_after code (slice_set kept p v) (end_of code body) place word
    ≡ through_after code kept (end_of code body) place word
through_same code lawful good kept p v body place (words.Jump Always target) i w own others =
    same_to (Some 0) None code lawful kept p v body place target i own
through_same code lawful good kept p v body place (words.Jump IfTrue target) i w own others =
    through_if code lawful kept p v body place target i own
through_same code lawful good kept p v body place (words.Jump IfFalse target) i w own others =
    through_if code lawful kept p v body place target i own
through_same code lawful good kept p v body place (words.Invoke function) i w own others =
    let end = end_of code body in
    let callable = (good_call code good body place function i w).callable in
    let a = same_in (Some 0) None code lawful kept p v body function callable others in
    let b = same_next (Some 0) None code kept p v body place i own in
    ap (λ (o : Option ℕ). plus_if o (through_at (slice_set kept p v) end (place + 1))) a
    ∙ ap (λ (o : Option ℕ). plus_if (through_in code kept function) o) b
through_same code lawful good kept p v body place word i w own others =
    same_next (Some 0) None code kept p v body place i own

pub through_local : (code : Listing) → IsLawful code → HasGoodCalls code → (counted : Counted)
    → IsLocal code (through_from code counted)
through_local code lawful good counted = record {
  same = λ kept p v body place word i w own others.
      ap (plus_if (Some (weight code counted word)))
      (through_same code lawful good kept p v body place word i w own others);
}

-- ---- the longest

longest_if : (code : Listing) → IsLawful code → (kept : List ℕ) (p v body place target : ℕ)
    → IsIn code body place → Own code body place p
    → max (longest_at (slice_set kept p v) (end_of code body) (place + 1))
    (longest_to code (slice_set kept p v) (end_of code body) place target)
    ≡ max (longest_at kept (end_of code body) (place + 1)) (longest_to code kept (end_of code body) place target)
longest_if code lawful kept p v body place target i own =
    let end = end_of code body in
    let a = same_next 0 0 code kept p v body place i own in
    let b = same_to 0 0 code lawful kept p v body place target i own in
    ap (λ (n : ℕ). max n (longest_to code (slice_set kept p v) end place target)) a
    ∙ ap (λ (n : ℕ). max (longest_at kept end (place + 1)) n) b

longest_same : (code : Listing) → IsLawful code → HasGoodCalls code → (through : List (Option ℕ)) (kept : List ℕ)
    (p v body place : ℕ) (word : Word) → IsIn code body place → slice_get code.instructions place ≡ Some word
    → Own code body place p → Others code body p
    → longest_after code through (slice_set kept p v) (end_of code body) place word
    ≡ longest_after code through kept (end_of code body) place word
longest_same code lawful good through kept p v body place (words.Jump Always target) i w own others =
    same_to 0 0 code lawful kept p v body place target i own
longest_same code lawful good through kept p v body place (words.Jump IfTrue target) i w own others =
    longest_if code lawful kept p v body place target i own
longest_same code lawful good through kept p v body place (words.Jump IfFalse target) i w own others =
    longest_if code lawful kept p v body place target i own
longest_same code lawful good through kept p v body place (words.Invoke function) i w own others =
    let end = end_of code body in
    let inside = through_in code through function in
    let callable = (good_call code good body place function i w).callable in
    let a = same_in 0 0 code lawful kept p v body function callable others in
    let b = same_next 0 0 code kept p v body place i own in
    ap (λ (n : ℕ). max n (longest_behind inside (longest_at (slice_set kept p v) end (place + 1)))) a
    ∙ ap (λ (n : ℕ). max (longest_in code kept function) (longest_behind inside n)) b
longest_same code lawful good through kept p v body place word i w own others =
    same_next 0 0 code kept p v body place i own

pub longest_local : (code : Listing) → IsLawful code → HasGoodCalls code → (through : List (Option ℕ))
    → IsLocal code (longest_from code through)
longest_local code lawful good through = record {
  same = λ kept p v body place word i w own others.
      ap (plus 1) (longest_same code lawful good through kept p v body place word i w own others);
}

-- ---- where all functions are filled in

-- what is kept for a word of a function is what it says
pub through_is : (code : Listing) (counted : Counted) (through : List (Option ℕ)) → AreThrough code counted through
    → (function place : ℕ) (word : Word) → IsIn code (function + 1) place
    → slice_get code.instructions place ≡ Some word
    → through_at through (end_of code (function + 1)) place
    ≡ through_from code counted through (end_of code (function + 1)) place word
through_is code counted through all function place word i w =
    at_place_is (Some 0) None through (end_of code (function + 1)) place
    (λ e. let lt = i.to in omega (arith, lt, e))
    ∙ all (function + 1) (record { function = omega arith; earlier = inl refl }) place word i.from i.to w
