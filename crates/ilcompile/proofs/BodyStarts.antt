-- Where the bodies of a code begin and end: no other start stands between, so that a jump in a body is lawful up to its
-- end.
use Rattle.std.proofs.Common.{◌≡◌, ℕ, zero, suc, ◌+◌, ◌<◌, ◌≤◌, List, [], ◌∷◌, ◌++◌, length, map, true, false}
use Rattle.std.proofs.Common.{Some, refl, sym, ap, ◌∙◌, subst, arith, append_assoc}
use Rattle.std.specs.Prelude.{slice_get, ◌&&◌, nat_lt, nat_le, not, sum_by}
use Rattle.std.proofs.lemmas.List.Sums.{sum_by-cons}
use Rattle.std.proofs.lemmas.Bool.Decides.{nat_tests}
use Rattle.ilsource.specs.Words as counts
use Rattle.ilplan.specs.Functions.{PlannedFunction, slots_of_function, words_of_function}
use Rattle.ilcode.specs.declared.function.FunctionBody.{FunctionBody}
use Rattle.ilcode.specs.Listings.{Listing, all_starts, end_of, start_or}
use Rattle.ilcode.specs.Steps.{is_target}
use Rattle.ilcompile.specs.Layout.{bodies_from, body_at, starts_from}
use Rattle.ilcompile.proofs.ScanRuns.{words_of_all}
use Rattle.ilcompile.proofs.Starts.{Programs, FromOn, UpTo, begins_between, from_less, none_within, one_more}

-- the places where bodies begin
abbrev pub body_starts : List FunctionBody → List ℕ
body_starts bodies = map (λ b. b.start) bodies

pub bodies_from_on : (place first : ℕ) (fs : List PlannedFunction)
    → FromOn place (body_starts (bodies_from place first fs))
bodies_from_on place first [] = tt
bodies_from_on place first (f ∷ fs) =
    let next = place + words_of_function f in
    let more = first + slots_of_function f in (
      omega arith,
      from_less place next (body_starts (bodies_from next more fs)) (omega arith) (bodies_from_on next more fs),
    )

-- where the first of some bodies begins, or the last word ends
first_place : (place first : ℕ) (fs : List PlannedFunction)
    → start_or (slice_get (bodies_from place first fs) 0) (place + sum_by words_of_function fs) ≡ place
first_place place first [] = let z : sum_by words_of_function [] ≡ 0 = refl in omega (arith, z)
first_place place first (f ∷ fs) = refl

-- from the one place to the other, which is not behind the last word, no program and no body begins
record IsBetween (before : List ℕ) (place first : ℕ) (fs : List PlannedFunction) (from end : ℕ) : Type 0 where
  within : end ≤ place + sum_by words_of_function fs
  none : (p q : ℕ) → from ≤ p → q ≤ end
      → begins_between p q (before ++ body_starts (bodies_from place first fs)) ≡ false

-- from the start of a body to its end none begins
between : (fs : List PlannedFunction) (before : List ℕ) (place first number : ℕ) (b : FunctionBody) → UpTo place before
    → slice_get (bodies_from place first fs) number ≡ Some b
    → IsBetween before place first fs b.start
    (start_or (slice_get (bodies_from place first fs) (number + 1)) (place + sum_by words_of_function fs))
between [] before place first number b up e = absurd cc
between (f ∷ fs) before place first zero b up e =
    let next = place + words_of_function f in
    let more = first + slots_of_function f in
    let rest = body_starts (bodies_from next more fs) in
    let total : place + sum_by words_of_function (f ∷ fs) ≡ next + sum_by words_of_function fs =
    omega (arith, sum_by-cons words_of_function f fs) in
    let here : place ≡ b.start = (let q : body_at place first f ≡ b = cc in ap (λ x. x.start) q) in
    let end : start_or (slice_get (bodies_from next more fs) 0) (place + sum_by words_of_function (f ∷ fs)) ≡ next =
    ap (start_or (slice_get (bodies_from next more fs) 0)) total ∙ first_place next more fs in
    record {
      within = omega (arith, end, total);
      none = λ p q lo hi.
          ap (begins_between p q) (sym (append_assoc before (place ∷ []) rest))
          ∙ none_within (before ++ place ∷ []) rest place p q next (one_more before place place (omega arith) up)
          (bodies_from_on next more fs) (omega (arith, here, lo)) (omega (arith, end, hi));
    }
between (f ∷ fs) before place first (suc number) b up e =
    let next = place + words_of_function f in
    let more = first + slots_of_function f in
    let rest = body_starts (bodies_from next more fs) in
    let total : next + sum_by words_of_function fs ≡ place + sum_by words_of_function (f ∷ fs) =
    omega (arith, sum_by-cons words_of_function f fs) in
    let z : suc (number + 1) ≡ suc number + 1 = omega arith in
    let later = between fs (before ++ place ∷ []) next more number b (one_more before place next (omega arith) up) e in
    let end : start_or (slice_get (bodies_from next more fs) (number + 1)) (next + sum_by words_of_function fs)
    ≡ start_or (slice_get (bodies_from place first (f ∷ fs)) (suc number + 1))
    (place + sum_by words_of_function (f ∷ fs)) =
    ap (start_or (slice_get (bodies_from next more fs) (number + 1))) total
    ∙ ap (λ k. start_or (slice_get (bodies_from place first (f ∷ fs)) k) (place + sum_by words_of_function (f ∷ fs)))
    z in
    record {
      within = let le = later.within in omega (arith, end, le, total);
      none = λ p q lo hi.
          ap (begins_between p q) (sym (append_assoc before (place ∷ []) rest))
          ∙ later.none p q lo (omega (arith, end, hi));
    }

-- a code with these bodies behind its programs
module _ (code : Listing) (place first : ℕ) (fs : List PlannedFunction) (are : code.functions ≡ bodies_from place
    first fs)
    (long : length code.instructions ≡ place + sum_by words_of_function fs) (up : UpTo place code.starts) where
  pub programs_end : end_of code 0 ≡ place
  programs_end =
      ap (λ n. start_or (slice_get code.functions 0) n) long
      ∙ (ap (λ bs. start_or (slice_get bs 0) (place + sum_by words_of_function fs)) are ∙ first_place place first fs)

  pub functions_from_on : FromOn (end_of code 0) (body_starts code.functions)
  functions_from_on =
      subst (λ p. FromOn p (body_starts code.functions)) (sym programs_end)
      (subst (λ bs. FromOn place (body_starts bs)) (sym are) (bodies_from_on place first fs))

  pub bodies_jump : (number : ℕ) (b : FunctionBody) → slice_get code.functions number ≡ Some b
      → (p q : ℕ) → b.start ≤ p → p < q → q ≤ end_of code (number + 1) → is_target code p q ≡ true
  bodies_jump number b e p q lo lt hi =
      let its = between fs code.starts place first number b up (ap (λ bs. slice_get bs number) (sym are) ∙ e) in
      let end : end_of code (number + 1)
      ≡ start_or (slice_get (bodies_from place first fs) (number + 1)) (place + sum_by words_of_function fs) =
      ap (λ n. start_or (slice_get code.functions (number + 1)) n) long
      ∙ ap (λ bs. start_or (slice_get bs (number + 1)) (place + sum_by words_of_function fs)) are in
      let le = its.within in
      let most : q ≤ length code.instructions = omega (arith, end, le, long, hi) in
      let t : nat_lt p q ≡ true = grind (arith, nat_tests) in
      let u : nat_le q (length code.instructions) ≡ true = grind (arith, nat_tests) in
      let none : begins_between p q (all_starts code) ≡ false =
      ap (λ bs. begins_between p q (code.starts ++ body_starts bs)) are ∙ its.none p q lo (omega (arith, end, hi)) in
      ap (λ b. (b && nat_le q (length code.instructions)) && not (begins_between p q (all_starts code))) t
      ∙ (ap (λ b. b && not (begins_between p q (all_starts code))) u ∙ ap not none)

-- no program begins behind the last
pub programs_up_to : (programs : Programs) (p end : ℕ) → p + words_of_all programs ≤ end
    → UpTo end (starts_from p programs)
programs_up_to [] p end le = tt
programs_up_to (lines ∷ more) p end le =
    (omega arith, programs_up_to more (p + counts.words_of_lines lines) end (omega arith))
