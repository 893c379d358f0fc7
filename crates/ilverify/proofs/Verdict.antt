-- A code has at most one refusal, and one that is accepted has none.
use Rattle.std.proofs.Common.{◌≡◌, ℕ, ◌<◌, ◌≤◌, ◌⊎◌, inl, inr, List, [], ◌∷◌, Some, refl, sym, ap, ◌∙◌, subst, arith}
use Rattle.std.specs.Prelude.{length, slice_get}
use Rattle.std.proofs.lemmas.Bool.{cases_lt}
use Rattle.std.proofs.lemmas.Option.{slice_get_within}
use Rattle.limits.specs.Limits.{most_steps}
use Rattle.ilcode.specs.Listings.{Listing}
use Rattle.ilcode.specs.Paths.{Standing, IsPath, IsTooLong, IsBound}
use Rattle.ilverify.specs.declared.cause.Cause.{Cause}
use Rattle.ilverify.specs.declared.cause.Cause.TheVariants as causes
use Rattle.ilverify.specs.Causes.{refusal_number}
use Rattle.ilverify.specs.declared.refusal.Refusal.{Refusal}
use Rattle.ilverify.specs.Calls.{HasGoodCalls, IsFirstBad}
use Rattle.ilverify.specs.Certificates.{IsCertified, IsRangeRefusal, IsAccepted, MayRefuse, IsNotAfter, IsCallRefusal}
use Rattle.ilverify.specs.Certificates.{IsWordRefusal, IsLengthRefusal, IsRefusal}
use Rattle.ilverify.specs.Requests.{HasFewRequests, HoldsTooMany, IsRequestRefusal}
use Rattle.ilverify.specs.RequestSteps.{IsFirstOverfull}
use Rattle.ilverify.specs.VerdictSteps.{IsUnrefused}
use Rattle.ilverify.proofs.Refusals.{same_range_refusal}
use Rattle.ilverify.proofs.RequestPass.{one_first, few_or_first}

-- ---- refusals by requests

first_of : (code : Listing) (refusal : Refusal) → IsRequestRefusal code refusal → IsFirstOverfull code refusal.word
first_of code refusal h = record { holds = h.holds; first = h.first }

-- two refusals by the same word, line and cause are the same
same_parts : (a b : Refusal) → a.word ≡ b.word → a.line ≡ b.line → a.cause ≡ b.cause → a ≡ b
same_parts a b word line cause =
    ap (λ (w : ℕ). record a { word = w }) word
    ∙ ap (λ (l : ℕ). record a { word = b.word; line = l }) line
    ∙ ap (λ (c : Cause). record b { cause = c }) cause

same_line : (code : Listing) (a b : Refusal) → a.word ≡ b.word → slice_get code.lines a.word ≡ Some a.line
    → slice_get code.lines b.word ≡ Some b.line → a.line ≡ b.line
same_line code a b word x y =
    let z = ap (slice_get code.lines) word in cc

same_request_refusal : (code : Listing) (a b : Refusal) → IsRequestRefusal code a → IsRequestRefusal code b → a ≡ b
same_request_refusal code a b h g =
    let word = one_first code a.word b.word (first_of code a h) (first_of code b g) in
    same_parts a b word (same_line code a b word h.line g.line) (h.cause ∙ sym g.cause)

-- ---- a refusal of either kind

too_many : (cause : Cause) → refusal_number cause ≡ 10 → cause ≡ causes.TooManyRequests
too_many causes.WrongType e = absurd (omega arith)
too_many causes.NoResult e = absurd (omega arith)
too_many causes.EmptyNesting e = absurd (omega arith)
too_many causes.OpenNesting e = absurd (omega arith)
too_many causes.MayBeZero e = absurd (omega arith)
too_many (causes.OutOfRange found allowed) e = absurd (omega arith)
too_many causes.TooBig e = absurd (omega arith)
too_many causes.BadJump e = absurd (omega arith)
too_many causes.TooManyRequests e = refl
too_many causes.BadSlot e = absurd (omega arith)
too_many causes.TooLong e = absurd (omega arith)
too_many causes.BadCall e = absurd (omega arith)

same_word : (a b : Refusal) → IsNotAfter a b → IsNotAfter b a → a.word ≡ b.word
same_word a b (inl h) (inl g) = absurd (omega (arith, h, g))
same_word a b (inl h) (inr g) = absurd (omega (arith, h, g.0))
same_word a b (inr h) g = h.0

same_number : (a b : Refusal) → IsNotAfter a b → IsNotAfter b a → refusal_number a.cause ≡ refusal_number b.cause
same_number a b (inl h) (inl g) = absurd (omega (arith, h, g))
same_number a b (inl h) (inr g) = absurd (omega (arith, h, g.0))
same_number a b (inr h) (inl g) = absurd (omega (arith, h.0, g))
same_number a b (inr h) (inr g) = omega (arith, h.1, g.1)

-- a refusal by values beside one by requests, at the same word under the same number
same_mixed : (code : Listing) (a b : Refusal) → a.word ≡ b.word → refusal_number a.cause ≡ refusal_number b.cause
    → IsRangeRefusal code a → IsRequestRefusal code b → a ≡ b
same_mixed code a b word number h g =
    let cause = too_many a.cause (number ∙ ap refusal_number g.cause) in
    same_parts a b word (same_line code a b word h.line g.line) (cause ∙ sym g.cause)

same_may : (code : Listing) (a b : Refusal) → MayRefuse code a → MayRefuse code b → a.word ≡ b.word
    → refusal_number a.cause ≡ refusal_number b.cause → a ≡ b
same_may code a b (inl h) (inl g) word number = same_range_refusal code a b h g
same_may code a b (inl h) (inr g) word number = same_mixed code a b word number h g
same_may code a b (inr h) (inl g) word number = sym (same_mixed code b a (sym word) (sym number) g h)
same_may code a b (inr h) (inr g) word number = same_request_refusal code a b h g

same_word_refusal : (code : Listing) (a b : Refusal) → IsWordRefusal code a → IsWordRefusal code b → a ≡ b
same_word_refusal code a b h g =
    let one = h.least b g.is in
    let other = g.least a h.is in
    same_may code a b h.is g.is (same_word a b one other) (same_number a b one other)

-- ---- refusals by calls and by length

one_call : (code : Listing) (a b : ℕ) → IsFirstBad code a → IsFirstBad code b → a ≡ b
one_call code a b h g = elim (cases_lt a b) as (λ _. a ≡ b) [
  | inl lt ↦ absurd (g.first a lt h.bad)
  | inr ge ↦ elim (cases_lt b a) as (λ _. a ≡ b) [
    | inl gt ↦ absurd (h.first b gt g.bad)
    | inr le ↦ omega (arith, ge, le)
  ]
]

same_call_refusal : (code : Listing) (a b : Refusal) → IsCallRefusal code a → IsCallRefusal code b → a ≡ b
same_call_refusal code a b h g =
    let word = one_call code a.word b.word h.first g.first in
    same_parts a b word (same_line code a b word h.line g.line) (h.cause ∙ sym g.cause)

same_length_refusal : (code : Listing) (a b : Refusal) → IsLengthRefusal code a → IsLengthRefusal code b → a ≡ b
same_length_refusal code a b h g =
    let word = h.word ∙ sym g.word in
    same_parts a b word (same_line code a b word h.line g.line) (h.cause ∙ sym g.cause)

-- ---- refusals of two kinds contradict one another

no_call : (code : Listing) (a : Refusal) → HasGoodCalls code → ¬ IsCallRefusal code a
no_call code a good h = good a.word h.first.bad

by_either : (code : Listing) (refusal : Refusal) → IsCertified code → HasFewRequests code → ¬ MayRefuse code refusal
by_either code refusal certified few (inl h) = h.uncertified certified
by_either code refusal certified few (inr h) = few_or_first code refusal.word few (first_of code refusal h)

pub same_refusal : (code : Listing) (a b : Refusal) → IsRefusal code a → IsRefusal code b → a ≡ b
same_refusal code a b (inl h) (inl g) = same_call_refusal code a b h g
same_refusal code a b (inl h) (inr (inl g)) = absurd (no_call code a g.good h)
same_refusal code a b (inl h) (inr (inr g)) = absurd (no_call code a g.good h)
same_refusal code a b (inr (inl h)) (inl g) = absurd (no_call code b h.good g)
same_refusal code a b (inr (inl h)) (inr (inl g)) = same_word_refusal code a b h g
same_refusal code a b (inr (inl h)) (inr (inr g)) = absurd (by_either code a g.certified g.few h.is)
same_refusal code a b (inr (inr h)) (inl g) = absurd (no_call code b h.good g)
same_refusal code a b (inr (inr h)) (inr (inl g)) = absurd (by_either code b h.certified h.few g.is)
same_refusal code a b (inr (inr h)) (inr (inr g)) = same_length_refusal code a b h g

-- ---- a code that is accepted

pub accepted_apart : (code : Listing) → IsAccepted code → (refusal : Refusal) → ¬ IsRefusal code refusal
accepted_apart code accepted refusal (inl h) = no_call code refusal accepted.good h
accepted_apart code accepted refusal (inr (inl h)) = by_either code refusal accepted.certified accepted.few h.is
accepted_apart code accepted refusal (inr (inr h)) = accepted.short h.long

-- a path is either too long or not longer than the bound
pub short_by : (code : Listing) (bound : ℕ) → IsBound code bound → bound ≤ most_steps → ¬ IsTooLong code
short_by code bound b few h =
    let most = b.greatest h.path h.is in let long = h.long in omega (arith, most, long, few)

pub accepted_so : (code : Listing) → IsUnrefused code → ¬ IsTooLong code → IsAccepted code
accepted_so code u short = record { good = u.good; certified = u.certified; few = u.few; short = short }

-- a path that is too long has a first word
long_starts : (code : Listing) (path : List Standing) → IsPath code path → 1 < length path
    → 0 < length code.instructions
long_starts code [] is lt = absurd (omega (arith, lt))
long_starts code (s ∷ []) is lt = absurd (omega (arith, lt))
long_starts code (s ∷ t ∷ more) is lt =
    let next = is.2.0 in
    let within = slice_get_within code.instructions s.place next.word next.is in
    omega (arith, within)

pub first_word : (code : Listing) → IsTooLong code → 0 < length code.instructions
first_word code h = let long = h.long in long_starts code h.path h.is (omega (arith, long))

pub length_refusal : (code : Listing) (refusal : Refusal) → IsUnrefused code → IsTooLong code → refusal.word ≡ 0
    → refusal.cause ≡ causes.TooLong → slice_get code.lines 0 ≡ Some refusal.line → IsRefusal code refusal
length_refusal code refusal u long word cause line = inr (inr (record {
  good = u.good;
  certified = u.certified;
  few = u.few;
  cause = cause;
  long = long;
  word = word;
  line = ap (slice_get code.lines) word ∙ line;
}))

-- the first bad call is a word
pub call_within : (code : Listing) (place : ℕ) → IsFirstBad code place → place < length code.instructions
call_within code place h = slice_get_within code.instructions place _ h.bad.is

pub call_refusal : (code : Listing) (refusal : Refusal) (place : ℕ) → IsFirstBad code place → refusal.word ≡ place
    → refusal.cause ≡ causes.BadCall → slice_get code.lines place ≡ Some refusal.line → IsCallRefusal code refusal
call_refusal code refusal place h word cause line = record {
  cause = cause;
  first = subst (IsFirstBad code) (sym word) h;
  line = ap (slice_get code.lines) word ∙ line;
}

-- ---- the least of what refuses a code of good calls

not_after_self : (a : Refusal) → IsNotAfter a a
not_after_self a = inr (refl, omega arith)

-- no path holds too many requests
pub by_values : (code : Listing) (refusal : Refusal) → HasGoodCalls code → IsRangeRefusal code refusal
    → HasFewRequests code → IsWordRefusal code refusal
by_values code refusal good h few = record { good = good; is = inl h; least = least }
  where
    least : (other : Refusal) → MayRefuse code other → IsNotAfter refusal other
    least other (inl g) =
        subst (IsNotAfter refusal) (same_range_refusal code refusal other h g) (not_after_self refusal)
    least other (inr g) = absurd (few_or_first code other.word few (first_of code other g))

-- a certificate is consistent
pub by_requests : (code : Listing) (refusal : Refusal) → HasGoodCalls code → IsRequestRefusal code refusal
    → IsCertified code → IsWordRefusal code refusal
by_requests code refusal good h certified = record { good = good; is = inr h; least = least }
  where
    least : (other : Refusal) → MayRefuse code other → IsNotAfter refusal other
    least other (inl g) = absurd (g.uncertified certified)
    least other (inr g) =
        subst (IsNotAfter refusal) (same_request_refusal code refusal other h g) (not_after_self refusal)

-- both refuse it
pub by_both : (code : Listing) (values requests refusal : Refusal) → HasGoodCalls code → IsRangeRefusal code values
    → IsRequestRefusal code requests → (refusal ≡ values) ⊎ (refusal ≡ requests) → IsNotAfter refusal values
    → IsNotAfter refusal requests → IsWordRefusal code refusal
by_both code values requests refusal good h g which one other =
    record { good = good; is = is which; least = least }
  where
    is : (refusal ≡ values) ⊎ (refusal ≡ requests) → MayRefuse code refusal
    is (inl e) = inl (subst (IsRangeRefusal code) (sym e) h)
    is (inr e) = inr (subst (IsRequestRefusal code) (sym e) g)

    least : (third : Refusal) → MayRefuse code third → IsNotAfter refusal third
    least third (inl k) = subst (IsNotAfter refusal) (same_range_refusal code values third h k) one
    least third (inr k) = subst (IsNotAfter refusal) (same_request_refusal code requests third g k) other

-- it is refused
pub request_refusal : (code : Listing) (refusal : Refusal) (place : ℕ) → IsFirstOverfull code place
    → refusal.word ≡ place → refusal.cause ≡ causes.TooManyRequests → slice_get code.lines place ≡ Some refusal.line
    → IsRequestRefusal code refusal
request_refusal code refusal place h word cause line = record {
  cause = cause;
  holds = subst (HoldsTooMany code) (sym word) h.holds;
  first = λ before lt. h.first before (subst (λ (w : ℕ). before < w) word lt);
  line = ap (slice_get code.lines) word ∙ line;
}
