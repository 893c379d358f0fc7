-- The first place at which a path holds too many requests, by what is kept for each.
use Rattle.std.proofs.Common.{◌≡◌, ℕ, ◌+◌, ◌<◌, ◌≤◌, inl, inr, List, [], ◌∷◌, ◌++◌, length, Bool, true, false}
use Rattle.std.proofs.Common.{Option, Some, None, refl, sym, ap, ◌∙◌, subst, arith}
use Rattle.std.specs.Prelude.{slice_get, min, if◌then◌else◌}
use Rattle.std.proofs.lemmas.Bool.{cases_eq, cases_lt}
use Rattle.limits.specs.Limits.{most_requests}
use Rattle.ilcode.specs.declared.word.Word.{Word}
use Rattle.ilcode.specs.Listings.{Listing, IsLawful}
use Rattle.ilcode.specs.Paths.{Standing, standing, IsPath, may_request, requests_on}
use Rattle.ilverify.specs.declared.through.Counted.TheVariants.{Requests}
use Rattle.ilverify.specs.Tables.{cap}
use Rattle.ilverify.specs.Through.{weight}
use Rattle.ilverify.specs.Requests.{HasFewRequests, HoldsTooMany}
use Rattle.ilverify.specs.RequestSteps.{Holds, AreAllMost, IsFirstOverfull}
use Rattle.ilverify.proofs.RequestPaths.{requests_last, weight_is, path_within, last_of}

-- ---- one place

-- a path that holds too many ends at a word of the code
pub holds_within : (code : Listing) → IsLawful code → (place : ℕ) → HoldsTooMany code place
    → place < length code.instructions
holds_within code lawful place h =
    let w = path_within code h.before h.last lawful h.path in
    let e = h.ends in
    omega (arith, w, e)

-- the word at the place is one too many
pub too_many : (code : Listing) (most : List (Option ℕ)) (place before : ℕ) (word : Word) → AreAllMost code most
    → slice_get most place ≡ Some (Some before) → slice_get code.instructions place ≡ Some word
    → most_requests < before + weight code Requests word → HoldsTooMany code place
too_many code most place before word m e is lt =
    let p = m.each place before e in
    let s = standing place p.calls in
    let last = requests_last code p.is.before s in
    let same = weight_is code s word is in
    let many = p.is.many in
    record { before = p.is.before; last = s; ends = refl; path = p.is.path; many = omega (arith, last, same, many, lt) }

-- no path leads to the place
pub none_there : (code : Listing) (most : List (Option ℕ)) (place : ℕ) → AreAllMost code most
    → slice_get most place ≡ Some None → ¬ HoldsTooMany code place
none_there code most place m e h =
    subst (λ (o : Option (Option ℕ)). Holds o (min (requests_on code h.before) cap)) (ap (slice_get most) h.ends ∙ e)
    (m.greatest h.before h.last h.path)

-- the word at the place is not one too many
pub few_there : (code : Listing) (most : List (Option ℕ)) (place before : ℕ) (word : Word) → AreAllMost code most
    → slice_get most place ≡ Some (Some before) → slice_get code.instructions place ≡ Some word
    → before + weight code Requests word ≤ most_requests → ¬ HoldsTooMany code place
few_there code most place before word m e is le h =
    let few : min (requests_on code h.before) cap ≤ before =
    subst (λ (o : Option (Option ℕ)). Holds o (min (requests_on code h.before) cap)) (ap (slice_get most) h.ends ∙ e)
    (m.greatest h.before h.last h.path) in
    let last = requests_last code h.before h.last in
    let same = weight_is code h.last word (ap (slice_get code.instructions) h.ends ∙ is) in
    let many = h.many in
    omega (arith, few, last, same, many, le)

weight_by : (b : Bool) → (if b then 1 else 0) ≤ 1
weight_by true = omega arith
weight_by false = omega arith

-- a word counts one at most
pub weight_few : (code : Listing) (word : Word) → weight code Requests word ≤ 1
weight_few code word = weight_by (may_request code word)

-- ---- from place to place

pub record NoneOverfull (code : Listing) (place : ℕ) : Type 0 where
  pub none : (before : ℕ) → before < place → ¬ HoldsTooMany code before

pub overfull_first : (code : Listing) → NoneOverfull code 0
overfull_first code = record { none = λ before lt. absurd (omega arith) }

pub overfull_next : (code : Listing) (place : ℕ) → NoneOverfull code place → ¬ HoldsTooMany code place
    → NoneOverfull code (place + 1)
overfull_next code place h here = record {
  none = λ before lt.
      elim (cases_eq before place) as (λ _. ¬ HoldsTooMany code before) [
        | inl q ↦ λ k. here (subst (HoldsTooMany code) q k)
        | inr d ↦ h.none before (omega (arith, lt, d))
      ];
}

pub first_overfull_is : (code : Listing) (place : ℕ) → NoneOverfull code place → HoldsTooMany code place
    → IsFirstOverfull code place
first_overfull_is code place h holds = record { holds = holds; first = h.none }

-- ---- behind the last word

pub few_up_to : (code : Listing) (end : ℕ) → IsLawful code → NoneOverfull code end
    → length code.instructions ≤ end → HasFewRequests code
few_up_to code end lawful h le [] is = omega arith
few_up_to code end lawful h le (first ∷ more) is =
    let l = last_of first more in
    let path : IsPath code (l.before ++ l.last ∷ []) = subst (IsPath code) (sym l.is) is in
    let within = path_within code l.before l.last lawful path in
    elim (cases_lt most_requests (requests_on code (first ∷ more))) [
      | inl lt ↦ absurd (h.none l.last.place (omega (arith, within, le)) (record {
        before = l.before;
        last = l.last;
        ends = refl;
        path = path;
        many = subst (λ (p : List Standing). most_requests < requests_on code p) (sym l.is) lt;
      }))
      | inr ge ↦ ge
    ]

-- ---- there is one answer

pub one_first : (code : Listing) (a b : ℕ) → IsFirstOverfull code a → IsFirstOverfull code b → a ≡ b
one_first code a b h g =
    elim (cases_lt a b) [
      | inl lt ↦ absurd (g.first a lt h.holds)
      | inr ge ↦ elim (cases_lt b a) [
        | inl gt ↦ absurd (h.first b gt g.holds)
        | inr le ↦ omega (arith, ge, le)
      ]
    ]

pub few_or_first : (code : Listing) (place : ℕ) → HasFewRequests code → ¬ IsFirstOverfull code place
few_or_first code place few h =
    let most = few (h.holds.before ++ h.holds.last ∷ []) h.holds.path in
    let many = h.holds.many in
    omega (arith, most, many)
