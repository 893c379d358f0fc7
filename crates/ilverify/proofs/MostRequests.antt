-- The greatest number of requests on a path, by what is kept for each place.
use Rattle.std.proofs.Common.{◌≡◌, ℕ, ◌+◌, ◌<◌, ◌≤◌, inl, inr, List, [], ◌∷◌, ◌++◌, length, Option, Some, None}
use Rattle.std.proofs.Common.{sym, ap, ◌∙◌, subst, arith}
use Rattle.std.specs.Prelude.{slice_get, min, max}
use Rattle.std.proofs.lemmas.Bool.{cases_eq, cases_lt}
use Rattle.ilcode.specs.declared.word.Word.{Word}
use Rattle.ilcode.specs.Listings.{Listing, IsLawful}
use Rattle.ilcode.specs.Paths.{Standing, standing, IsPath, requests_on}
use Rattle.ilverify.specs.declared.through.Counted.TheVariants.{Requests}
use Rattle.ilverify.specs.Tables.{cap, plus}
use Rattle.ilverify.specs.Through.{weight}
use Rattle.ilverify.specs.Requests.{IsMostRequests}
use Rattle.ilverify.specs.RequestSteps.{Holds, AreAllMost}
use Rattle.ilverify.proofs.RequestPaths.{requests_last, weight_is, path_within, last_of}

-- some path holds so many
pub record HasMany (code : Listing) (requests : ℕ) : Type 0 where
  pub path : List Standing
  pub is : IsPath code path
  pub many : requests ≤ requests_on code path

-- and none that ends before the place holds more
pub record AreCounted (code : Listing) (place greatest : ℕ) : Type 0 where
  pub some : HasMany code greatest
  pub each : (before : List Standing) (last : Standing) → IsPath code (before ++ last ∷ []) → last.place < place
      → min (requests_on code (before ++ last ∷ [])) cap ≤ greatest

pub counted_first : (code : Listing) → AreCounted code 0 0
counted_first code = record {
  some = record { path = []; is = tt; many = omega arith };
  each = λ before last is lt. absurd (omega (arith, lt));
}

-- no path leads to the place
pub counted_none : (code : Listing) (most : List (Option ℕ)) (place greatest : ℕ) → AreAllMost code most
    → slice_get most place ≡ Some None → AreCounted code place greatest → AreCounted code (place + 1) greatest
counted_none code most place greatest m e h = record {
  some = h.some;
  each = λ before last is lt.
      elim (cases_eq last.place place) as (λ _. min (requests_on code (before ++ last ∷ [])) cap ≤ greatest) [
        | inl q ↦
            absurd (subst (λ (o : Option (Option ℕ)). Holds o (min (requests_on code before) cap))
            (ap (slice_get most) q ∙ e) (m.greatest before last is))
        | inr d ↦ h.each before last is (omega (arith, lt, d))
      ];
}

-- so many are on a path up to the word at the place, that word included
many_there : (code : Listing) (most : List (Option ℕ)) (place before : ℕ) (word : Word) → AreAllMost code most
    → slice_get most place ≡ Some (Some before) → slice_get code.instructions place ≡ Some word
    → HasMany code (plus before (weight code Requests word))
many_there code most place before word m e is =
    let p = m.each place before e in
    let s = standing place p.calls in
    let last = requests_last code p.is.before s in
    let same = weight_is code s word is in
    let many = p.is.many in
    record { path = p.is.before ++ s ∷ []; is = p.is.path; many = omega (arith, last, same, many) }

few_there : (code : Listing) (most : List (Option ℕ)) (place kept : ℕ) (word : Word) → AreAllMost code most
    → slice_get most place ≡ Some (Some kept) → slice_get code.instructions place ≡ Some word
    → (before : List Standing) (last : Standing) → IsPath code (before ++ last ∷ []) → last.place ≡ place
    → min (requests_on code (before ++ last ∷ [])) cap ≤ plus kept (weight code Requests word)
few_there code most place kept word m e is before last path q =
    let few : min (requests_on code before) cap ≤ kept =
    subst (λ (o : Option (Option ℕ)). Holds o (min (requests_on code before) cap)) (ap (slice_get most) q ∙ e)
    (m.greatest before last path) in
    let sum = requests_last code before last in
    let same = weight_is code last word (ap (slice_get code.instructions) q ∙ is) in
    omega (arith, few, sum, same)

either_many : (code : Listing) (a b : ℕ) → HasMany code a → HasMany code b → HasMany code (max a b)
either_many code a b h k =
    elim (cases_lt a b) [
      | inl lt ↦ let many = k.many in record { path = k.path; is = k.is; many = omega (arith, many, lt) }
      | inr ge ↦ let many = h.many in record { path = h.path; is = h.is; many = omega (arith, many, ge) }
    ]

pub counted_more : (code : Listing) (most : List (Option ℕ)) (place before greatest : ℕ) (word : Word)
    → AreAllMost code most → slice_get most place ≡ Some (Some before)
    → slice_get code.instructions place ≡ Some word → AreCounted code place greatest
    → AreCounted code (place + 1) (max (plus before (weight code Requests word)) greatest)
counted_more code most place before greatest word m e is h =
    let here = plus before (weight code Requests word) in
    record {
      some = either_many code here greatest (many_there code most place before word m e is) h.some;
      each = λ path last p lt.
          elim (cases_eq last.place place) as (λ _. min (requests_on code (path ++ last ∷ [])) cap ≤ max here greatest) [
            | inl q ↦ let few = few_there code most place before word m e is path last p q in omega (arith, few)
            | inr d ↦ let few = h.each path last p (omega (arith, lt, d)) in omega (arith, few)
          ];
    }

-- behind the last word
greatest_up_to : (code : Listing) (end greatest : ℕ) → IsLawful code → AreCounted code end greatest
    → length code.instructions ≤ end → (path : List Standing) → IsPath code path
    → min (requests_on code path) cap ≤ greatest
greatest_up_to code end greatest lawful h le [] is = omega arith
greatest_up_to code end greatest lawful h le (first ∷ more) is =
    let l = last_of first more in
    let path : IsPath code (l.before ++ l.last ∷ []) = subst (IsPath code) (sym l.is) is in
    let within = path_within code l.before l.last lawful path in
    subst (λ (p : List Standing). min (requests_on code p) cap ≤ greatest) l.is
    (h.each l.before l.last path (omega (arith, within, le)))

pub most_is : (code : Listing) (end greatest : ℕ) → IsLawful code → AreCounted code end greatest
    → length code.instructions ≤ end → IsMostRequests code greatest
most_is code end greatest lawful h le = record {
  path = h.some.path;
  is = h.some.is;
  many = h.some.many;
  greatest = greatest_up_to code end greatest lawful h le;
}
