-- The bounds of worked codes.
use Rattle.std.proofs.Common.{◌≡◌, ◌⊎◌, ℕ, ◌+◌, ◌≤◌, ◌<◌, List, [], ◌∷◌, length, Option, Some, refl, ap, sym, subst, ◌∙◌}
use Rattle.std.proofs.Common.{inl, inr, arith, lit<, lit≤, slice_get}
use Rattle.iltypes.specs.declared.condition.Condition.TheVariants.{IfTrue}
use Rattle.ilcode.specs.declared.word.Word.{Word}
use Rattle.ilcode.specs.declared.word.Word.TheVariants as words
use Rattle.ilcode.specs.Listings.{Listing}
use Rattle.ilcode.specs.Paths.{Standing, standing, land, IsBound, IsNext, IsPath, IsWord, LeadsTo}
use Rattle.refusalscode.specs.Codes.{branching, straight, load_level, load_truth}

-- the way of the jump
abbrev longer : List Standing
longer = standing 0 [] ∷ standing 1 [] ∷ standing 3 [] ∷ standing 4 [] ∷ standing 5 [] ∷ []

longer_is : IsPath branching longer
longer_is = (
  refl,
  lit< tt,
  (
    record { word = load_truth; is = refl; leads = refl; within = lit< tt },
    (
      record { word = words.Jump IfTrue 3; is = refl; leads = inr (record { lawful = refl; is = refl }); within = lit< tt },
      (
        record { word = load_level; is = refl; leads = refl; within = lit< tt },
        (record { word = load_level; is = refl; leads = refl; within = lit< tt }, tt),
      ),
    ),
  ),
)

pub bound_of_branching : (code : Listing) (bound : ℕ) → code ≡ branching → IsBound code bound → 5 ≤ bound
bound_of_branching code bound same is =
    (subst (λ (k : Listing). IsBound k bound) same is).greatest longer longer_is

-- ---- two words

-- from a load at this place control goes on to the next
next_is : (s t : Standing) (place : ℕ) (load : Word) → s ≡ standing place []
    → slice_get straight.instructions place ≡ Some load
    → ((a b : Standing) → LeadsTo straight load a b → b ≡ land straight (a.place + 1) a.calls) → IsNext straight s t
    → t ≡ standing (place + 1) []
next_is s t place load at there onward next =
    let found : slice_get straight.instructions place ≡ Some next.word =
    subst (λ (x : Standing). slice_get straight.instructions x.place ≡ Some next.word) at next.is in
    let same : next.word ≡ load = cc in
    let leads = subst (λ (w : Word). LeadsTo straight w s t) same next.leads in
    onward s t leads ∙ ap (λ (x : Standing). land straight (x.place + 1) x.calls) at

short : (path : List Standing) → IsPath straight path → length path ≤ 2
short [] is = lit≤ tt
short (s ∷ []) is = lit≤ tt
short (s ∷ t ∷ []) is = lit≤ tt
short (s ∷ t ∷ u ∷ more) is =
    let second = next_is s t 0 load_level is.0 refl (λ a b leads. leads) is.2.0 in
    let third = next_is t u 1 load_truth second refl (λ a b leads. leads) is.2.1.0 in
    let within = is.2.1.0.within in
    let inside : 2 < 2 = subst (λ (x : Standing). IsWord straight x) third within in
    absurd (omega arith)

both : IsPath straight (standing 0 [] ∷ standing 1 [] ∷ [])
both = (refl, lit< tt, (record { word = load_level; is = refl; leads = refl; within = lit< tt }, tt))

two_words : (bound : ℕ) → IsBound straight bound → bound ≡ 2
two_words bound is =
    let least = is.greatest (standing 0 [] ∷ standing 1 [] ∷ []) both in
    let most = short is.path is.is in
    let long = is.long in
    omega arith

pub bound_of_straight : (code : Listing) (bound : ℕ) → code ≡ straight → IsBound code bound → bound ≡ 2
bound_of_straight code bound same is = two_words bound (subst (λ (k : Listing). IsBound k bound) same is)
