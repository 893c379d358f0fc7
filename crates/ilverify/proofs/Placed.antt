-- Where paths stand: at a word of the body that they pass through, and each caller goes on within its own.
use Rattle.std.proofs.Common.{◌≡◌, ℕ, ◌+◌, ◌<◌, ◌≤◌, ◌⊎◌, inl, inr, Bool, List, [], ◌∷◌}
use Rattle.std.proofs.Common.{Some, refl, sym, ap, subst, arith}
use Rattle.std.specs.Prelude.{slice_get, if◌then◌else◌}
use Rattle.std.proofs.Math.Nat.{le_refl}
use Rattle.std.proofs.lemmas.Bool.{cases_eq}
use Rattle.ilcode.specs.declared.word.Word.{Word}
use Rattle.ilcode.specs.Listings.{Listing, IsLawful, IsIn, end_of}
use Rattle.ilcode.specs.Paths.{PathCall, path_call, Standing, standing, body_on, land, IsWord}
use Rattle.ilcode.proofs.Bodies.{start_suc, rising, within}
use Rattle.ilcode.proofs.Lists.{get}
use Rattle.ilverify.specs.LongestWays.{IsPlaced}
use Rattle.ilverify.proofs.CalledBodies.{eq_true, eq_false}

pub placed_within : (code : Listing) (calls : List PathCall) (place : ℕ) → IsPlaced code calls place
    → place < end_of code (body_on calls) → IsIn code (body_on calls) place
placed_within code [] place h lt = record { from = omega arith; to = lt }
placed_within code (c ∷ cs) place h lt =
    record { from = let s = start_suc code c.function in let a = h.0 in omega (arith, s, a); to = lt }

pub placed_on : (code : Listing) (calls : List PathCall) (place to : ℕ) → IsPlaced code calls place → place ≤ to
    → to ≤ end_of code (body_on calls) → IsPlaced code calls to
placed_on code [] place to h le in_body = in_body
placed_on code (c ∷ cs) place to h le in_body = (let a = h.0 in omega (arith, a, le), in_body, h.2)

pub next_placed : (code : Listing) (calls : List PathCall) (place : ℕ) → IsIn code (body_on calls) place
    → IsPlaced code calls place → IsPlaced code calls (place + 1)
next_placed code calls place i h =
    placed_on code calls place (place + 1) h (omega arith) (let lt = i.to in omega (arith, lt))

pub call_placed : (code : Listing) (calls : List PathCall) (place function : ℕ) → IsLawful code
    → IsIn code (body_on calls) place → IsPlaced code calls place
    → IsPlaced code (path_call function (place + 1) ∷ calls) (end_of code function)
call_placed code calls place function lawful i h =
    (le_refl (end_of code function), rising code lawful function, next_placed code calls place i h)

-- ---- where a body ends its caller goes on

pub land_end : (code : Listing) (c : PathCall) (cs : List PathCall) (place : ℕ) → place ≡ end_of code (c.function + 1)
    → land code place (c ∷ cs) ≡ land code c.back cs
land_end code c cs place e =
    ap (λ (b : Bool). if b then land code c.back cs else standing place (c ∷ cs))
    (eq_true place (end_of code (c.function + 1)) e)

land_there : (code : Listing) (c : PathCall) (cs : List PathCall) (place : ℕ)
    → (place ≡ end_of code (c.function + 1) → ⊥) → land code place (c ∷ cs) ≡ standing place (c ∷ cs)
land_there code c cs place d =
    ap (λ (b : Bool). if b then land code c.back cs else standing place (c ∷ cs))
    (eq_false place (end_of code (c.function + 1)) d)

-- what stays true where a body ends is true of where a path lands
pub land_keeps : (code : Listing) (P : List PathCall → ℕ → Type 0)
    → ((c : PathCall) (cs : List PathCall) → P (c ∷ cs) (end_of code (c.function + 1)) → P cs c.back)
    → (calls : List PathCall) (place : ℕ) → P calls place
    → P (land code place calls).calls (land code place calls).place
land_keeps code P ends [] place p = p
land_keeps code P ends (c ∷ cs) place p =
    elim (cases_eq place (end_of code (c.function + 1)))
    as (λ _. P (land code place (c ∷ cs)).calls (land code place (c ∷ cs)).place) [
      | inl e ↦
          subst (λ (s : Standing). P s.calls s.place) (sym (land_end code c cs place e))
          (land_keeps code P ends cs c.back (ends c cs (subst (P (c ∷ cs)) e p)))
      | inr d ↦ subst (λ (s : Standing). P s.calls s.place) (sym (land_there code c cs place d)) p
    ]

-- a path lands at the programs' end or at a word
pub record IsAtEnd (code : Listing) (s : Standing) : Type 0 where
  pub none : s.calls ≡ []
  pub end : s.place ≡ end_of code 0

abbrev pub LandsOn : Listing → Standing → Type 0
LandsOn code s = IsAtEnd code s ⊎ IsWord code s

pub lands_on : (code : Listing) (calls : List PathCall) (place : ℕ) → IsPlaced code calls place
    → LandsOn code (land code place calls)
lands_on code [] place h = elim (cases_eq place (end_of code 0)) [
  | inl e ↦ inl (record { none = refl; end = e })
  | inr d ↦ inr (omega (arith, h, d))
]
lands_on code (c ∷ cs) place h =
    elim (cases_eq place (end_of code (c.function + 1))) as (λ _. LandsOn code (land code place (c ∷ cs))) [
      | inl e ↦ subst (LandsOn code) (sym (land_end code c cs place e)) (lands_on code cs c.back h.2)
      | inr d ↦
          subst (LandsOn code) (sym (land_there code c cs place d)) (inr (let le = h.1 in omega (arith, le, d)))
    ]

pub land_placed : (code : Listing) (calls : List PathCall) (place : ℕ) → IsPlaced code calls place
    → IsPlaced code (land code place calls).calls (land code place calls).place
land_placed code calls place h = land_keeps code (IsPlaced code) (λ c cs p. p.2) calls place h

-- a place of the body, which is not its end, is where a path lands
pub land_in : (code : Listing) (calls : List PathCall) (place : ℕ) → place < end_of code (body_on calls)
    → land code place calls ≡ standing place calls
land_in code [] place lt = refl
land_in code (c ∷ cs) place lt = land_there code c cs place (λ e. omega (arith, e, lt))

-- the word at which a path stands
pub word_at : (code : Listing) → IsLawful code → (s : Standing) → IsWord code s
    → (word : Word) × (slice_get code.instructions s.place ≡ Some word)
word_at code lawful s w =
    let l = within code lawful (body_on s.calls) in get code.instructions s.place (omega (arith, w, l))
