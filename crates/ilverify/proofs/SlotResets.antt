-- Slots that are known by their types again, one after another.
use Rattle.std.proofs.Common.{◌≡◌, ◌∙◌, ℕ, zero, suc, ◌+◌, ◌≤◌, ◌⊎◌, inl, inr, List, [], ◌∷◌, Some, None, refl, sym, ap}
use Rattle.std.proofs.Common.{arith, subst}
use Rattle.std.specs.Prelude.{slice_get, slice_set}
use Rattle.iltypes.specs.declared.value.IlType.{IlType}
use Rattle.ilverify.specs.declared.known.Known.{Known}
use Rattle.ilverify.specs.Knowns.{known_of_type}
use Rattle.ilverify.specs.Rules.{reset}

more : (n : ℕ) → n + 1 ≡ suc n
more n = omega arith

-- none
pub reset_none : (from to : ℕ) (types : List IlType) (slots : List Known) → to ≤ from
    → reset from to types slots ≡ slots
reset_none zero zero types slots le = refl
reset_none zero (suc to) types slots le = absurd (omega (arith, le))
reset_none (suc from) zero types slots le = refl
reset_none (suc from) (suc to) [] slots le = refl
reset_none (suc from) (suc to) (t ∷ ts) [] le = refl
reset_none (suc from) (suc to) (t ∷ ts) (x ∷ xs) le =
    ap (λ ks. x ∷ ks) (reset_none from to ts xs (omega (arith, le)))

next_reset : (from slot : ℕ) (types : List IlType) (slots : List Known) → from ≤ slot
    → reset slot (suc slot) types (reset from slot types slots) ≡ reset from (suc slot) types slots
next_reset zero zero types slots le = refl
next_reset (suc from) zero types slots le = absurd (omega (arith, le))
next_reset zero (suc slot) [] slots le = refl
next_reset zero (suc slot) (t ∷ ts) [] le = refl
next_reset zero (suc slot) (t ∷ ts) (x ∷ xs) le =
    ap (λ ks. known_of_type t ∷ ks) (next_reset zero slot ts xs (omega arith))
next_reset (suc from) (suc slot) [] slots le = refl
next_reset (suc from) (suc slot) (t ∷ ts) [] le = refl
next_reset (suc from) (suc slot) (t ∷ ts) (x ∷ xs) le =
    ap (λ ks. x ∷ ks) (next_reset from slot ts xs (omega (arith, le)))

-- one more
pub reset_more : (from slot : ℕ) (types : List IlType) (slots : List Known) → from ≤ slot
    → reset slot (slot + 1) types (reset from slot types slots) ≡ reset from (slot + 1) types slots
reset_more from slot types slots le =
    subst (λ (n : ℕ). reset slot n types (reset from slot types slots) ≡ reset from n types slots) (sym (more slot))
    (next_reset from slot types slots le)

one_reset : (slot : ℕ) (types : List IlType) (slots : List Known) (type : IlType) → slice_get types slot ≡ Some type
    → reset slot (suc slot) types slots ≡ slice_set slots slot (known_of_type type)
one_reset slot [] slots type e = absurd (cc)
one_reset zero (t ∷ ts) [] type e = refl
one_reset zero (t ∷ ts) (x ∷ xs) type e =
    let q : t ≡ type = cc in ap (λ (d : IlType). known_of_type d ∷ xs) q
one_reset (suc slot) (t ∷ ts) [] type e = refl
one_reset (suc slot) (t ∷ ts) (x ∷ xs) type e = ap (λ ks. x ∷ ks) (one_reset slot ts xs type e)

-- a slot that has a type
pub reset_one : (slot : ℕ) (types : List IlType) (slots : List Known) (type : IlType) → slice_get types slot ≡ Some type
    → reset slot (slot + 1) types slots ≡ slice_set slots slot (known_of_type type)
reset_one slot types slots type e =
    ap (λ (n : ℕ). reset slot n types slots) (more slot) ∙ one_reset slot types slots type e

past_reset : (slot : ℕ) (types : List IlType) (slots : List Known) → slice_get types slot ≡ None
    → reset slot (suc slot) types slots ≡ slots
past_reset zero [] slots e = refl
past_reset (suc slot) [] slots e = refl
past_reset zero (t ∷ ts) slots e = absurd (cc)
past_reset (suc slot) (t ∷ ts) [] e = refl
past_reset (suc slot) (t ∷ ts) (x ∷ xs) e = ap (λ ks. x ∷ ks) (past_reset slot ts xs e)

-- one that has none
pub reset_past : (slot : ℕ) (types : List IlType) (slots : List Known) → slice_get types slot ≡ None
    → reset slot (slot + 1) types slots ≡ slots
reset_past slot types slots e =
    ap (λ (n : ℕ). reset slot n types slots) (more slot) ∙ past_reset slot types slots e

pub set_same : (slots : List Known) (slot : ℕ) (known : Known) → slice_get slots slot ≡ Some known
    → slice_set slots slot known ≡ slots
set_same [] slot known e = refl
set_same (x ∷ xs) zero known e = let q : x ≡ known = cc in ap (λ (k : Known). k ∷ xs) (sym q)
set_same (x ∷ xs) (suc slot) known e = ap (λ ks. x ∷ ks) (set_same xs slot known e)

-- as far as there are any
pub reset_ends : (from slot to : ℕ) (types : List IlType) (slots new : List Known) → (slot ≡ from) ⊎ (slot ≤ to)
    → to ≤ slot → new ≡ reset from slot types slots → new ≡ reset from to types slots
reset_ends from slot to types slots new (inl e) past h =
    h ∙ reset_none from slot types slots (omega (arith, e))
    ∙ sym (reset_none from to types slots (omega (arith, e, past)))
reset_ends from slot to types slots new (inr l) past h =
    let e : slot ≡ to = omega (arith, l, past) in
    subst (λ (n : ℕ). new ≡ reset from n types slots) e h
