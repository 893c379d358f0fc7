-- Chains of calls, and the first call that may not stand in a code.
use Rattle.std.proofs.Common.{◌≡◌, ℕ, zero, suc, ◌+◌, ◌<◌, ◌≤◌, inl, inr, Bool, true, false, List, [], ◌∷◌, ◌++◌}
use Rattle.std.proofs.Common.{length}
use Rattle.std.proofs.Common.{Some, refl, sym, ap, ◌∙◌, subst, arith, length-append}
use Rattle.std.specs.Prelude.{IsTrue, slice_get, get_or, ◌↔◌, ◌==◌}
use Rattle.std.specs.List.{AllByRecursion}
use Rattle.std.proofs.lemmas.Bool.{cases_eq}
use Rattle.std.proofs.lemmas.Bool.Decides.{nat_tests}
use Rattle.limits.specs.Limits.{few_buses}
use Rattle.ilcode.specs.declared.word.Word.{Word}
use Rattle.ilcode.specs.declared.word.Word.TheVariants as words
use Rattle.ilcode.specs.Words.{IsOldWord}
use Rattle.ilcode.specs.Listings.{Listing, IsLawful, is_old, IsIn, start_of, end_of}
use Rattle.ilcode.proofs.Bodies.{start_suc, end_past, rising, within, one_body}
use Rattle.ilverify.specs.Calls.{HasChain, IsBadCall, IsBadAt, HasGoodCalls, IsFirstBad}
use Rattle.ilverify.specs.CallSteps.{AreChains}

suc_is : (n : ℕ) → n + 1 ≡ suc n
suc_is n = omega arith

-- ---- chains

-- in the body of a function that is not there no chain begins
pub none_outside : (code : Listing) → IsLawful code → (n f : ℕ) → length code.functions ≤ f
    → HasChain code (suc n) f → ⊥
none_outside code lawful n f le c =
    let i = c.2 in
    let from = i.from in
    let to = i.to in
    let a = end_past code f le in
    let w = within code lawful (f + 1) in
    let s = start_suc code f in
    omega (arith, from, to, a, w, s)

-- there a chain of no call alone does
pub outside_is : (code : Listing) → IsLawful code → (calls f : ℕ) → length code.functions ≤ f
    → IsTrue (calls == 0) ↔ HasChain code calls f
outside_is code lawful zero f le = (λ t. tt, λ c. refl)
outside_is code lawful (suc calls) f le = (
  λ t. absurd (let k : suc calls ≡ 0 = grind (arith, nat_tests) in omega (arith, k)),
  λ c. absurd (none_outside code lawful calls f le c),
)

-- a chain begins where a longer one does
shorter_by : (code : Listing) (n f : ℕ) → HasChain code (suc n) f → HasChain code n f
shorter_by code zero f c = tt
shorter_by code (suc n) f c = (c.0, c.1, c.2, c.3, shorter_by code n c.1 c.4)

pub shorter : (code : Listing) (n f : ℕ) → HasChain code (n + 1) f → HasChain code n f
shorter code n f c = shorter_by code n f (subst (λ (k : ℕ). HasChain code k f) (suc_is n) c)

-- so far no call in the body leads on
pub record NoneBefore (code : Listing) (calls from place : ℕ) : Type 0 where
  pub none : (p inner : ℕ) → from ≤ p → p < place → slice_get code.instructions p ≡ Some (words.Invoke inner)
      → ¬ HasChain code calls inner

pub none_first : (code : Listing) (calls from : ℕ) → NoneBefore code calls from from
none_first code calls from = record { none = λ p inner le lt w. absurd (omega (arith, le, lt)) }

pub none_more : (code : Listing) (calls from place : ℕ) (word : Word) → NoneBefore code calls from place
    → slice_get code.instructions place ≡ Some word
    → ((inner : ℕ) → word ≡ words.Invoke inner → ¬ HasChain code calls inner) → NoneBefore code calls from (place + 1)
none_more code calls from place word h w never = record {
  none = λ p inner le lt is.
      elim (cases_eq p place) as (λ _. ¬ HasChain code calls inner) [
        | inl e ↦
            let is' = subst (λ (k : ℕ). slice_get code.instructions k ≡ Some (words.Invoke inner)) e is in
            let same : word ≡ words.Invoke inner = cc in
            never inner same
        | inr d ↦ h.none p inner le (omega (arith, lt, d)) is
      ];
}

pub chain_at : (code : Listing) (calls f place inner : ℕ) → end_of code f ≤ place → place < end_of code (f + 1)
    → slice_get code.instructions place ≡ Some (words.Invoke inner) → HasChain code calls inner
    → HasChain code (calls + 1) f
chain_at code calls f place inner le lt w h =
    let s = start_suc code f in
    let i : IsIn code (f + 1) place = record { from = omega (arith, le, s); to = lt } in
    subst (λ (n : ℕ). HasChain code n f) (sym (suc_is calls)) (place, inner, i, w, h)

pub no_chain : (code : Listing) (calls f : ℕ) → NoneBefore code calls (end_of code f) (end_of code (f + 1))
    → ¬ HasChain code (calls + 1) f
no_chain code calls f h c =
    let k = subst (λ (n : ℕ). HasChain code n f) (suc_is calls) c in
    let i = k.2 in
    let s = start_suc code f in
    let from = i.from in
    h.none k.0 k.1 (omega (arith, from, s)) i.to k.3 k.4

-- ---- the table

pub record AreBegun (code : Listing) (calls : ℕ) (chains : List Bool) (functions : ℕ) : Type 0 where
  pub long : length chains ≡ functions
  pub each : (f : ℕ) → f < functions → IsTrue (get_or chains f false) ↔ HasChain code calls f

get_or_push : {A : Type 0} (xs : List A) (x d : A) (i : ℕ) → i < length xs → get_or (xs ++ x ∷ []) i d ≡ get_or xs i d
get_or_push [] x d i lt = absurd (omega (arith, lt))
get_or_push (y ∷ xs) x d zero lt = refl
get_or_push (y ∷ xs) x d (suc i) lt = get_or_push xs x d i (omega (arith, lt))

get_or_last : {A : Type 0} (xs : List A) (x d : A) → get_or (xs ++ x ∷ []) (length xs) d ≡ x
get_or_last [] x d = refl
get_or_last (y ∷ xs) x d = get_or_last xs x d

pub begun_first : (code : Listing) (calls : ℕ) → AreBegun code calls [] 0
begun_first code calls = record { long = refl; each = λ f lt. absurd (omega (arith, lt)) }

pub begun_more : (code : Listing) (calls : ℕ) (chains : List Bool) (n : ℕ) (b : Bool) → AreBegun code calls chains n
    → IsTrue b ↔ HasChain code calls n → AreBegun code calls (chains ++ b ∷ []) (n + 1)
begun_more code calls chains n b h k = record {
  long = let e = h.long in omega (arith, length-append chains (b ∷ []), e);
  each = λ f lt.
      elim (cases_eq f n) as (λ _. IsTrue (get_or (chains ++ b ∷ []) f false) ↔ HasChain code calls f) [
        | inl e ↦
            let last : get_or (chains ++ b ∷ []) n false ≡ b =
            ap (λ (m : ℕ). get_or (chains ++ b ∷ []) m false) (sym h.long) ∙ get_or_last chains b false in
            subst (λ (m : ℕ). IsTrue (get_or (chains ++ b ∷ []) m false) ↔ HasChain code calls m) (sym e)
            (subst (λ (x : Bool). IsTrue x ↔ HasChain code calls n) (sym last) k)
        | inr d ↦
            let l = h.long in
            let same = get_or_push chains b false f (omega (arith, lt, d, l)) in
            subst (λ (x : Bool). IsTrue x ↔ HasChain code calls f) (sym same) (h.each f (omega (arith, lt, d)))
      ];
}

pub begun_all : (code : Listing) (calls : ℕ) (chains : List Bool) → AreBegun code calls chains (length code.functions)
    → AreChains code calls chains
begun_all code calls chains h = record { long = h.long; each = h.each }

-- a longer chain may begin where a shorter one does alone
pub longer_is : (code : Listing) (calls f : ℕ) (chain longer : Bool) → IsTrue chain ↔ HasChain code calls f
    → (chain ≡ true → IsTrue longer ↔ HasChain code (calls + 1) f) → (chain ≡ false → longer ≡ false)
    → IsTrue longer ↔ HasChain code (calls + 1) f
longer_is code calls f true longer is begins none = begins refl
longer_is code calls f false longer is begins none =
    (λ t. absurd (let n = none refl in cc), λ c. absurd (let t = is.1 (shorter code calls f c) in cc))

-- ---- the first bad call

pub record NoneBad (code : Listing) (place : ℕ) : Type 0 where
  pub none : (before : ℕ) → before < place → ¬ IsBadAt code before

pub bad_first : (code : Listing) → NoneBad code 0
bad_first code = record { none = λ before lt. absurd (omega (arith, lt)) }

pub bad_more : (code : Listing) → IsLawful code → (body place : ℕ) (word : Word) → IsIn code body place
    → slice_get code.instructions place ≡ Some word
    → ((f : ℕ) → word ≡ words.Invoke f → ¬ IsBadCall code body f) → NoneBad code place → NoneBad code (place + 1)
bad_more code lawful body place word i w never h = record {
  none = λ before lt b.
      elim (cases_eq before place) as (λ _. ⊥) [
        | inl e ↦
            let in_body = subst (IsIn code b.body) e b.in_body in
            let is = subst (λ (k : ℕ). slice_get code.instructions k ≡ Some (words.Invoke b.function)) e b.is in
            let same : word ≡ words.Invoke b.function = cc in
            let one = one_body code lawful b.body body place in_body i in
            never b.function same (subst (λ (m : ℕ). IsBadCall code m b.function) one b.bad)
        | inr d ↦ h.none before (omega (arith, lt, d)) b
      ];
}

pub bad_at : (code : Listing) (body place function : ℕ) → IsIn code body place
    → slice_get code.instructions place ≡ Some (words.Invoke function) → IsBadCall code body function
    → NoneBad code place → IsFirstBad code place
bad_at code body place function i w b h = record {
  bad = record { body = body; in_body = i; function = function; is = w; bad = b };
  first = h.none;
}

pub all_good : (code : Listing) → IsLawful code → NoneBad code (length code.instructions) → HasGoodCalls code
all_good code lawful h place b =
    let w = within code lawful b.body in
    let to = b.in_body.to in
    h.none place (omega (arith, to, w)) b

pub start_le : (code : Listing) → IsLawful code → (body : ℕ) → start_of code body ≤ end_of code body
start_le code lawful zero = omega arith
start_le code lawful (suc b) =
    let r = rising code lawful b in
    let s = ap (end_of code) (suc_is b) in
    omega (arith, r, s)

pub bad_to : (code : Listing) (body place : ℕ) → place ≡ end_of code body → NoneBad code place
    → NoneBad code (start_of code (body + 1))
bad_to code body place e n = subst (NoneBad code) (e ∙ sym (start_suc code body)) n

pub good_at_end : (code : Listing) → IsLawful code → NoneBad code (start_of code (length code.functions + 1))
    → HasGoodCalls code
good_at_end code lawful n =
    let e = start_suc code (length code.functions) ∙ end_past code (length code.functions) (omega arith) in
    all_good code lawful (subst (NoneBad code) e n)

-- ---- a code of version 1

old_at : (instructions : List Word) (place function : ℕ) → AllByRecursion IsOldWord instructions
    → slice_get instructions place ≡ Some (words.Invoke function) → ⊥
old_at [] place function all e = cc
old_at (word ∷ rest) zero function all e =
    let same : word ≡ words.Invoke function = cc in subst IsOldWord same all.0
old_at (word ∷ rest) (suc place) function all e = old_at rest place function all.1 e

pub old_good : (code : Listing) → IsLawful code → code.buses ≤ few_buses → length code.functions ≡ 0 → HasGoodCalls code
old_good code lawful few none place b =
    let old : IsTrue (is_old code.buses code.functions) = grind (arith, nat_tests) in
    old_at code.instructions place b.function (lawful.old old) b.is
