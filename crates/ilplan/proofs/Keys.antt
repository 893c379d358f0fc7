-- Values as keys of a map: its test is that of the same value, and one value more has the next number.
use Rattle.std.proofs.Common.{◌≡◌, ◌∙◌, ℕ, ◌+◌, List, [], ◌∷◌, ◌++◌, length, Bool, true, false, cond, nat_lt}
use Rattle.std.proofs.Common.{◌≤◌, Option, Some, None, refl, sym, ap, subst, arith}
use Rattle.std.specs.Prelude.{not, eqb, is_some, suc}
use Rattle.std.specs.List.{list_any, position, position_or_len}
use Rattle.std.proofs.lemmas.Bool.Decides.{nat_tests}
use Rattle.std.proofs.lemmas.List.{length-append}
use Rattle.std.proofs.lemmas.List.Folds.{position_or_len_push}
use Rattle.std.proofs.lemmas.List.Sums.{prefix_len-le-length}
use Rattle.iltypes.specs.declared.value.Value.{Value}
use Rattle.iltypes.specs.declared.value.Value.TheVariants.{Bool as OfBool, Int}
use Rattle.iltypes.specs.contracts.value.ValuePartialEq.TheImpl.{eq-value}
use Rattle.ilplan.specs.Constants.{AreNumbers, same_value}
use Rattle.ilplan.proofs.EachOnce.{same_is, same_sym}

same_key : (v w : Value) → eq-value.it v w ≡ same_value v w
same_key (OfBool b) (OfBool d) = refl
same_key (OfBool b) (Int d) = refl
same_key (Int b) (OfBool d) = refl
same_key (Int b) (Int d) = refl

pub same_test : eq-value.it ≡ same_value
same_test = λ i v w. same_key v w i

-- a value that is none of them has the number past the last
pub none_found : (test : Value → Bool) (known : List Value) → position test known ≡ None
    → position_or_len test known ≡ length known
none_found test known e = past (position_or_len test known) (nat_lt (position_or_len test known) (length known)) refl e
  where
    past : (n : ℕ) (b : Bool) → nat_lt (position_or_len test known) (length known) ≡ b
        → cond b (Some n) None ≡ None → position_or_len test known ≡ length known
    past n true t e = absurd cc
    past n false f e =
        let le = prefix_len-le-length (λ k. not (test k)) known in
        grind (arith, nat_tests, le)

either : (b : Bool) {P : Type 0} → (b ≡ true → P) → (b ≡ false → P) → P
either true t f = t refl
either false t f = f refl

module _ {X : Type 0} (test : X → Bool) where
  shifted : (n m : ℕ) → nat_lt (1 + n) (suc m) ≡ nat_lt n m
  shifted n m = grind (arith, nat_tests)

  some_is : (b : Bool) (n m : ℕ) → is_some (cond b (Some n) None) ≡ is_some (cond b (Some m) None)
  some_is true n m = refl
  some_is false n m = refl

  first : (m : ℕ) → nat_lt 0 (suc m) ≡ true
  first m = grind (arith, nat_tests)

  -- a value is among others where it has a place there
  pub placed : (known : List X) → is_some (position test known) ≡ list_any test known
  placed [] = refl
  placed (k ∷ known) = either (test k)
      (λ t. rw (t, first (length known)) refl)
      (λ f. later f (placed known))
    where
      later : test k ≡ false → is_some (position test known) ≡ list_any test known
          → is_some (position test (k ∷ known)) ≡ list_any test (k ∷ known)
      later f more = rw f (ap (λ b. is_some (cond b (Some (1 + position_or_len test known)) None)) (shifted (position_or_len test known) (length known)) ∙ (some_is (nat_lt (position_or_len test known) (length known)) (1 + position_or_len test known) (position_or_len test known) ∙ more))

  -- the place of a value that another comes after
  beyond : (n len : ℕ) → n ≤ len
      → cond (nat_lt (cond (eqb n len) (len + 1) n) (len + 1)) (Some (cond (eqb n len) (len + 1) n)) None
      ≡ cond (nat_lt n len) (Some n) None
  beyond n len le = either (eqb n len)
      (λ t. rw t (let a : nat_lt (len + 1) (len + 1) ≡ false = grind (arith, nat_tests) in let b : nat_lt n len ≡ false = grind (arith, nat_tests, t) in rw (a, b) refl))
      (λ f. rw f (let a : nat_lt n (len + 1) ≡ true = grind (arith, nat_tests, le) in let b : nat_lt n len ≡ true = grind (arith, nat_tests, f, le) in rw (a, b) refl))

  -- one more, which does not pass
  pub passed_over : (known : List X) (value : X) → test value ≡ false
      → position test (known ++ value ∷ []) ≡ position test known
  passed_over known value f =
      let long : length (known ++ value ∷ []) ≡ length known + 1 = length-append known (value ∷ []) in
      let at : position_or_len test (known ++ value ∷ []) ≡ cond (eqb (position_or_len test known) (length known)) (length known + 1) (position_or_len test known) =
      position_or_len_push test known value ∙ rw f refl in
      rw (long, at) (beyond (position_or_len test known) (length known) (prefix_len-le-length (λ k. not (test k)) known))

  -- one more, which is the first that passes
  pub passes_last : (known : List X) (value : X) → position_or_len test known ≡ length known → test value ≡ true
      → position test (known ++ value ∷ []) ≡ Some (length known)
  passes_last known value none t =
      let long : length (known ++ value ∷ []) ≡ length known + 1 = length-append known (value ∷ []) in
      let same : eqb (length known) (length known) ≡ true = grind (arith, nat_tests) in
      let at : position_or_len test (known ++ value ∷ []) ≡ length known =
      position_or_len_push test known value ∙ rw (t, none, same) (omega arith) in
      let below : nat_lt (length known) (length known + 1) ≡ true = grind (arith, nat_tests) in
      rw (long, at, below) refl

-- one value more has the next number
pub one_more : (known : List Value) (value : Value) (before after : Value → Option ℕ)
    → AreNumbers before known → before value ≡ None
    → ((other : Value) → after other ≡ cond (eq-value.it value other) (Some (length known)) (before other))
    → AreNumbers after (known ++ value ∷ [])
one_more known value before after so new is other =
    is other
    ∙ ap (λ test. cond (test value other) (Some (length known)) (before other)) same_test
    ∙ either (same_value value other)
    (λ t. rw t (sym (passes_last (same_value other) known value (unknown t) (same_sym other value ∙ t))))
    (λ f. rw f (so other ∙ sym (passed_over (same_value other) known value (same_sym other value ∙ f))))
  where
    unknown : same_value value other ≡ true → position_or_len (same_value other) known ≡ length known
    unknown t =
        subst (λ v. position_or_len (same_value v) known ≡ length known) (same_is value other t)
        (none_found (same_value value) known (sym (so value) ∙ new))

-- a value is known where it has a number
pub known_by : (known : List Value) (value : Value) (number_of : Value → Option ℕ) → AreNumbers number_of known
    → is_some (number_of value) ≡ list_any (same_value value) known
known_by known value number_of so = ap is_some (so value) ∙ placed (same_value value) known

pub no_number : {X : Type 0} (o : Option X) → is_some o ≡ false → o ≡ None
no_number None e = refl
no_number (Some x) e = absurd cc

-- the first place of a value that has one
pub found_at : (test : Value → Bool) (known : List Value) (n : ℕ) → position test known ≡ Some n
    → n ≡ position_or_len test known
found_at test known n = cases (nat_lt (position_or_len test known) (length known))
  where
    cases : (b : Bool) → cond b (Some (position_or_len test known)) None ≡ Some n → n ≡ position_or_len test known
    cases true e = cc
    cases false e = absurd cc
