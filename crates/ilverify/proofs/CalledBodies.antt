-- Bodies that a body may call, and the calls of a code in which all may stand.
use Rattle.std.proofs.Common.{◌≡◌, ℕ, zero, suc, ◌+◌, ◌<◌, ◌⊎◌, inl, inr, Bool, true, false, length}
use Rattle.std.proofs.Common.{Some, refl, subst, arith}
use Rattle.std.specs.Prelude.{IsTrue, slice_get, ◌==◌}
use Rattle.std.proofs.lemmas.Bool.{cases_lt}
use Rattle.std.proofs.lemmas.Bool.Decides.{nat_tests}
use Rattle.limits.specs.Limits.{most_calls}
use Rattle.ilcode.specs.declared.word.Word.TheVariants as words
use Rattle.ilcode.specs.Listings.{Listing, IsLawful, IsIn}
use Rattle.ilcode.specs.Steps.{is_callable}
use Rattle.ilverify.specs.Calls.{HasChain, IsBadCall, HasGoodCalls}
use Rattle.ilverify.specs.Tables.{IsEarlier}
use Rattle.ilcode.proofs.Bodies.{one_body}

pub eq_true : (x y : ℕ) → x ≡ y → (x == y) ≡ true
eq_true x y e = grind (arith, nat_tests)

pub eq_false : (x y : ℕ) → (x ≡ y → ⊥) → (x == y) ≡ false
eq_false x y e = grind (arith, nat_tests)

true_of : (b : Bool) → ¬ ¬ IsTrue b → IsTrue b
true_of true h = refl
true_of false h = absurd (h (λ k. let z : ⊥ = cc in z))

-- bodies have no place in common
pub apart : (code : Listing) → IsLawful code → (body other p q : ℕ) → IsEarlier body other → IsIn code body p
    → IsIn code other q → q ≡ p → ⊥
apart code lawful body other p q e i j same =
    let one = one_body code lawful body other p i (subst (IsIn code other) same j) in
    elim e.earlier [
      | inl z ↦ let f = e.function in omega (arith, z, one, f)
      | inr lt ↦ omega (arith, lt, one)
    ]

-- a body that is called is one before
pub callable_earlier : (body function : ℕ) → IsTrue (is_callable body function) → IsEarlier body (function + 1)
callable_earlier zero function h = record { function = omega arith; earlier = inl refl }
callable_earlier (suc b) function h =
    let lt : function + 1 < suc b = grind (arith, nat_tests) in
    record { function = omega arith; earlier = inr lt }

pub earlier_trans : (body other third : ℕ) → IsEarlier body other → IsEarlier other third → IsEarlier body third
earlier_trans body other third e f = record { function = f.function; earlier = by e.earlier f.earlier }
  where
    by : (body ≡ 0) ⊎ (other < body) → (other ≡ 0) ⊎ (third < other) → (body ≡ 0) ⊎ (third < body)
    by (inl z) g = inl z
    by (inr lt) (inl z) = absurd (let p = e.function in omega (arith, p, z))
    by (inr lt) (inr less) = inr (omega (arith, lt, less))

-- in a code of good calls each calls a function before the body, with which no long chain begins
pub record IsGood (code : Listing) (body function : ℕ) : Type 0 where
  pub within : function < length code.functions
  pub callable : IsTrue (is_callable body function)
  pub short : ¬ HasChain code most_calls function

pub good_call : (code : Listing) → HasGoodCalls code → (body place function : ℕ) → IsIn code body place
    → slice_get code.instructions place ≡ Some (words.Invoke function) → IsGood code body function
good_call code good body place function i w =
    let never : ¬ IsBadCall code body function = (λ b. good place (record {
      body = body;
      in_body = i;
      function = function;
      is = w;
      bad = b;
    })) in
    record {
      within = elim (cases_lt function (length code.functions)) as (λ _. function < length code.functions) [
        | inl lt ↦ lt
        | inr ge ↦ absurd (never (inl ge))
      ];
      callable = true_of (is_callable body function) (λ k. never (inr (inl k)));
      short = λ k. never (inr (inr k));
    }
