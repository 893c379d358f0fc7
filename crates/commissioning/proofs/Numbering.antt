-- Lines and tests of 0, 1 and so on, as a loop comes to them.
use Rattle.std.proofs.Common.{◌≡◌, ℕ, zero, suc, ◌+◌, ◌<◌, ◌≤◌, Bool, true, false, ◌||◌, List, ◌++◌, Option, refl}
use Rattle.std.proofs.Common.{sym, ◌∙◌, ap, inl, inr, subst, arith}
use Rattle.std.proofs.lemmas.Bool.{cases_eq}
use Rattle.std.specs.Prelude.{Result, Ok, Err, OnOk}
use Rattle.std.specs.Io.KnownBytes.{Appends}
use Rattle.commissioning.specs.Differences.{any_below, lines_below}
use Rattle.commissioning.proofs.Appending.{appends_both}

-- the lines of one more
pub more_lines : (lines : ℕ → List ℕ) (count : ℕ) (a b c : Option (List ℕ)) → Appends a b (lines_below lines count)
    → Appends b c (lines count) → Appends a c (lines_below lines (count + 1))
more_lines lines count a b c before one =
    let next : count + 1 ≡ suc count = omega arith in
    subst (λ n. Appends a c (lines_below lines n)) (sym next)
    (appends_both a b c (lines_below lines count) (lines count) before one)

-- all lines, once their number is there
pub all_lines : (lines : ℕ → List ℕ) (count whole : ℕ) (a b : Option (List ℕ)) → count ≤ whole → whole ≤ count
    → Appends a b (lines_below lines count) → Appends a b (lines_below lines whole)
all_lines lines count whole a b most least so_far =
    let there : count ≡ whole = omega arith in subst (λ n. Appends a b (lines_below lines n)) there so_far

-- lines behind others, and those behind others too, where the last were written
pub three_appended : {A E : Type 0} (r : Result A E) (a b c d : Option (List ℕ)) (xs ys zs : List ℕ)
    → Appends a b xs → Appends b c ys → OnOk r (Appends c d zs) → OnOk r (Appends a d (xs ++ (ys ++ zs)))
three_appended (Ok x) a b c d xs ys zs first second last =
    appends_both a b d xs (ys ++ zs) first (appends_both b c d ys zs second last)
three_appended (Err e) a b c d xs ys zs first second last = tt

or_right : (x y : Bool) → y ≡ true → x || y ≡ true
or_right true y is = refl
or_right false y is = is

-- it holds of this one
pub any_at : (test : ℕ → Bool) (i count : ℕ) → i < count → test i ≡ true → any_below test count ≡ true
any_at test i zero lt is = absurd (omega arith)
any_at test i (suc count) lt is =
    elim (cases_eq i count) as (λ _. any_below test count || test count ≡ true) [
      | inl same ↦ or_right (any_below test count) (test count) (ap test (sym same) ∙ is)
      | inr other ↦ let below : i < count = omega arith in
          ap (λ b. b || test count) (any_at test i count below is)
    ]

-- it holds of none so far, and not of the next
pub none_more : (test : ℕ → Bool) (count : ℕ) → any_below test count ≡ false → test count ≡ false
    → any_below test (count + 1) ≡ false
none_more test count none fails =
    let next : count + 1 ≡ suc count = omega arith in
    subst (λ n. any_below test n ≡ false) (sym next) (ap (λ b. b || test count) none ∙ fails)

-- it holds of none, once their number is there
pub none_of_all : (test : ℕ → Bool) (count whole : ℕ) → count ≤ whole → whole ≤ count
    → any_below test count ≡ false → any_below test whole ≡ false
none_of_all test count whole most least none =
    let there : count ≡ whole = omega arith in subst (λ n. any_below test n ≡ false) there none
