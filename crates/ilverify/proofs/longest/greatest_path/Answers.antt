use Rattle.std.proofs.Common.{◌≡◌, ℕ, ◌<◌, ◌≤◌, Bool, true, false, Option, Some, None, refl, arith, subst, sym, []}
use Rattle.std.specs.Prelude.{IsTrue, IfSome, MatchOption, nat_le, if◌then◌else◌}
use Rattle.std.proofs.lemmas.Bool.Decides.{nat_tests}
use Rattle.limits.specs.Limits.{most_steps}
use Rattle.ilcode.specs.Listings.{Listing}
use Rattle.ilcode.specs.Paths.{IsBound, IsTooLong}
use Rattle.ilverify.specs.LongestWays.{IsLongest}
use Rattle.ilverify.proofs.WayLengths.{bound_is, too_long}
use Rattle.ilverify.proofs.longest.greatest_path.Goals as goal

within_by : (code : Listing) (n : ℕ) (few : Bool) → (IsTrue few → n ≤ most_steps) → (few ≡ false → most_steps < n)
    → (n ≤ most_steps → IsBound code n) → (most_steps < n → IsTooLong code)
    → MatchOption (if few then Some n else None) (IsTooLong code) (IsBound code)
within_by code n true is past bound long = bound (is refl)
within_by code n false is past bound long = long (past refl)

few_by : (n : ℕ) (few : Bool) → (IsTrue few → n ≤ most_steps)
    → IfSome (if few then Some n else None) (λ words. words ≤ most_steps)
few_by n true is = is refl
few_by n false is = tt

pub returns-clause-exact : goal.returns-clause-exact
returns-clause-exact c =
    let code = c.args.code.now in
    let n = c.words_from.result in
    let first : IsLongest c.in_ok-ways.ways 0 [] n = c.words_from.ensures (omega arith) in
    let longest = subst (λ l. IsLongest l 0 [] n) c.in_ok-ways.ensures first in
    subst (λ (o : Option ℕ). MatchOption o (IsTooLong code) (IsBound code)) (sym c.limited.ensures)
    (within_by code n (nat_le n most_steps) (λ t. grind (arith, nat_tests)) (λ f. grind (arith, nat_tests))
    (bound_is code n longest) (too_long code n longest))

pub returns-clause-few : goal.returns-clause-few
returns-clause-few c =
    let n = c.words_from.result in
    subst (λ (o : Option ℕ). IfSome o (λ words. words ≤ most_steps)) (sym c.limited.ensures)
    (few_by n (nat_le n most_steps) (λ t. grind (arith, nat_tests)))
