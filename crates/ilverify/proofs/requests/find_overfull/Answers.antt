use Rattle.std.proofs.Common.{◌≡◌, ◌∙◌, ℕ, ◌<◌, length, List, Option, Some, None, ap, subst}
use Rattle.std.proofs.Common.{arith, refl}
use Rattle.std.specs.Prelude.{slice_get, get_or}
use Rattle.std.proofs.lemmas.Option.{slice_get-get_or}
use Rattle.ilcode.specs.Listings.{Listing}
use Rattle.ilcode.proofs.Lists.{get}
use Rattle.ilverify.specs.declared.through.Counted.TheVariants.{Requests}
use Rattle.ilverify.specs.Through.{weight}
use Rattle.ilverify.specs.Requests.{HasFewRequests}
use Rattle.ilverify.specs.RequestSteps.{IsFirstOverfull}
use Rattle.ilverify.proofs.RequestPass.{too_many, none_there, few_there, weight_few, overfull_next, first_overfull_is}
use Rattle.ilverify.proofs.RequestPass.{few_up_to, one_first, few_or_first}
use Rattle.ilverify.proofs.requests.find_overfull.Goals as goal

-- what is kept for the place
kept : (most : List (Option ℕ)) (place : ℕ) (default before : Option ℕ) → place < length most
    → get_or most place default ≡ before → slice_get most place ≡ Some before
kept most place default before lt is = slice_get-get_or most place default lt ∙ ap Some is

-- ---- too many

found_there : (code : Listing) (n : ℕ) → IsFirstOverfull code n → (place : ℕ)
    → (Some n ≡ Some place → IsFirstOverfull code place) × (IsFirstOverfull code place → Some n ≡ Some place)
found_there code n o place =
    (λ e. let q : n ≡ place = cc in subst (IsFirstOverfull code) q o, λ other. ap Some (one_first code n place o other))

first : (c : goal.Then-requests-gt-MOST_REQUESTS) → IsFirstOverfull c.args.code.now c.loop-place.place
first c =
    let code = c.args.code.now in
    let n = c.loop-place.place in
    let most = c.args.most.now in
    let m = c.requires.most in
    let long = m.long in
    let all = c.len-place-end.ensures.value in
    let at = kept most n _ (Some c.in-Some.before) (omega (arith, long, all)) c.in-Some.is in
    let many = c.plus-requests.ensures in
    let w : c.weight.result ≡ weight code Requests c.word.result = c.weight.ensures in
    first_overfull_is code n c.loop-place.invariant
    (too_many code most n c.in-Some.before c.word.result m at c.word.ensures.value (omega (arith, many, w)))

pub returns-then-requests-gt-MOST_REQUESTS-clause-there : goal.returns-then-requests-gt-MOST_REQUESTS-clause-there
returns-then-requests-gt-MOST_REQUESTS-clause-there c = found_there c.args.code.now c.loop-place.place (first c)

pub returns-then-requests-gt-MOST_REQUESTS-clause-nowhere : goal.returns-then-requests-gt-MOST_REQUESTS-clause-nowhere
returns-then-requests-gt-MOST_REQUESTS-clause-nowhere c =
    (λ e. absurd (cc), λ few. absurd (few_or_first c.args.code.now c.loop-place.place few (first c)))

-- ---- on to the next word

pub loop-place-preserved : goal.loop-place-preserved
loop-place-preserved c =
    let code = c.args.code.now in
    let n = c.loop-place.place in
    let most = c.args.most.now in
    let m = c.requires.most in
    let long = m.long in
    let all = c.len-place-end.ensures.value in
    let within : n < length most = omega (arith, long, all) in
    overfull_next code n c.loop-place.invariant (elim c.match-most-place.branch [
      | goal.in-Some+then-before-ge-MOST_REQUESTS+else-requests-gt-MOST_REQUESTS w ↦
          let at = kept most n _ (Some w.in-Some.before) within w.in-Some.is in
          let few = w.if-requests-gt-MOST_REQUESTS.false in
          let sum = w.plus-requests.ensures in
          let one : w.weight.result ≡ weight code Requests w.word.result = w.weight.ensures in
          few_there code most n w.in-Some.before w.word.result m at w.word.ensures.value (omega (arith, few, sum, one))
      | goal.in-Some+else-before-ge-MOST_REQUESTS w ↦
          let at = kept most n _ (Some w.in-Some.before) within w.in-Some.is in
          let word = get code.instructions n (omega (arith, all)) in
          let one = weight_few code word.0 in
          let few = w.if-before-ge-MOST_REQUESTS.false in
          few_there code most n w.in-Some.before word.0 m at word.1 (omega (arith, few, one))
      | goal.in_default w ↦ none_there code most n m (kept most n _ None within w.in_default.is)
    ])

-- ---- behind the last word

few : (c : goal.After-loop-place) → HasFewRequests c.args.code.now
few c =
    few_up_to c.args.code.now c.loop-place.place c.len-place-end.ensures.lawful c.loop-place.invariant
    (let all = c.len-place-end.ensures.value in omega (arith, all))

pub returns-clause-there : goal.returns-clause-there
returns-clause-there c place =
    (λ e. absurd (cc), λ other. absurd (few_or_first c.args.code.now place (few c) other))

pub returns-clause-nowhere : goal.returns-clause-nowhere
returns-clause-nowhere c = (λ e. few c, λ h. refl)
