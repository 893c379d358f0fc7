use Rattle.std.proofs.Common.{◌≡◌, ℕ, ◌+◌, ◌<◌, List, Option, Some, None, length, arith, subst, sym, ap}
use Rattle.std.proofs.Common.{◌∙◌}
use Rattle.std.specs.Prelude.{slice_get, get_or}
use Rattle.std.proofs.lemmas.Option.{slice_get-get_or}
use Rattle.ilcode.specs.Listings.{IsIn, end_of}
use Rattle.ilcode.proofs.Bodies.{within}
use Rattle.ilverify.specs.Tables.{plus}
use Rattle.ilverify.specs.RequestSteps.{AreMost, raised_after}
use Rattle.ilverify.proofs.RequestMoves.{most_unreached, most_passed}
use Rattle.ilverify.proofs.requests.pass.Goals as goal
use Rattle.ilverify.proofs.requests.pass.Goals.{in-Some, in_default}

-- what is kept for the place
kept : (most : List (Option ℕ)) (place : ℕ) (before read : Option ℕ) → place < length most
    → read ≡ get_or most place read → read ≡ before → slice_get most place ≡ Some before
kept most place before read lt e is = slice_get-get_or most place read lt ∙ ap Some (sym e) ∙ ap Some is

pub index-requires : goal.index-requires
index-requires c =
    let w = within c.args.code.now c.requires.lawful c.args.body in
    let e = c.end_of-end.ensures in
    let long = c.loop-place.invariant.most.long in
    let ok = c.loop-place.most.ok.0 in
    omega (arith, w, e, long, ok)

pub word-word-requires : goal.word-word-requires
word-word-requires c =
    let w = within c.args.code.now c.requires.lawful c.args.body in
    let e = c.end_of-end.ensures in
    omega (arith, w, e)

pub raise_after-requires-clause-few : goal.raise_after-requires-clause-few
raise_after-requires-clause-few c =
    let w = within c.args.code.now c.requires.lawful c.args.body in
    let e = c.end_of-end.ensures in
    let few = c.requires.lawful.most_instructions in
    omega (arith, w, e, few)

pub raise_after-requires-clause-end : goal.raise_after-requires-clause-end
raise_after-requires-clause-end c =
    let w = within c.args.code.now c.requires.lawful c.args.body in
    let e = c.end_of-end.ensures in
    let long = c.loop-place.invariant.most.long in
    omega (arith, w, e, long)

pub loop-place-preserved : goal.loop-place-preserved
loop-place-preserved c =
    let code = c.args.code.now in
    let through = c.args.through.now in
    let body = c.args.body in
    let n = c.loop-place.place in
    let most = c.loop-place.most.items in
    let m = c.loop-place.invariant.most in
    let e = c.end_of-end.ensures in
    let s = c.requires.start in
    let long = m.long in
    let l = within code c.requires.lawful body in
    let below : n < length most = omega (arith, e, long, l) in
    let i : IsIn code body n = record { from = omega (arith, s); to = omega (arith, e) } in
    record {
      inside = omega (arith, e);
      most = elim c.match-index.branch [
        | in-Some w ↦
            let before = w.in-Some.before in
            let word = w.word-word.result in
            let at = kept most n (Some before) c.index.result.now below c.index.ensures w.in-Some.is in
            let passed = most_passed code through most body n before word
            (record { good = c.requires.good; lawful = c.requires.lawful; ways = c.requires.through }) m i
            w.word-word.ensures.value at in
            subst (λ (items : List (Option ℕ)). AreMost code through items body (n + 1))
            (sym (ap (λ (v : _). v.items) w.most-is ∙ w.raise_after.ensures
            ∙ ap (λ (end : ℕ). raised_after code through most end n word w.plus-requests.result) e
            ∙ ap (raised_after code through most (end_of code body) n word)
            (w.plus-requests.ensures ∙ ap (plus before) w.weight.ensures))) passed
        | in_default w ↦
            let at = kept most n None c.index.result.now below c.index.ensures w.in_default.is in
            subst (λ (items : List (Option ℕ)). AreMost code through items body (n + 1))
            (sym (ap (λ (v : _). v.items) w.most-is)) (most_unreached code through most body n m at)
      ];
    }
