use Rattle.std.proofs.Common.{◌≡◌, ◌∙◌, ℕ, ◌+◌, ◌<◌, length, List, Option, Some, None, ap, subst, sym, arith}
use Rattle.std.specs.Prelude.{slice_get, get_or, max}
use Rattle.std.proofs.lemmas.Option.{slice_get-get_or}
use Rattle.ilverify.specs.Tables.{plus}
use Rattle.ilverify.proofs.MostRequests.{AreCounted, counted_none, counted_more, most_is}
use Rattle.ilverify.proofs.requests.greatest_of.Goals as goal

-- what is kept for the place
kept : (most : List (Option ℕ)) (place : ℕ) (default before : Option ℕ) → place < length most
    → get_or most place default ≡ before → slice_get most place ≡ Some before
kept most place default before lt is = slice_get-get_or most place default lt ∙ ap Some is

pub loop-place-preserved : goal.loop-place-preserved
loop-place-preserved c =
    let code = c.args.code.now in
    let n = c.loop-place.place in
    let most = c.args.most.now in
    let m = c.requires.most in
    let long = m.long in
    let all = c.len-place-end.ensures.value in
    let within : n < length most = omega (arith, long, all) in
    elim c.match-most-place.branch [
      | goal.in-Some w ↦
          let at = kept most n _ (Some w.in-Some.before) within w.in-Some.is in
          let sum = w.max-greatest.ensures ∙ ap (λ (x : ℕ). max x c.loop-place.greatest) (w.plus-requests.ensures
          ∙ ap (plus w.in-Some.before) w.weight.ensures) in
          subst (AreCounted code (n + 1)) (sym (w.greatest-is ∙ sum))
          (counted_more code most n w.in-Some.before c.loop-place.greatest w.word.result m at w.word.ensures.value
          c.loop-place.invariant)
      | goal.in_default w ↦
          subst (AreCounted code (n + 1)) (sym w.greatest-is)
          (counted_none code most n c.loop-place.greatest m (kept most n _ None within w.in_default.is)
          c.loop-place.invariant)
    ]

pub returns : goal.returns
returns c =
    most_is c.args.code.now c.loop-place.place c.loop-place.greatest c.len-place-end.ensures.lawful
    c.loop-place.invariant (let all = c.len-place-end.ensures.value in omega (arith, all))
