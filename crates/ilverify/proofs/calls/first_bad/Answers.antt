use Rattle.std.proofs.Common.{◌≡◌, ℕ, ◌+◌, ◌≤◌, length, arith, subst, sym, ap, ◌∙◌}
use Rattle.std.specs.Prelude.{slice_get, Some}
use Rattle.ilcode.specs.declared.word.Word.TheVariants as words
use Rattle.ilcode.specs.Listings.{IsIn, start_of, end_of}
use Rattle.ilcode.proofs.Bodies.{within}
use Rattle.ilverify.specs.Calls.{IsBadCall}
use Rattle.ilverify.proofs.Chains.{NoneBad, bad_more, bad_at, bad_to, good_at_end, start_le}
use Rattle.ilverify.proofs.calls.first_bad.Goals as goal
use Rattle.ilverify.proofs.calls.first_bad.Goals.{in-Invoke+else-is_bad, in_default}

pub loop-place-preserved : goal.loop-place-preserved
loop-place-preserved c =
    let code = c.args.code.now in
    let lawful = c.functions.ensures.lawful in
    let body = c.loop-body.body in
    let place = c.loop-place.place in
    let s = c.start_of-place.ensures in
    let e = c.end_of-place-end.ensures in
    let i : IsIn code body place = record { from = omega (arith, s); to = omega (arith, e) } in
    let more : place + 1 ≤ end_of code body = omega (arith, e) in
    elim c.match-word.branch [
      | in-Invoke+else-is_bad w ↦ (
        bad_more code lawful body place c.word.result i c.word.ensures.value (λ f q b.
            let p = w.in-Invoke.is in
            let same : w.in-Invoke.function ≡ f = cc in
            let from : w.from.result ≡ f = w.from.ensures ∙ same in
            let t = w.is_bad.ensures.1 (subst (IsBadCall code body) (sym from) b) in
            let n = w.if-is_bad.false in
            absurd (cc)) c.loop-place.invariant.0,
        more,
      )
      | in_default w ↦ (
        bad_more code lawful body place c.word.result i c.word.ensures.value
            (λ f q b. absurd (w.in_default.not-Invoke f q)) c.loop-place.invariant.0,
        more,
      )
    ]

pub loop-body-preserved : goal.loop-body-preserved
loop-body-preserved c =
    let code = c.args.code.now in
    let le = start_le code c.functions.ensures.lawful c.loop-body.body in
    let s = c.start_of-place.ensures in
    let n = c.end_of-place-end.ensures in
    let inside = c.loop-place.invariant.1 in
    let e : c.loop-place.place ≡ end_of code c.loop-body.body = omega (arith, inside, n) in
    bad_to code c.loop-body.body c.loop-place.place e c.loop-place.invariant.0

pub returns : goal.returns
returns c =
    let code = c.args.code.now in
    let f = c.functions.ensures.value in
    let e : c.loop-body.body ≡ length code.functions + 1 = omega (arith, ap length f) in
    good_at_end code c.functions.ensures.lawful
    (subst (λ (n : ℕ). NoneBad code (start_of code n)) e c.loop-body.invariant)

pub word-requires : goal.word-requires
word-requires c =
    let w = within c.args.code.now c.functions.ensures.lawful c.loop-body.body in
    let e = c.end_of-place-end.ensures in
    omega (arith, w, e)

pub returns-then-is_bad : goal.returns-then-is_bad
returns-then-is_bad c =
    let code = c.args.code.now in
    let s = c.start_of-place.ensures in
    let e = c.end_of-place-end.ensures in
    let i : IsIn code c.loop-body.body c.loop-place.place = record { from = omega (arith, s); to = omega (arith, e) } in
    let is : slice_get code.instructions c.loop-place.place ≡ Some (words.Invoke c.from.result) =
    c.word.ensures.value ∙ ap Some (c.in-Invoke.is ∙ ap words.Invoke (sym c.from.ensures)) in
    bad_at code c.loop-body.body c.loop-place.place c.from.result i is
    (c.is_bad.ensures.0 c.if-is_bad.true) c.loop-place.invariant.0
