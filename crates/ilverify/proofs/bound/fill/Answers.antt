use Rattle.std.proofs.Common.{◌≡◌, ℕ, ◌+◌, ◌-◌, arith, subst, ap, ◌∙◌}
use Rattle.ilcode.specs.Listings.{IsIn, end_of}
use Rattle.ilverify.specs.Tables.{plus, IsFilled}
use Rattle.ilverify.specs.BoundSteps.{longest_after, longest_from}
use Rattle.ilcode.proofs.Bodies.{within}
use Rattle.ilverify.proofs.Fills.{filled_more}
use Rattle.ilverify.proofs.Throughs.{longest_local}
use Rattle.ilverify.proofs.bound.fill.Goals as goal

pub word-requires : goal.word-requires
word-requires c =
    let w = within c.args.code.now c.requires.lawful c.args.body in
    let e = c.end_of-end.ensures in
    omega (arith, w, e)

pub longest_after-after-requires : goal.longest_after-after-requires
longest_after-after-requires c =
    let w = within c.args.code.now c.requires.lawful c.args.body in
    let e = c.end_of-end.ensures in
    let few = c.requires.lawful.most_instructions in
    omega (arith, w, e, few)

pub index_mut-requires : goal.index_mut-requires
index_mut-requires c =
    let w = within c.args.code.now c.requires.lawful c.args.body in
    let e = c.end_of-end.ensures in
    let long = c.loop-place.invariant.long in
    let ok = c.loop-place.longest.ok.0 in
    omega (arith, w, e, long, ok)

pub loop-place-preserved : goal.loop-place-preserved
loop-place-preserved c =
    let code = c.args.code.now in
    let body = c.args.body in
    let through = c.args.through.now in
    let says = longest_from code through in
    let kept = c.loop-place.longest.items in
    let p = c.loop-place.place - 1 in
    let e = c.end_of-end.ensures in
    let s = c.requires.start in
    let q : c.loop-place.place ≡ p + 1 = omega arith in
    let f = subst (IsFilled code 0 says kept body) q c.loop-place.invariant in
    let i : IsIn code body p = record { from = omega (arith, s); to = omega (arith, e) } in
    let v : c.plus.result ≡ says kept (end_of code body) p c.word.result =
    c.plus.ensures ∙ ap (plus 1) (c.longest_after-after.ensures
    ∙ ap (λ (l : _). longest_after code through l c.end_of-end.result p c.word.result) c.deref.ensures.value
    ∙ ap (λ (n : ℕ). longest_after code through kept n p c.word.result) e) in
    filled_more code 0 says c.requires.lawful (longest_local code c.requires.lawful c.requires.good through) kept body p
    c.plus.result c.word.result i c.word.ensures.value v f
