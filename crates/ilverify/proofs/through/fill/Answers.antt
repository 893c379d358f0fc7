use Rattle.std.proofs.Common.{◌≡◌, ℕ, ◌+◌, ◌-◌, None, arith, subst, ap, ◌∙◌}
use Rattle.ilcode.specs.Listings.{IsIn, end_of}
use Rattle.ilverify.specs.Tables.{IsFilled}
use Rattle.ilverify.specs.Through.{through_from}
use Rattle.ilcode.proofs.Bodies.{within}
use Rattle.ilverify.proofs.Fills.{filled_more}
use Rattle.ilverify.proofs.Throughs.{through_local}
use Rattle.ilverify.proofs.through.fill.Goals as goal

pub word-requires : goal.word-requires
word-requires c =
    let w = within c.args.code.now c.requires.lawful c.args.body in
    let e = c.end_of-end.ensures in
    omega (arith, w, e)

pub through_from-requires : goal.through_from-requires
through_from-requires c =
    let w = within c.args.code.now c.requires.lawful c.args.body in
    let e = c.end_of-end.ensures in
    let few = c.requires.lawful.most_instructions in
    omega (arith, w, e, few)

pub index_mut-requires : goal.index_mut-requires
index_mut-requires c =
    let w = within c.args.code.now c.requires.lawful c.args.body in
    let e = c.end_of-end.ensures in
    let long = c.loop-place.invariant.long in
    let ok = c.loop-place.through.ok.0 in
    omega (arith, w, e, long, ok)

pub loop-place-preserved : goal.loop-place-preserved
loop-place-preserved c =
    let code = c.args.code.now in
    let body = c.args.body in
    let says = through_from code c.args.counted in
    let kept = c.loop-place.through.items in
    let p = c.loop-place.place - 1 in
    let e = c.end_of-end.ensures in
    let s = c.requires.start in
    let q : c.loop-place.place ≡ p + 1 = omega arith in
    let f = subst (IsFilled code None says kept body) q c.loop-place.invariant in
    let i : IsIn code body p = record { from = omega (arith, s); to = omega (arith, e) } in
    let v : c.through_from.result ≡ says kept (end_of code body) p c.word.result =
    c.through_from.ensures ∙ ap (λ (l : _). says l c.end_of-end.result p c.word.result) c.deref.ensures.value
    ∙ ap (λ (n : ℕ). says kept n p c.word.result) e in
    filled_more code None says c.requires.lawful
    (through_local code c.requires.lawful c.requires.good c.args.counted) kept body p c.through_from.result
    c.word.result i
    c.word.ensures.value v f
