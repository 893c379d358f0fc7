use Rattle.std.proofs.Common.{◌≡◌, arith, ◌<◌, List, length, refl}
use Rattle.std.proofs.lemmas.List.Elements.{length_all_zip}
use Rattle.std.proofs.lemmas.Option.{slice_get_read}
use Rattle.ilverify.specs.declared.known.Known.{Known}
use Rattle.ilverify.specs.Joins.{AreJoins}
use Rattle.ilverify.proofs.JoinRows.{each_more, each_all}
use Rattle.ilverify.proofs.chunks.join_each.Goals as goal

pub loop-i-preserved : goal.loop-i-preserved
loop-i-preserved c =
    let e = length_all_zip (λ (one other : List Known). length one ≡ length other) _ _ c.requires in
    let r : c.loop-i.i < length c.args.ones.now = omega arith in
    let o : c.loop-i.i < length c.args.others.now = omega arith in
    let j : AreJoins c.index-ones-i.result c.index-others-i.result c.in-Some.part =
    rw c.in-Some.is at c.in_ok-part.ensures in
    rw c.in_ok-push.ensures.items (each_more AreJoins c.loop-i.i _ _ _ c.index-ones-i.result c.index-others-i.result
    c.in-Some.part c.loop-i.invariant (slice_get_read _ _ _ _ refl r c.index-ones-i.is)
    (slice_get_read _ _ _ _ refl o c.index-others-i.is) j)

pub returns : goal.returns
returns c =
    each_all AreJoins c.loop-i.i _ _ _ c.loop-i.invariant (omega arith)
    (length_all_zip (λ (one other : List Known). length one ≡ length other) _ _ c.requires)
