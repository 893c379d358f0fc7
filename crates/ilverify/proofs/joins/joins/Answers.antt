use Rattle.std.proofs.Common.{arith, ◌<◌, length, refl}
use Rattle.std.proofs.lemmas.Option.{slice_get_read}
use Rattle.ilverify.specs.Joins.{IsJoin}
use Rattle.ilverify.proofs.JoinRows.{each_more}
use Rattle.ilverify.proofs.joins.joins.Goals as goal

pub loop-i-preserved : goal.loop-i-preserved
loop-i-preserved c =
    let e = c.requires in
    let r : c.loop-i.i < length c.args.ones.now = omega arith in
    let o : c.loop-i.i < length c.args.others.now = omega arith in
    rw c.in_ok-push.ensures.items (each_more IsJoin c.loop-i.i _ _ _ c.index-ones-i.result c.index-others-i.result
    c.in-Some.known c.loop-i.invariant (slice_get_read _ _ _ _ refl r c.index-ones-i.is)
    (slice_get_read _ _ _ _ refl o c.index-others-i.is) c.in-Some.ensures.least)
