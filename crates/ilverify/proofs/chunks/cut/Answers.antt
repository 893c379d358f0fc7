use Rattle.std.proofs.Common.{arith, ◌≡◌, ◌+◌, ◌*◌, ◌≤◌, length, refl, ◌++◌, ◌∷◌, []}
use Rattle.std.specs.Prelude.{◌/◌}
use Rattle.ilverify.proofs.ChunkPlaces.{full_more, full_chunks, full_last, cut_more, cut_even, part_long, rest_long}
use Rattle.ilverify.proofs.chunks.cut.Goals as goal
use Rattle.ilverify.proofs.chunks.cut.Goals.{then-from-items+in_ok-new-2+in_ok-push-2, else-from-items}

pub loop-k-preserved : goal.loop-k-preserved
loop-k-preserved c =
    let l : c.loop-k.k * 64 + 64 ≤ length c.args.items.now = omega arith in
    let f : (c.loop-k.k + 1) * 64 ≡ c.loop-k.k * 64 + 64 = omega arith in
    record {
      full = rw c.in_ok-push.ensures.items
          (full_more _ _ c.loop-k.invariant.full
          (part_long _ c.args.items.now (c.loop-k.k * 64) (c.loop-k.k * 64 + 64) c.in_ok-new.ensures refl l));
      all = rw (c.in_ok-push.ensures.items, f)
          (cut_more c.loop-k.made.items _ c.args.items.now (c.loop-k.k * 64) (c.loop-k.k * 64 + 64)
          (omega arith) c.in_ok-new.ensures c.loop-k.invariant.all);
    }

pub returns-clause-full : goal.returns-clause-full
returns-clause-full c =
    elim c.if-from-items.branch [
      | then-from-items+in_ok-new-2+in_ok-push-2 w ↦
          let n = rest_long _ c.args.items.now (length c.args.items.now / 64 * 64) w.in_ok-new-2.ensures in
          let t = w.if-from-items.true in
          rw (w.made-is, w.in_ok-push-2.ensures.items)
          (full_last _ _ c.loop-k.invariant.full (omega arith) (omega arith))
      | else-from-items w ↦ rw w.made-is (full_chunks _ c.loop-k.invariant.full)
    ]

pub returns-clause-all : goal.returns-clause-all
returns-clause-all c =
    let e : c.loop-k.k ≡ length c.args.items.now / 64 = omega arith in
    let i = rw e at c.loop-k.invariant.all in
    elim c.if-from-items.branch [
      | then-from-items+in_ok-new-2+in_ok-push-2 w ↦
          let t = w.if-from-items.true in
          rw (w.made-is, w.in_ok-push-2.ensures.items)
          (cut_even (c.loop-k.made.items ++ w.in_ok-new-2.field-0 ∷ []) c.args.items.now (length c.args.items.now)
          (omega arith) (cut_more c.loop-k.made.items _ c.args.items.now (length c.args.items.now / 64 * 64)
          (length c.args.items.now) (omega arith) w.in_ok-new-2.ensures i))
      | else-from-items w ↦
          let t = w.if-from-items.false in
          rw w.made-is (cut_even c.loop-k.made.items c.args.items.now (length c.args.items.now / 64 * 64) t i)
    ]
