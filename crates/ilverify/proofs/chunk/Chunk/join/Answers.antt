use Rattle.std.proofs.Common.{◌≡◌, refl}
use Rattle.ilverify.specs.JoinSteps.{AreWithin}
use Rattle.ilverify.proofs.JoinRows.{joins_ones, joins_others}
use Rattle.ilverify.proofs.chunk.Chunk.join.Goals as goal

pub returns-then-are_within : goal.returns-then-are_within
returns-then-are_within c =
    let w : AreWithin c.deref-2.result.now c.deref-4.result.now = c.if-are_within.ensures.0 refl in
    let f : c.deref-2.result.now ≡ c.args.other.now = cc in
    let g : c.deref-4.result.now ≡ c.args.self.now = cc in
    let v : AreWithin c.args.other.now c.args.self.now = rw (← f, ← g) w in
    rw c.in_ok-share.ensures (joins_ones _ _ v)

pub returns-then-are_within-2 : goal.returns-then-are_within-2
returns-then-are_within-2 c =
    let w : AreWithin c.deref-6.result.now c.deref-8.result.now = c.if-are_within-2.ensures.0 refl in
    let f : c.deref-6.result.now ≡ c.args.self.now = cc in
    let g : c.deref-8.result.now ≡ c.args.other.now = cc in
    let v : AreWithin c.args.self.now c.args.other.now = rw (← f, ← g) w in
    rw c.in_ok-share-2.ensures (joins_others _ _ v)
