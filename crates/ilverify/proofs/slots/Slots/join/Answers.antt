use Rattle.std.proofs.Common.{◌≡◌, ◌∙◌, arith, length}
use Rattle.std.specs.List.{AllZip}
use Rattle.ilverify.specs.ChunkSteps.{whole}
use Rattle.ilverify.specs.Joins.{AreJoins, Each, IsHeld}
use Rattle.ilverify.proofs.ChunkJoins.{parts_held, joins_whole, joins_alike}
use Rattle.ilverify.proofs.ChunkPlaces.{alike_from_length, alike_zip, chunks_alike, whole_alike}
use Rattle.ilverify.proofs.slots.Slots.join.Goals as goal

pub join_each-requires : goal.join_each-requires
join_each-requires c =
    let long : length (whole c.self.inside.chunks.items) ≡ length (whole c.other.inside.chunks.items) = omega
    (arith, c.self.invariant.1, c.other.invariant.1, c.if-self-other.false) in
    let s = alike_from_length _ _ c.self.invariant.0 c.other.invariant.0 long in
    rw (c.deref.ensures.value, c.deref-2.ensures.value) (alike_zip _ _ s)

pub returns-in_default : goal.returns-in_default
returns-in_default c =
    let v : whole c.self.inside.chunks.items ≡ c.args.self.now = c.self.view_is in
    let u : whole c.other.inside.chunks.items ≡ c.args.other.now = c.other.view_is in
    let long : length (whole c.self.inside.chunks.items) ≡ length (whole c.other.inside.chunks.items) = omega
    (arith, c.self.invariant.1, c.other.invariant.1, c.if-self-other.false) in
    let s = alike_from_length _ _ c.self.invariant.0 c.other.invariant.0 long in
    let none : ¬ AllZip (AllZip IsHeld) c.deref.result.now c.deref-2.result.now =
    rw c.in_default.is at c.in_ok-chunks.ensures in
    λ h.
    let held : AllZip IsHeld (whole c.self.inside.chunks.items) (whole c.other.inside.chunks.items) = rw (v, u) h in
    none (rw (c.deref.ensures.value, c.deref-2.ensures.value) (parts_held _ _ s held))

pub invariant_of-result : goal.invariant_of-result
invariant_of-result c =
    let j : Each AreJoins c.deref.result.now c.deref-2.result.now c.in-Some.chunks.items =
    rw c.in-Some.is at c.in_ok-chunks.ensures in
    let h : Each AreJoins c.self.inside.chunks.items c.other.inside.chunks.items c.in-Some.chunks.items =
    rw (← c.deref.ensures.value, ← c.deref-2.ensures.value) j in
    let s = joins_alike _ _ _ h in
    (chunks_alike _ _ s c.self.invariant.0, c.self.invariant.1 ∙ whole_alike _ _ s)

pub returns : goal.returns
returns c =
    let v : whole c.self.inside.chunks.items ≡ c.args.self.now = c.self.view_is in
    let u : whole c.other.inside.chunks.items ≡ c.args.other.now = c.other.view_is in
    let j : Each AreJoins c.deref.result.now c.deref-2.result.now c.in-Some.chunks.items =
    rw c.in-Some.is at c.in_ok-chunks.ensures in
    let h : Each AreJoins c.self.inside.chunks.items c.other.inside.chunks.items c.in-Some.chunks.items =
    rw (← c.deref.ensures.value, ← c.deref-2.ensures.value) j in
    rw (← v, ← u) (joins_whole _ _ _ h)
