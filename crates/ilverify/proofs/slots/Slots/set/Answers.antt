use Rattle.std.proofs.Common.{arith, ◌≡◌, ◌<◌, length, sym, ap, ◌∙◌}
use Rattle.std.specs.Prelude.{slice_set, ◌/◌, ◌%◌}
use Rattle.std.proofs.lemmas.List.{set-get_or}
use Rattle.std.proofs.lemmas.Result.{on_ok_weaker, on_err_weaker}
use Rattle.ilverify.specs.ChunkSteps.{whole}
use Rattle.ilverify.proofs.ChunkPlaces.{place_of, place_read, either_long, alike_set, chunks_alike, whole_alike}
use Rattle.ilverify.proofs.slots.Slots.set.Goals as goal

pub index_mut-requires : goal.index_mut-requires
index_mut-requires c =
    let l : c.args.slot < length (whole c.self.inside.chunks.items) = omega
    (arith, c.if-slot-self.true, c.self.invariant.1) in
    let p = place_of c.self.inside.chunks.items c.args.slot c.self.invariant.0 l in
    let i = p.inside in omega arith

pub set-requires : goal.set-requires
set-requires c =
    let l : c.args.slot < length (whole c.self.inside.chunks.items) = omega
    (arith, c.if-slot-self.true, c.self.invariant.1) in
    let p = place_of c.self.inside.chunks.items c.args.slot c.self.invariant.0 l in
    rw (← place_read _ _ _ _ p c.index_mut.result.now c.index_mut.ensures.value) p.within

pub invariant_of-self : goal.invariant_of-self
invariant_of-self c =
    let l : c.args.slot < length (whole c.self.inside.chunks.items) = omega
    (arith, c.if-slot-self.true, c.self.invariant.1) in
    let p = place_of c.self.inside.chunks.items c.args.slot c.self.invariant.0 l in
    let e : p.chunk ≡ c.index_mut.result.now =
    place_read _ _ _ _ p c.index_mut.result.now c.index_mut.ensures.value in
    let m : length c.set.new.self ≡ length p.chunk =
    rw e (either_long c.set.result _ _ _ _ c.set.ensures.ok c.set.ensures.err) in
    let s = alike_set _ _ p.chunk c.set.new.self p.is m in
    (chunks_alike _ _ s c.self.invariant.0, c.self.invariant.1 ∙ whole_alike _ _ s)

pub returns-then-slot-self-clause-ok : goal.returns-then-slot-self-clause-ok
returns-then-slot-self-clause-ok c =
    let v : whole c.self.inside.chunks.items ≡ c.args.self.now = c.self.view_is in
    let l : c.args.slot < length (whole c.self.inside.chunks.items) = omega
    (arith, c.if-slot-self.true, c.self.invariant.1) in
    let p = place_of c.self.inside.chunks.items c.args.slot c.self.invariant.0 l in
    let e : p.chunk ≡ c.index_mut.result.now =
    place_read _ _ _ _ p c.index_mut.result.now c.index_mut.ensures.value in
    on_ok_weaker c.set.result
    (λ (f : c.set.new.self ≡ slice_set c.index_mut.result.now (c.args.slot % 64) c.args.known).
    ap (λ x. whole (slice_set c.self.inside.chunks.items (c.args.slot / 64) x))
    (f ∙ ap (λ y. slice_set y (c.args.slot % 64) c.args.known) (sym e))
    ∙ (sym (p.with_other c.args.known) ∙ ap (λ y. slice_set y c.args.slot c.args.known) v))
    c.set.ensures.ok

pub returns-then-slot-self-clause-err : goal.returns-then-slot-self-clause-err
returns-then-slot-self-clause-err c =
    let parts = c.self.inside.chunks.items in
    let was = c.index_mut.result.now in
    on_err_weaker c.set.result
    (λ (f : c.set.new.self ≡ was).
    ap (λ x. whole (slice_set parts (c.args.slot / 64) x)) (f ∙ c.index_mut.ensures.value)
    ∙ (ap whole (set-get_or parts (c.args.slot / 64) was) ∙ c.self.view_is))
    c.set.ensures.err
