use Rattle.std.proofs.Common.{arith, ◌≡◌, ◌<◌, ◌≤◌, length, sym, ap, ◌∙◌}
use Rattle.std.specs.Prelude.{slice_get, ◌%◌}
use Rattle.std.proofs.lemmas.Option.{slice_get_past}
use Rattle.ilverify.specs.ChunkSteps.{whole}
use Rattle.ilverify.proofs.ChunkPlaces.{place_of, place_read}
use Rattle.ilverify.proofs.slots.Slots.get.Goals as goal

pub index-requires : goal.index-requires
index-requires c =
    let l : c.args.slot < length (whole c.self.inside.chunks.items) = omega
    (arith, c.if-slot-self.true, c.self.invariant.1) in
    let p = place_of c.self.inside.chunks.items c.args.slot c.self.invariant.0 l in
    let i = p.inside in omega arith

pub get-requires : goal.get-requires
get-requires c =
    let l : c.args.slot < length (whole c.self.inside.chunks.items) = omega
    (arith, c.if-slot-self.true, c.self.invariant.1) in
    let p = place_of c.self.inside.chunks.items c.args.slot c.self.invariant.0 l in
    rw (← place_read _ _ _ _ p c.index.result.now c.index.ensures) p.within

pub returns-then-slot-self : goal.returns-then-slot-self
returns-then-slot-self c =
    let v : whole c.self.inside.chunks.items ≡ c.args.self.now = c.self.view_is in
    let l : c.args.slot < length (whole c.self.inside.chunks.items) = omega
    (arith, c.if-slot-self.true, c.self.invariant.1) in
    let p = place_of c.self.inside.chunks.items c.args.slot c.self.invariant.0 l in
    let e = place_read _ _ _ _ p c.index.result.now c.index.ensures in
    record {
      value = rw (← v) (sym (p.same ∙ (ap (λ x. slice_get x (c.args.slot % 64)) e ∙ c.get.ensures)));
    }

pub returns-else-slot-self : goal.returns-else-slot-self
returns-else-slot-self c =
    let v : whole c.self.inside.chunks.items ≡ c.args.self.now = c.self.view_is in
    let l : length (whole c.self.inside.chunks.items) ≤ c.args.slot = omega
    (arith, c.if-slot-self.false, c.self.invariant.1) in
    record { value = rw (← v) (sym (slice_get_past (whole c.self.inside.chunks.items) c.args.slot l)) }
