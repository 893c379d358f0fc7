use Rattle.std.proofs.Common.{Bool, List, subst}
use Rattle.std.specs.Arc.{arc_value}
use Rattle.ilcells.specs.Banks.{StandsAt}
use Rattle.ilcells.proofs.Rows.{place_held, row_at, slot_placed}
use Rattle.ilcells.proofs.row.ValueRow.get.Goals as goal

pub place-place-requires : goal.place-place-requires
place-place-requires c =
    let f = c.self.inside in
    slot_placed (arc_value f.layout) c.deref.result.now f.truths.items f.numbers.items c.args.self.now c.args.slot
    c.self.view_is c.deref.ensures c.requires

pub value-requires : goal.value-requires
value-requires c =
    let f = c.self.inside in
    let place = c.place-place.result in
    let e = subst (λ (ks : List Bool). StandsAt ks c.args.slot place) c.deref.ensures c.place-place.ensures in
    rw (c.deref-2.ensures.value, c.deref-3.ensures.value)
    (place_held (arc_value f.layout) f.truths.items f.numbers.items c.args.slot place c.self.invariant e)

pub returns : goal.returns
returns c =
    let f = c.self.inside in
    let place = c.place-place.result in
    let e = subst (λ (ks : List Bool). StandsAt ks c.args.slot place) c.deref.ensures c.place-place.ensures in
    rw (c.value.ensures, c.deref-2.ensures.value, c.deref-3.ensures.value, ← c.self.view_is)
    (row_at (arc_value f.layout) f.truths.items f.numbers.items c.args.slot place e)
