use Rattle.std.proofs.Common.{◌≡◌, Bool, List, sym, subst}
use Rattle.std.specs.Prelude.{slice_get}
use Rattle.std.specs.Option.{IsSomeAnd}
use Rattle.std.specs.Arc.{arc_value}
use Rattle.iltypes.specs.declared.value.Value.{Value}
use Rattle.ilcells.specs.Cells.{is_number_of}
use Rattle.ilcells.specs.Banks.{StandsAt}
use Rattle.ilcells.proofs.Rows.{place_held, kind_in_slot, slot_placed, slot_there, row_written}
use Rattle.ilcells.proofs.row.ValueRow.set.Goals as goal

pub place-place-requires : goal.place-place-requires
place-place-requires c =
    let f = c.self.inside in
    slot_placed (arc_value f.layout) c.deref.result.now f.truths.items f.numbers.items c.args.self.now c.args.slot
    c.self.view_is c.deref.ensures (slot_there c.args.self.now c.args.slot _ c.requires)

pub put-requires-clause-there : goal.put-requires-clause-there
put-requires-clause-there c =
    let f = c.self.inside in
    let place = c.place-place.result in
    let e = subst (λ (ks : List Bool). StandsAt ks c.args.slot place) c.deref.ensures c.place-place.ensures in
    place_held (arc_value f.layout) f.truths.items f.numbers.items c.args.slot place c.self.invariant e

pub put-requires-clause-kind : goal.put-requires-clause-kind
put-requires-clause-kind c =
    let f = c.self.inside in
    let place = c.place-place.result in
    let e = subst (λ (ks : List Bool). StandsAt ks c.args.slot place) c.deref.ensures c.place-place.ensures in
    kind_in_slot (arc_value f.layout) f.truths.items f.numbers.items c.args.slot place c.args.value e
    (subst (λ (row : List Value). IsSomeAnd (slice_get row c.args.slot)
    (λ (was : Value). is_number_of was ≡ is_number_of c.args.value)) (sym c.self.view_is) c.requires)

pub returns : goal.returns
returns c =
    let f = c.self.inside in
    let place = c.place-place.result in
    let e = subst (λ (ks : List Bool). StandsAt ks c.args.slot place) c.deref.ensures c.place-place.ensures in
    rw (← c.self.view_is)
    (row_written (arc_value f.layout) f.truths.items c.put.new.truths.items f.numbers.items c.put.new.numbers.items
    c.args.slot place c.args.value e c.put.ensures.written c.put.ensures.others)
