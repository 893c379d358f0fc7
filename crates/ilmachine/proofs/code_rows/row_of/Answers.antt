use Rattle.std.proofs.Common.{◌∙◌, List, take, length, sym, ap, arith}
use Rattle.std.proofs.lemmas.List.{length-take-le}
use Rattle.iltypes.specs.declared.value.IlType.{IlType}
use Rattle.ilverify.specs.Listings.{lasting_types}
use Rattle.ilcells.specs.Banks.{kinds_of_types}
use Rattle.ilmachine.proofs.RowKinds.{kinds_are}
use Rattle.ilmachine.proofs.LastingSlots.{lasting_within, lasting_front}
use Rattle.ilmachine.proofs.code_rows.row_of.Goals as goal

pub slice_bounds-of-end : goal.slice_bounds-of-end
slice_bounds-of-end c =
    let values = c.args.values.now in
    let within = lasting_within c.args.code.now values c.requires in
    let long = ap length c.slots.ensures.value in
    sym (length-take-le (length values) c.slots.result.now (omega (arith, within, long)))

pub of-requires-2 : goal.of-requires-2
of-requires-2 c =
    let values = c.args.values.now in
    let code = c.args.code.now in
    kinds_are values (lasting_types code) c.requires
    ∙ ap kinds_of_types (sym (lasting_front code values c.requires))
    ∙ ap (λ (ts : List IlType). kinds_of_types (take (length values) ts)) (sym c.slots.ensures.value)
    ∙ sym c.in_ok-layout.ensures ∙ sym c.in_ok-new.ensures.ok
