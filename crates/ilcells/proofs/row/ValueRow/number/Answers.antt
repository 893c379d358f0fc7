use Rattle.std.proofs.Common.{◌∙◌, ℤ, pos, List, ap, get_or, to_z, of_z, w64}
use Rattle.std.proofs.lemmas.Int.{to_z-of_z}
use Rattle.std.specs.Arc.{arc_value}
use Rattle.iltypes.specs.declared.value.Value.TheVariants.{Int}
use Rattle.ilcells.specs.declared.place.BankPlace.TheVariants.{Number}
use Rattle.ilcells.proofs.RowAccess.{number_held, read_place}
use Rattle.ilcells.proofs.row.ValueRow.number.Goals as goal

pub number-requires : goal.number-requires
number-requires c =
    let f = c.self.inside in
    rw c.deref.ensures.value
    (number_held (arc_value f.layout) f.truths.items f.numbers.items c.args.self.now c.args.place c.self.invariant
    c.self.view_is c.requires)

pub returns : goal.returns
returns c =
    let f = c.self.inside in
    let is = to_z-of_z w64 c.number.result (record { sfits = c.number.type_inv }) ∙ c.number.ensures
    ∙ ap (λ (n : List ℤ). get_or n c.args.place (pos 0)) c.deref.ensures.value in
    λ slot e.
    read_place (arc_value f.layout) f.truths.items f.numbers.items c.args.self.now slot (Number c.args.place)
    (Int (to_z w64 (of_z w64 c.number.result))) c.self.view_is (ap Int is) e
