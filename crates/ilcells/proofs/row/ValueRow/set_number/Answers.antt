use Rattle.std.proofs.Common.{◌∙◌, ◌≡◌, ◌≢◌, ℤ, pos, List, ap, sym, subst, get_or, get_or-set_same, w64}
use Rattle.std.proofs.lemmas.Int.{to_z-of_z}
use Rattle.std.specs.Prelude.{slice_set}
use Rattle.std.specs.Arc.{arc_value}
use Rattle.iltypes.specs.declared.value.Value.TheVariants.{Int}
use Rattle.ilcells.specs.declared.place.BankPlace.{BankPlace}
use Rattle.ilcells.specs.declared.place.BankPlace.TheVariants.{Number}
use Rattle.ilcells.specs.Banks.{value_at}
use Rattle.ilcells.proofs.RowAccess.{number_held, write_place, number_apart}
use Rattle.ilcells.proofs.row.ValueRow.set_number.Goals as goal

pub put_number-requires : goal.put_number-requires
put_number-requires c =
    let f = c.self.inside in
    number_held (arc_value f.layout) f.truths.items f.numbers.items c.args.self.now c.args.place c.self.invariant
    c.self.view_is c.requires

pub returns : goal.returns
returns c =
    let f = c.self.inside in
    let place = c.args.place in
    let number = c.args.number in
    let truths = f.truths.items in
    let numbers = f.numbers.items in
    let row = c.args.self.now in
    let within = number_held (arc_value f.layout) truths numbers row place c.self.invariant c.self.view_is c.requires in
    let e = c.put_number.ensures ∙ ap (slice_set numbers place) (to_z-of_z w64 number c.ranges.number) in
    let apart = subst (λ (n : List ℤ). (other : BankPlace) → other ≢ Number place
    → value_at truths n other ≡ value_at truths numbers other) (sym e) (number_apart truths numbers place number) in
    λ slot s.
    write_place (arc_value f.layout) truths truths numbers c.put_number.new.numbers.items row slot (Number place)
    (Int number) c.self.view_is
    (ap (λ (n : List ℤ). Int (get_or n place (pos 0))) e
    ∙ ap Int (get_or-set_same numbers place number (pos 0) within)) apart s
