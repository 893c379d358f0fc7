use Rattle.std.proofs.Common.{ap}
use Rattle.std.specs.Arc.{arc_value}
use Rattle.iltypes.specs.declared.value.Value.TheVariants.{Bool}
use Rattle.ilcells.specs.declared.place.BankPlace.TheVariants.{Truth}
use Rattle.ilcells.proofs.RowAccess.{truth_held, write_place, truth_apart}
use Rattle.ilcells.proofs.row.ValueRow.set_truth.Goals as goal

pub put_truth-requires : goal.put_truth-requires
put_truth-requires c =
    let f = c.self.inside in
    truth_held (arc_value f.layout) f.truths.items f.numbers.items c.args.self.now c.args.place c.self.invariant
    c.self.view_is c.requires

pub returns : goal.returns
returns c =
    let f = c.self.inside in
    let after = c.put_truth.new.words.items in
    λ slot e.
    write_place (arc_value f.layout) f.truths.items after f.numbers.items f.numbers.items c.args.self.now slot
    (Truth c.args.place) (Bool c.args.truth) c.self.view_is (ap Bool c.put_truth.ensures.written)
    (truth_apart f.truths.items after f.numbers.items c.args.place c.put_truth.ensures.others) e
