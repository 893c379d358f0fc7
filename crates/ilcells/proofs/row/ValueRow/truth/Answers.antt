use Rattle.std.proofs.Common.{◌∙◌, ℕ, List, ap}
use Rattle.std.specs.Arc.{arc_value}
use Rattle.iltypes.specs.declared.value.Value.TheVariants.{Bool}
use Rattle.ilcells.specs.declared.place.BankPlace.TheVariants.{Truth}
use Rattle.ilcells.specs.Banks.{truth_at}
use Rattle.ilcells.proofs.RowAccess.{truth_held, read_place}
use Rattle.ilcells.proofs.row.ValueRow.truth.Goals as goal

pub truth-requires : goal.truth-requires
truth-requires c =
    let f = c.self.inside in
    rw c.deref.ensures.value
    (truth_held (arc_value f.layout) f.truths.items f.numbers.items c.args.self.now c.args.place c.self.invariant
    c.self.view_is c.requires)

pub returns : goal.returns
returns c =
    let f = c.self.inside in
    let is = c.truth.ensures ∙ ap (λ (t : List ℕ). truth_at t c.args.place) c.deref.ensures.value in
    λ slot e.
    read_place (arc_value f.layout) f.truths.items f.numbers.items c.args.self.now slot (Truth c.args.place)
    (Bool c.truth.result) c.self.view_is (ap Bool is) e
