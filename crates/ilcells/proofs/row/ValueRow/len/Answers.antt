use Rattle.std.proofs.Common.{◌∙◌, length, sym, ap}
use Rattle.std.specs.Arc.{arc_value}
use Rattle.ilcells.proofs.Rows.{length_row}
use Rattle.ilcells.proofs.row.ValueRow.len.Goals as goal

pub returns : goal.returns
returns c =
    let f = c.self.inside in
    c.len.ensures ∙ ap length c.deref.ensures
    ∙ sym (length_row (arc_value f.layout) f.truths.items f.numbers.items) ∙ ap length c.self.view_is
