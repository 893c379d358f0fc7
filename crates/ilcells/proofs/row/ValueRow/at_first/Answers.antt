use Rattle.std.specs.Arc.{arc_value}
use Rattle.ilcells.proofs.Rows.{kinds_of_row}
use Rattle.ilcells.proofs.row.ValueRow.at_first.Goals as goal

pub returns : goal.returns
returns c = kinds_of_row (arc_value c.args.layout) c.in_ok-truths.truths.items c.in_ok-numbers.numbers.items
