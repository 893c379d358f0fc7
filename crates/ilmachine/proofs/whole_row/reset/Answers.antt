use Rattle.std.proofs.Common.{◌≤◌, ◌∙◌, Some, sym, ap, arith}
use Rattle.std.proofs.lemmas.Option.{slice_get-get_or}
use Rattle.ilmachine.proofs.WholeRows.{reset_may, reset_more}
use Rattle.ilmachine.proofs.whole_row.reset.Goals as goal

pub set-requires : goal.set-requires
set-requires c =
    let l = c.loop-slot in
    let ts = c.args.types.now in
    let is = slice_get-get_or ts l.slot _ c.loop-slot-test.true ∙ ap Some (sym c.index-types-slot.is) in
    let from : c.args.from ≤ l.slot = omega (arith, l.auto.slot) in
    reset_may c.args.from l.slot c.args.row.now l.row ts c.index-types-slot.result c.least_of.result c.requires.kinds
    l.invariant from c.loop-slot-test.true is c.least_of.ensures

pub loop-slot-preserved : goal.loop-slot-preserved
loop-slot-preserved c =
    let l = c.loop-slot in
    let ts = c.args.types.now in
    let is = slice_get-get_or ts l.slot _ c.loop-slot-test.true ∙ ap Some (sym c.index-types-slot.is) in
    let from : c.args.from ≤ l.slot = omega (arith, l.auto.slot) in
    reset_more c.args.from l.slot c.args.row.now l.row c.set.new.self ts c.index-types-slot.result c.least_of.result
    c.requires.kinds l.invariant from c.loop-slot-test.true is c.least_of.ensures c.set.ensures
