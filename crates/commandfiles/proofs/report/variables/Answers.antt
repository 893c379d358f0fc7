use Rattle.std.specs.Prelude.{option_map}
use Rattle.textanswers.specs.Printed.{printed_variable}
use Rattle.commandfiles.specs.Reports.{variable_line}
use Rattle.commandfiles.proofs.ReportedLines.{one_line_more, variable_is}
use Rattle.commandfiles.proofs.report.variables.Goals as goal

pub loop-slot-preserved : goal.loop-slot-preserved
loop-slot-preserved g c =
    let line = c.variable_line in
    let shown = line.result in
    let before = g.W.Write.contents c.args.out.now in
    let so_far = g.W.Write.contents c.loop-slot.out in
    let instance = option_map (λ name. name.bytes.now) shown.name.instance in
    let text = printed_variable instance shown.name.variable.bytes.now shown.value in
    let is = variable_is c.args.made.now.setup.plan _ _ _ _ shown.value line.ensures.instance line.ensures.variable
    line.ensures.value in
    one_line_more before so_far (g.W.Write.contents c.writeln.new.self) (variable_line c.args.made.now) c.loop-slot.slot
    text c.loop-slot.invariant c.in_ok-writeln.ensures.bytes is
