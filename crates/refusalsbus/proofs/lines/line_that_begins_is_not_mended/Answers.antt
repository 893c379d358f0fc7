use Rattle.std.proofs.Common.{◌∙◌}
use Rattle.refusalsbus.proofs.Logs.{begun}
use Rattle.refusalsbus.proofs.lines.line_that_begins_is_not_mended.Goals as goal

pub returns : goal.returns
returns g c =
    c.mend.ensures.when ∙ begun c.args.bus.now c.begin.new.self c.args.greeted c.begin.ensures c.requires
