use Rattle.std.proofs.Common.{codes, subst}
use Rattle.clap.specs.Words.{first_of, found_of, rows_of}
use Rattle.commandline.specs.Invocations.{IsOfCommand, IsOfTool}
use Rattle.commandline.specs.declared.invocations.Invocation.{Invocation}
use Rattle.commandline.specs.declared.tools.Tool.{Tool}
use Rattle.refusalsload.proofs.Listed.{read_first}
use Rattle.refusalsload.proofs.lists.first_path_is_read.Goals as goal

pub returns-in-Ok-Tool-Blink : goal.returns-in-Ok-Tool-Blink
returns-in-Ok-Tool-Blink c =
    let rows = rows_of (found_of c.args.found.now) in
    let made = c.in-Ok-Tool-Blink in
    let tool = subst (λ (i : Invocation). IsOfCommand (codes "blink") rows i) made.field-0-is made.ensures in
    let blink = subst (λ (t : Tool). IsOfTool (codes "blink") rows t) made.field-0-0-is tool in
    read_first (first_of (codes "line") rows) made.line.from.now _ c.requires blink.1.paths
