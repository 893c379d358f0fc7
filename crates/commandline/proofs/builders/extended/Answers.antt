use Rattle.std.proofs.Common.{◌∙◌, ◌+◌, ap, drop, refl, sym}
use Rattle.std.proofs.lemmas.List.{at_drop_more, drop_all}
use Rattle.clap.specs.Words.{App, app_of}
use Rattle.commandline.specs.Tables.{with_commands}
use Rattle.commandline.proofs.builders.extended.Goals as goal

pub loop-command-preserved : goal.loop-command-preserved
unfolding with_commands
loop-command-preserved c =
    let line = app_of c.loop-command.line in
    let commands = c.args.commands.now in
    let at = c.loop-command.command-index in
    let added = c.in_ok-line.ensures.shape line _ refl c.command_of.ensures.shape in
    let more = ap (λ (app : App). with_commands app (drop (at + 1) commands)) added in
    let before = at_drop_more (with_commands line) commands at _ c.loop-command-test.true in
    (more ∙ sym before ∙ c.loop-command.invariant.0, c.in_ok-line.ensures.local)

pub returns-clause-shape : goal.returns-clause-shape
unfolding with_commands
returns-clause-shape c =
    let commands = c.args.commands.now in
    let none = drop_all c.loop-command.command-index commands c.loop-command-test.false in
    λ line is. sym (ap (with_commands (app_of c.loop-command.line)) none)
    ∙ (c.loop-command.invariant.0 ∙ ap (λ (app : App). with_commands app commands) is)
