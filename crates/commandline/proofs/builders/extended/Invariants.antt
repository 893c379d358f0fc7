use Rattle.std.proofs.Common.{◌≡◌, drop, false}
use Rattle.clap.specs.Words.{app_of}
use Rattle.clap.specs.declared.builder.command.Command.TheViews.{out-Command}
use Rattle.commandline.specs.Tables.{with_commands}
use Rattle.commandline.proofs.builders.extended.Given as goal

-- the line so far, and the commands that are left
abbrev pub invariant-loop-command : goal.invariant-loop-command
invariant-loop-command l =
    (with_commands (app_of l.line) (drop l.command-index l.commands) ≡ with_commands (app_of l.fn.begun) l.commands)
    × ((out-Command l.line).has_globals ≡ false)
