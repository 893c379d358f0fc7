use Rattle.daliwords.proofs.WrittenCommands.{written, one_command}
use Rattle.daliwords.proofs.reading.request_of.Goals as goal

pub returns-clause-command : goal.returns-clause-command
returns-clause-command c =
    written c.args.block.now c.args.address c.args.first c.args.second c.in_ok-of_name.field-0 c.in_ok-of_name.ensures c.command_of.result
    c.command_of.ensures

pub returns-clause-one : goal.returns-clause-one
returns-clause-one c = one_command c.args.block.now c.args.address c.args.first c.args.second
