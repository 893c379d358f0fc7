use Rattle.std.proofs.Common.{◌≡◌, ◌<◌, slice_index, ap, arith}
use Rattle.gearcmd.specs.Commands.{gear_set_opcodes}
use Rattle.gearcmd.proofs.Tables.{gear_set_class, gear_set_rule}
use Rattle.gearcmd.proofs.commands.gear_set_opcode.Goals as goal

pub returns-clause-value : goal.returns-clause-value
unfolding gear_set_opcodes
returns-clause-value c =
    let e : c.from.result ≡ c.args.command = omega arith in ap (λ k. slice_index gear_set_opcodes k) e

pub returns-clause-class : goal.returns-clause-class
unfolding gear_set_opcodes
returns-clause-class c = let lt : c.from.result < 23 = omega arith in gear_set_class c.from.result lt

pub returns-clause-all_of_class : goal.returns-clause-all_of_class
returns-clause-all_of_class c = gear_set_rule
