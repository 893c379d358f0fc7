use Rattle.std.proofs.Common.{◌≡◌, ◌<◌, slice_index, ap, arith}
use Rattle.gearcmd.specs.Commands.{gear_pair_opcodes}
use Rattle.gearcmd.proofs.Tables.{gear_pair_class, gear_pair_rule}
use Rattle.gearcmd.proofs.commands.gear_pair_opcode.Goals as goal

pub returns-clause-value : goal.returns-clause-value
unfolding gear_pair_opcodes
returns-clause-value c =
    let e : c.from.result ≡ c.args.command = omega arith in ap (λ k. slice_index gear_pair_opcodes k) e

pub returns-clause-class : goal.returns-clause-class
unfolding gear_pair_opcodes
returns-clause-class c = let lt : c.from.result < 50 = omega arith in gear_pair_class c.from.result lt

pub returns-clause-all_of_class : goal.returns-clause-all_of_class
returns-clause-all_of_class c = gear_pair_rule
