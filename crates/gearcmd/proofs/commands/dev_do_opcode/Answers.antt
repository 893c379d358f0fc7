use Rattle.std.proofs.Common.{◌≡◌, ◌<◌, slice_index, ap, arith}
use Rattle.gearcmd.specs.Commands.{dev_do_opcodes}
use Rattle.gearcmd.proofs.Tables.{dev_do_class, dev_do_rule}
use Rattle.gearcmd.proofs.commands.dev_do_opcode.Goals as goal

pub returns-clause-value : goal.returns-clause-value
unfolding dev_do_opcodes
returns-clause-value c =
    let e : c.from.result ≡ c.args.command = omega arith in ap (λ k. slice_index dev_do_opcodes k) e

pub returns-clause-class : goal.returns-clause-class
unfolding dev_do_opcodes
returns-clause-class c = let lt : c.from.result < 2 = omega arith in dev_do_class c.from.result lt

pub returns-clause-all_of_class : goal.returns-clause-all_of_class
returns-clause-all_of_class c = dev_do_rule
