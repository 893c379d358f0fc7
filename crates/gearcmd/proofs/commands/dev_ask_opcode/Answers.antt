use Rattle.std.proofs.Common.{◌≡◌, ◌<◌, slice_index, ap, arith}
use Rattle.gearcmd.specs.Commands.{dev_ask_opcodes}
use Rattle.gearcmd.proofs.Tables.{dev_ask_class, dev_ask_rule}
use Rattle.gearcmd.proofs.commands.dev_ask_opcode.Goals as goal

pub returns-clause-value : goal.returns-clause-value
unfolding dev_ask_opcodes
returns-clause-value c =
    let e : c.from.result ≡ c.args.command = omega arith in ap (λ k. slice_index dev_ask_opcodes k) e

pub returns-clause-class : goal.returns-clause-class
unfolding dev_ask_opcodes
returns-clause-class c = let lt : c.from.result < 3 = omega arith in dev_ask_class c.from.result lt

pub returns-clause-all_of_class : goal.returns-clause-all_of_class
returns-clause-all_of_class c = dev_ask_rule
