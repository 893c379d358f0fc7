use Rattle.ilcells.proofs.Bits.{bit_written, bit_others}
use Rattle.ilcells.proofs.bank.put_bit.Goals as goal

pub returns-clause-written : goal.returns-clause-written
returns-clause-written c =
    bit_written c.args.words.now c.args.place c.with_bit.result c.args.truth c.requires c.with_bit.ensures.written

pub returns-clause-others : goal.returns-clause-others
returns-clause-others c =
    bit_others c.args.words.now c.args.place c.with_bit.result c.requires c.with_bit.ensures.others
