use Rattle.ilcode.specs.Words.{spelling}
use Rattle.ilcode.proofs.Spellings.{spelling_small}
use Rattle.ilcodefile.proofs.FieldLaws.{number_read}
use Rattle.ilcodefile.proofs.fields.word_at.Goals as goal

pub returns-clause-exact : goal.returns-clause-exact
returns-clause-exact c =
    λ w more held e.
    let read = number_read c.args.bytes.now more c.number_at-bits.result.1.now (spelling w) c.number_at-bits.result.0
    c.number_at-bits.ensures.value c.number_at-bits.ensures.rest (spelling_small w held) e in
    (c.unpack.ensures.exact w held read.0, read.1)
