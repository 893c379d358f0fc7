use Rattle.ilcodefile.proofs.FirstFaults.{bad_field}
use Rattle.ilcodefile.proofs.decoding.read.Goals as goal

pub returns-in-Ok-None-clause-only : goal.returns-in-Ok-None-clause-only
returns-in-Ok-None-clause-only c = λ code is. rw c.in-Ok-None.field-0-is at (c.in-Ok-None.ensures.exact code is)

pub returns-in-Ok-None-clause-fault : goal.returns-in-Ok-None-clause-fault
returns-in-Ok-None-clause-fault c =
    bad_field c.args.bytes.now c.requires.shaped
    (λ is. rw c.in-Ok-None.field-0-is at (c.in-Ok-None.ensures.exact is.0 is.1))
