use Rattle.ilcodefile.proofs.FirstFaults.{no_fault}
use Rattle.ilcodefile.proofs.decoding.decode.Goals as goal

pub returns-in-Err-clause-only : goal.returns-in-Err-clause-only
returns-in-Err-clause-only c =
    λ code is. no_fault c.args.bytes.now c.in-Err.cause c.in-Err.ensures.err (code, is)
