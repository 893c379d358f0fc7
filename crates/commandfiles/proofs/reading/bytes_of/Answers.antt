use Rattle.commandfiles.proofs.FileFronts.{front_taken}
use Rattle.commandfiles.proofs.reading.bytes_of.Goals as goal

pub returns-in-Ok : goal.returns-in-Ok
returns-in-Ok g c =
    let known = g.R.Read.remaining c.args.reader in
    let read = rw (c.take.ensures.limit, c.take.ensures.inner) at c.in-Ok.ensures.bytes in
    front_taken known 1048577 c.new-bytes.result.items c.read_to_end.new.buf.items c.new-bytes.ensures.items read
