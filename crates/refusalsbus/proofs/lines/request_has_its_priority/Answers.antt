use Rattle.std.proofs.Common.{◌++◌}
use Rattle.std.specs.Io.KnownBytes.{Appends}
use Rattle.liveline.specs.Exchanges.{IsExchange}
use Rattle.liveline.specs.Lines.{IsReply, line_end, send_line}
use Rattle.refusalsbus.proofs.Logs.{if_ok}
use Rattle.refusalsbus.proofs.lines.request_has_its_priority.Goals as goal

pub returns : goal.returns
returns g c =
    let old = c.args.bus.now in
    let new = c.send.new.self in
    let line = send_line c.args.frame 3 in
    if_ok (λ reply. IsExchange line (λ answer. IsReply reply answer) old new)
    (λ reply. Appends old.written new.written (line ++ line_end)) c.send.result c.send.ensures.asked
    (λ reply said. said.request)
