use Rattle.std.proofs.Common.{ap, arith, length, length-append}
use Rattle.gearcmd.specs.FrameLists.{FrameList}
use Rattle.buslink.specs.BusLog.{BusLog}
use Rattle.refusalsbus.proofs.Attempting.{done_is_whole}
use Rattle.refusalsbus.proofs.performing.whole_transaction_is_sent_again.Goals as goal

pub returns : goal.returns
returns g c = λ done.
    let report = c.perform.result in
    let parts = c.perform.ensures.report in
    let whole = done_is_whole report c.args.reply parts.1 done in
    omega (
      arith,
      ap (λ (l : FrameList). length l.frames) parts.0,
      c.requires.frames,
      ap (λ (l : BusLog). length l.sent) c.perform.ensures.bus,
      length-append (g.B.Bus.log c.args.bus.now).sent report.attempts,
    )
