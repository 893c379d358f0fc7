use Rattle.refusalsplant.proofs.Filed.{on_ok, shows_up}
use Rattle.refusalsplant.proofs.locks.receipts_show_the_bus_up.Goals as goal

pub returns : goal.returns
returns g c =
    on_ok c.up.result c.up.ensures.noted (λ filed. shows_up c.args.share.now c.up.new.share filed.0 0 filed.1)
