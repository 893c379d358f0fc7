use Rattle.refusalslive.proofs.Installed.{given_up}
use Rattle.refusalslive.proofs.installing.lost_query_to_all_is_sent_three_times.Goals as goal

pub returns : goal.returns
returns g c =
    given_up c.ask_unaddressed.result (g.B.Bus.log c.args.bus.now) (g.B.Bus.log c.ask_unaddressed.new.bus)
    c.ask_unaddressed.ensures.asked c.requires
