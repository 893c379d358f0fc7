use Rattle.std.proofs.Common.{map}
use Rattle.plant.specs.Shown.{plant_of}
use Rattle.plantlive.proofs.Since.{has_lived, since_run}
use Rattle.plantlive.proofs.living.live.Goals as goal

pub returns : goal.returns
returns g c =
    let setup = c.args.opening.setup in let workers = c.args.workers in let limit = c.args.opening.limit in
    let buses = c.args.buses.items in let clock = c.args.clock in
    let left = c.in_ok-left.left in let run = c.in_ok-left.ensures.run in
    let bus_log = g.B.Bus.log in let clock_log = g.C.Clock.log in
    record {
      lived =
          has_lived bus_log clock_log setup workers limit buses clock left c.go_on_while_full.result run
          (c.go_on_while_full.ensures.since (plant_of setup workers) (map bus_log buses) (clock_log clock)
          (since_run bus_log clock_log setup workers limit buses clock left run))
          c.go_on_while_full.ensures.why;
    }
