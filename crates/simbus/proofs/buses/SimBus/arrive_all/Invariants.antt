use Rattle.std.proofs.Common.{◌≡◌, length}
use Rattle.simbus.specs.Simulated.{all_arrived, later_in}
use Rattle.simbus.proofs.buses.SimBus.arrive_all.Given as goal

abbrev pub invariant-loop : goal.invariant-loop
invariant-loop l = all_arrived l.self ≡ all_arrived l.fn.self

abbrev pub decreases-loop : goal.decreases-loop
decreases-loop l = length (later_in l.self.log.arrivals)
