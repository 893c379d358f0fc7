use Rattle.std.proofs.Common.{◌≡◌, arith}
use Rattle.planttallies.specs.SeatTallies.{number}
use Rattle.planttallies.proofs.Changing.{kept}
use Rattle.planttallies.proofs.all_groups.LockTalliesTalliesThreadTally.audit.Goals as goal

pub returns-clause-tallies : goal.returns-clause-tallies
returns-clause-tallies g c =
    let e = c.change.ensures in
    let same : c.change.new.tally.amount ≡ number c.args.self.now c.args.tally.now.seat =
    omega (arith, e.amount, e.same) in
    kept c.args.self.now c.change.new.self c.args.tally.now.seat c.change.new.tally.amount same e.rows
