use Rattle.plantevents.proofs.Showing.{moment_shown, scan_shown, hand_shown, down_shown}
use Rattle.plantevents.proofs.laws.what_a_part_shows.Goals as goal

pub returns-clause-clock : goal.returns-clause-clock
returns-clause-clock c = moment_shown

pub returns-clause-worker : goal.returns-clause-worker
returns-clause-worker c = scan_shown

pub returns-clause-hand : goal.returns-clause-hand
returns-clause-hand c = hand_shown

pub returns-clause-down : goal.returns-clause-down
returns-clause-down c = down_shown
