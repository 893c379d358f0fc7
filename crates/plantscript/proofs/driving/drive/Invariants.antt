use Rattle.std.proofs.Common.{◌≡◌, length, take, vec_len, vec_capacity}
use Rattle.plant.specs.Shown.{opened}
use Rattle.plantscript.specs.Runs.{Run}
use Rattle.plantscript.proofs.driving.drive.Given as goal

abbrev pub invariant-loop-step : goal.invariant-loop-step
invariant-loop-step l =
    Run (opened l.fn.setup l.fn.workers l.fn.limit) (take l.step-index l.steps) l.replies.items l.stepped
    × (vec_len l.replies ≡ l.step-index) × (vec_capacity l.replies ≡ length l.steps)
