use Rattle.std.proofs.Common.{◌≡◌, vec_capacity}
use Rattle.plantrun.proofs.Unstaged.{AreOff}
use Rattle.plantrun.proofs.staging.buses_off_stage.Given as goal

abbrev pub invariant-loop-bus : goal.invariant-loop-bus
invariant-loop-bus g l =
    AreOff g.S.Scene.statements l.fn.staged.items l.buses.items l.staged.items l._bus
    × (vec_capacity l.buses ≡ vec_capacity l.fn.room)
