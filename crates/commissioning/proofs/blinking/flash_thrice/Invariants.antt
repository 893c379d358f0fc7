use Rattle.commissioning.specs.Blinking.{Asks, IsFlash}
use Rattle.commissioning.specs.Surveys.{AreParts}
use Rattle.commissioning.proofs.blinking.flash_thrice.Given as goal

abbrev pub invariant-loop-time : goal.invariant-loop-time
invariant-loop-time g l =
    Asks (AreParts (λ time. IsFlash l.address) l._time) (g.B.Bus.log l.initial.bus) (g.B.Bus.log l.bus)
