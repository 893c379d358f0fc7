use Rattle.std.proofs.Common.{◌≡◌, drop}
use Rattle.std.specs.Prelude.{find}
use Rattle.plant.proofs.BoundOn.{has_number}
use Rattle.plant.proofs.inputs.source_number.Given as goal

abbrev pub invariant-loop-i : goal.invariant-loop-i
invariant-loop-i l =
    find (has_number l.sources l.number) (drop l.i-index l.numbers) ≡ find (has_number l.sources l.number) l.numbers
