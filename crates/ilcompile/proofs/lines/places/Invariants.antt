use Rattle.std.proofs.Common.{◌≡◌, ◌++◌, drop}
use Rattle.ilcompile.specs.Layout.{places_of_programs, programs_of}
use Rattle.ilcompile.proofs.lines.places.Given as goal

abbrev pub invariant-loop-instance : goal.invariant-loop-instance
invariant-loop-instance l =
    l.places.items ++ places_of_programs (programs_of (drop l.instance-index l.instances))
    ≡ places_of_programs (programs_of l.instances)
