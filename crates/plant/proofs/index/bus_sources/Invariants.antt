use Rattle.std.proofs.Common.{◌≡◌, ◌++◌, drop}
use Rattle.plant.specs.IndexSteps.{numbers_on}
use Rattle.plant.proofs.index.bus_sources.Given as goal

-- the numbers so far, and then those of the sources that are left
abbrev pub invariant-loop-number : goal.invariant-loop-number
invariant-loop-number l =
    l.numbers.items ++ numbers_on l.bus l.number (drop l.number l.sources) ≡ numbers_on l.bus 0 l.sources
