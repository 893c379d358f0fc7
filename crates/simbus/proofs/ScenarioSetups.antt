-- What a statement says of gear on a bus.
use Rattle.std.proofs.Common.{◌≡◌, ℕ, List, Some, arith}
use Rattle.std.specs.Prelude.{◌==◌, if◌then◌else◌, None}
use Rattle.std.proofs.lemmas.Bool.Decides.{nat_tests}
use Rattle.wordlines.specs.declared.statements.GearStart.{GearStart}
use Rattle.wordlines.specs.declared.statements.Statement.{Statement}
use Rattle.wordlines.specs.declared.statements.Statement.TheVariants as statement
use Rattle.simbus.specs.declared.gears.Gear.{Gear}
use Rattle.simbus.specs.Setups.{gear_with_lamp, gear_on}

same_bus : (on bus : ℕ) (gear : Gear) → on ≡ bus → Some gear ≡ (if on == bus then Some gear else None)
same_bus on bus gear same = grind (arith, nat_tests)

pub gear_declared : (bus : ℕ) (statements : List Statement) (it : Statement) (on short : ℕ) (start : GearStart)
    (gear : Gear) → it ≡ statement.Gear on short start → on ≡ bus
    → gear ≡ gear_with_lamp bus statements short start → Some gear ≡ gear_on bus statements it
gear_declared bus statements it on short start gear is same so =
    rw (is, so) (same_bus on bus (gear_with_lamp bus statements short start) same)
