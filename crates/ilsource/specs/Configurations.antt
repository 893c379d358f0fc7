-- Configurations as contracts see them (IEC 61131-3, 2.4.3 and 2.7.1).
use Rattle.std.specs.Prelude.{List, Option}
use Rattle.ilsource.specs.declared.address.DirectAddress.{DirectAddress}
use Rattle.ilsource.specs.declared.configuration.InstanceDeclaration.{InstanceDeclaration}
use Rattle.ilsource.specs.declared.configuration.TaskDeclaration.{TaskDeclaration}
use Rattle.ilsource.specs.declared.declaration.Constant.{Constant}
use Rattle.ilsource.specs.declared.declaration.Specification.{Specification}
use Rattle.ilsource.specs.declared.name.Name.{Name}

-- global variables that are declared together: where they are located, and their type and initial value as written
pub record DeclaredGlobals : Type 0 where
  pub names : List Name
  pub address : Option DirectAddress
  pub specification : Specification
  pub initial : Option Constant

abbrev pub globals_of : List Name → Option DirectAddress → Specification → Option Constant → DeclaredGlobals
globals_of names address specification initial =
    record { names = names; address = address; specification = specification; initial = initial }

-- a configuration as it is written
pub record Configured : Type 0 where
  pub globals : List DeclaredGlobals
  pub tasks : List TaskDeclaration
  pub instances : List InstanceDeclaration

abbrev pub configured_of : List DeclaredGlobals → List TaskDeclaration → List InstanceDeclaration → Configured
configured_of globals tasks instances = record { globals = globals; tasks = tasks; instances = instances }
