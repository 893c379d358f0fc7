-- How faults of names are printed (profile).
use Rattle.std.specs.Prelude.{ℕ, List, ◌++◌, codes}
use Rattle.std.specs.Fmt.{decimal}
use Rattle.ildeclared.specs.Causes.{name_fault_number}
use Rattle.ildeclared.specs.declared.fault.NameFault.{NameFault}
use Rattle.ildeclared.specs.declared.fault.NameFault.TheVariants.{Memory, At}

-- the cause's number, and line and column, both counted from 1
abbrev pub printed_name_fault : NameFault → List ℕ
printed_name_fault Memory = codes "no memory"
printed_name_fault (At line col cause) =
    codes "name fault " ++ decimal (name_fault_number cause) ++ codes " at " ++ decimal line ++ codes ":" ++ decimal col
