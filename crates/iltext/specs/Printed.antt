-- What a fault of a text is printed as (profile).
use Rattle.std.specs.Prelude.{ℕ, List, ◌++◌, codes}
use Rattle.std.specs.Fmt.{decimal}
use Rattle.iltext.specs.declared.fault.TextFault.{TextFault}
use Rattle.iltext.specs.declared.fault.TextFault.TheVariants.{Memory, At}
use Rattle.iltext.specs.Faults.{number_of_cause}

-- the cause's number, and line and column, both counted from 1
abbrev pub printed : TextFault → List ℕ
printed Memory = codes "no memory"
printed (At line col cause) =
    codes "text fault " ++ decimal (number_of_cause cause) ++ codes " at " ++ decimal line ++ codes ":" ++ decimal col
