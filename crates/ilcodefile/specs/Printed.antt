-- What a fault of a code file is printed as (profile).
use Rattle.std.specs.Prelude.{ℕ, List, ◌++◌, codes}
use Rattle.std.specs.Fmt.{decimal}
use Rattle.ilcodefile.specs.Faults.{cause_number}
use Rattle.ilcodefile.specs.declared.fault.FileFault.{FileFault}
use Rattle.ilcodefile.specs.declared.fault.FileFault.TheVariants.{Memory, Of}

-- the cause's number
abbrev pub printed : FileFault → List ℕ
printed Memory = codes "no memory"
printed (Of cause) = codes "code file fault " ++ decimal (cause_number cause)
