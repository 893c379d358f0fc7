-- The faults of files of lines (profile): their numbers, and how they are printed.
use Rattle.std.specs.Prelude.{ℕ, List, ◌++◌, codes}
use Rattle.std.specs.Fmt.{decimal}
use Rattle.wordlines.specs.declared.fault.LineCause.{LineCause}
use Rattle.wordlines.specs.declared.fault.LineCause.TheVariants.{BadLine, TooLong}
use Rattle.wordlines.specs.declared.fault.LineFault.{LineFault}
use Rattle.wordlines.specs.declared.fault.LineFault.TheVariants.{Memory, At}

abbrev pub cause_number : LineCause → ℕ
cause_number BadLine = 2
cause_number TooLong = 3

-- 1 where memory is refused
abbrev pub fault_number : {Of : Type 0} → LineFault Of → ℕ
fault_number Memory = 1
fault_number (At line cause) = cause_number cause

-- the word of the kind of file, and the line, counted from 1
abbrev pub printed_fault : {Of : Type 0} → List ℕ → LineFault Of → List ℕ
printed_fault word Memory = codes "no memory"
printed_fault word (At line cause) = word ++ codes " fault at " ++ decimal line
