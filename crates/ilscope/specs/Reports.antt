-- How a fault is reported to a reader: by line and column (profile).
use Rattle.std.specs.Prelude.{◌≡◌, ℕ, List, Option, Some, None, ⊤}
use Rattle.ilsource.specs.Places.{line_at, col_at}
use Rattle.ildeclared.specs.Faults.{IsLeast}
use Rattle.ildeclared.specs.declared.fault.NameCause.{NameCause}
use Rattle.ildeclared.specs.declared.fault.NameFault.{NameFault}
use Rattle.ildeclared.specs.declared.fault.NameFault.TheVariants.{Memory, At}
use Rattle.ildeclared.specs.declared.found.Found.{Found}

-- what was found is reported
abbrev pub IsReportOf : List ℕ → Found → NameFault → Type 0
IsReportOf text found Memory = ⊥
IsReportOf text found (At line col cause) =
    (line ≡ line_at text found.at) × (col ≡ col_at text found.at) × (cause ≡ found.cause)

-- what was found is reported, and nothing where nothing was found
abbrev pub IsReportOfOption : List ℕ → Option Found → Option NameFault → Type 0
IsReportOfOption text None None = ⊤
IsReportOfOption text (Some found) (Some fault) = IsReportOf text found fault
IsReportOfOption text _ _ = ⊥

-- the least of some faults is reported, by the line and the column of its place
abbrev pub ReportsLeast : List ℕ → (ℕ → NameCause → Type 0) → NameFault → Type 0
ReportsLeast text Faults Memory = ⊥
ReportsLeast text Faults (At line col cause) =
    (place : ℕ) × IsLeast Faults place cause × (line ≡ line_at text place) × (col ≡ col_at text place)

-- memory was refused, or the least of some faults is reported
abbrev pub IsMemoryOrReportsLeast : List ℕ → (ℕ → NameCause → Type 0) → NameFault → Type 0
IsMemoryOrReportsLeast text Faults Memory = ⊤
IsMemoryOrReportsLeast text Faults (At line col cause) = ReportsLeast text Faults (At line col cause)
