-- The faults of loading by the faults that they come from, and the line that is printed of each (profile).
use Rattle.std.specs.Prelude.{ℕ, List, codes}
use Rattle.iltext.specs.declared.fault.TextFault.{TextFault}
use Rattle.iltext.specs.declared.fault.TextFault.TheVariants as text_faults
use Rattle.iltext.specs.Printed as texts
use Rattle.ildeclared.specs.Printed.{printed_name_fault}
use Rattle.ildeclared.specs.declared.fault.NameFault.{NameFault}
use Rattle.ildeclared.specs.declared.fault.NameFault.TheVariants as name_faults
use Rattle.ilplan.specs.Plans.{Planned}
use Rattle.ilverify.specs.declared.refusal.VerifyError.{VerifyError}
use Rattle.ilverify.specs.declared.refusal.VerifyError.TheVariants as verify_errors
use Rattle.plantload.specs.RefusedTasks.{refused_of}
use Rattle.plantload.specs.Printed.{printed_refused}
use Rattle.plantload.specs.declared.fault.LoadFault.{LoadFault}
use Rattle.plantload.specs.declared.fault.LoadFault.TheVariants.{Memory, Text, Name, Code}

-- out of memory is one, wherever it comes from
abbrev pub of_text : TextFault → LoadFault
of_text text_faults.Memory = Memory
of_text (text_faults.At line col cause) = Text (text_faults.At line col cause)

abbrev pub of_name : NameFault → LoadFault
of_name name_faults.Memory = Memory
of_name (name_faults.At line col cause) = Name (name_faults.At line col cause)

abbrev pub of_error : Planned → ℕ → VerifyError → LoadFault
of_error plan task (verify_errors.Memory refused) = Memory
of_error plan task (verify_errors.Refused refusal) = Code (refused_of plan task refusal)

-- the line that is printed
abbrev pub printed_load_fault : LoadFault → List ℕ
printed_load_fault Memory = codes "no memory"
printed_load_fault (Text fault) = texts.printed fault
printed_load_fault (Name fault) = printed_name_fault fault
printed_load_fault (Code refused) = printed_refused refused
