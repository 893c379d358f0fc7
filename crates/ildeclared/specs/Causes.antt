-- Numbers of the causes of faults (profile).
use Rattle.std.specs.Prelude.{ℕ}
use Rattle.ildeclared.specs.declared.fault.NameCause.{NameCause}
use Rattle.ildeclared.specs.declared.fault.NameCause.TheVariants.{Unknown, Twice, UnknownLabel, BackwardJump}
use Rattle.ildeclared.specs.declared.fault.NameCause.TheVariants.{BadAddress, InputRangeTooSmall, WrittenTwice}
use Rattle.ildeclared.specs.declared.fault.NameCause.TheVariants.{WritesInput, NoTask, TooMany, BadDeclaration}
use Rattle.ildeclared.specs.declared.fault.NameFault.{NameFault}
use Rattle.ildeclared.specs.declared.fault.NameFault.TheVariants.{Memory, At}

abbrev pub name_fault_number : NameCause → ℕ
name_fault_number Unknown = 2
name_fault_number Twice = 3
name_fault_number UnknownLabel = 4
name_fault_number BackwardJump = 5
name_fault_number BadAddress = 6
name_fault_number InputRangeTooSmall = 7
name_fault_number WrittenTwice = 8
name_fault_number WritesInput = 9
name_fault_number NoTask = 10
name_fault_number TooMany = 11
name_fault_number BadDeclaration = 12

-- 1 where memory was refused
abbrev pub fault_number : NameFault → ℕ
fault_number Memory = 1
fault_number (At line col cause) = name_fault_number cause
