-- What stands against running a text, by the fault that it comes from, and the line that is printed of it (profile).
use Rattle.std.specs.Prelude.{ℕ, List, [], ◌++◌, codes, unwrap_or}
use Rattle.wordlines.specs.Bindings.{BindFault}
use Rattle.wordlines.specs.declared.fault.LineFault.TheVariants as bind_faults
use Rattle.wordlines.specs.Printed.{printed_bind_fault}
use Rattle.plantload.specs.declared.fault.LoadFault.{LoadFault}
use Rattle.plantload.specs.declared.fault.LoadFault.TheVariants as load_faults
use Rattle.plantload.specs.PrintedFaults.{printed_load_fault}
use Rattle.textanswers.specs.declared.stop.Stop.{Stop}
use Rattle.textanswers.specs.declared.stop.Stop.TheVariants.{Memory, Binding, Load, NoTask}

-- out of memory is one, wherever it comes from
abbrev pub of_load : LoadFault → Stop
of_load load_faults.Memory = Memory
of_load (load_faults.Text fault) = Load (load_faults.Text fault)
of_load (load_faults.Name fault) = Load (load_faults.Name fault)
of_load (load_faults.Code refused) = Load (load_faults.Code refused)

abbrev pub of_binding : BindFault → Stop
of_binding bind_faults.Memory = Memory
of_binding (bind_faults.At line cause) = Binding (bind_faults.At line cause)

-- the line that is printed
abbrev pub printed_stop : Stop → List ℕ
printed_stop Memory = codes "no memory"
printed_stop (Binding fault) = printed_bind_fault fault
printed_stop (Load fault) = printed_load_fault fault
printed_stop (NoTask asked) = codes "no task " ++ unwrap_or asked []
