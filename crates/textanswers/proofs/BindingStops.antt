-- A binding's fault as a stop.
use Rattle.std.proofs.Common.{◌≡◌, ◌↔◌, Result, Err, ℕ, List, Some}
use Rattle.std.specs.Str.Lines.{lines}
use Rattle.wordlines.specs.declared.fault.LineCause.TheVariants.{BadLine, TooLong}
use Rattle.wordlines.specs.declared.fault.LineFault.TheVariants as bind_faults
use Rattle.wordlines.specs.Bindings.{BindFault, IsBadBinding, IsTooLong, BindsSome}
use Rattle.textanswers.specs.declared.stop.Stop.{Stop}
use Rattle.textanswers.specs.Connected.{IsBindingStop}
use Rattle.textanswers.specs.Stops.{of_binding}

pub binding_stop : {T : Type 0} (bytes : List ℕ) (r : Result T BindFault) (fault : BindFault) (stop : Stop)
    → r ≡ Err fault
    → ((line : ℕ) → r ≡ Err (bind_faults.At line BadLine) → IsBadBinding bytes line)
    → ((line : ℕ) → (r ≡ Err (bind_faults.At line TooLong)) ↔ IsTooLong bytes line)
    → (r ≡ Err bind_faults.Memory → BindsSome (lines bytes))
    → stop ≡ of_binding fault
    → IsBindingStop (Some bytes) stop
binding_stop bytes r bind_faults.Memory stop is bad long memory e = rw e (memory is)
binding_stop bytes r (bind_faults.At line BadLine) stop is bad long memory e = rw e (bad line is)
binding_stop bytes r (bind_faults.At line TooLong) stop is bad long memory e = rw e ((long line).0 is)
