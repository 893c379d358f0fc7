-- What the controller is connected to: what the binding's file says, and one bus without such a file (profile).
use Rattle.std.specs.Prelude.{◌≡◌, ℕ, List, Option, Some, None}
use Rattle.std.specs.Str.Lines.{lines}
use Rattle.wordlines.specs.declared.fault.LineCause.TheVariants.{BadLine, TooLong}
use Rattle.wordlines.specs.declared.fault.LineFault.TheVariants as bind_faults
use Rattle.wordlines.specs.Bindings.{IsBinding, IsBadBinding, IsTooLong, BindsSome}
use Rattle.wordlines.specs.Wirings.{Wiring, one_bus}
use Rattle.textanswers.specs.declared.stop.Stop.{Stop}
use Rattle.textanswers.specs.declared.stop.Stop.TheVariants as stops

abbrev pub IsConnected : Option (List ℕ) → Wiring → Type 0
IsConnected None wiring = wiring ≡ one_bus
IsConnected (Some bytes) wiring = IsBinding bytes wiring

-- why there is none: a bad line, too many bytes, or, where a source is to be kept, out of memory
abbrev pub IsBindingStop : Option (List ℕ) → Stop → Type 0
IsBindingStop (Some bytes) (stops.Binding (bind_faults.At line BadLine)) = IsBadBinding bytes line
IsBindingStop (Some bytes) (stops.Binding (bind_faults.At line TooLong)) = IsTooLong bytes line
IsBindingStop (Some bytes) stops.Memory = BindsSome (lines bytes)
IsBindingStop _ stop = ⊥
