-- Why driving halts where the plant takes no task.
use Rattle.std.specs.Prelude.{◌≡◌}
use Rattle.plant.specs.declared.refusal.CallError.{CallError}
use Rattle.plant.specs.declared.refusal.CallError.TheVariants as errors
use Rattle.plantdriving.specs.declared.halt.Halt.{Halt}
use Rattle.plantdriving.specs.declared.halt.Halt.TheVariants as halts

abbrev pub IsHaltOf : CallError → Halt → Type 0
IsHaltOf (errors.Refused refusal) halt = halt ≡ halts.Refused refusal
IsHaltOf errors.Memory halt = halt ≡ halts.Memory
