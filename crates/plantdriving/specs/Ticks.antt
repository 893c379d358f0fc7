-- What a tick does.
use Rattle.std.specs.Prelude.{◌≡◌, ℕ, Result, Ok, Err, Some, None}
use Rattle.plantevents.specs.declared.event.Event.TheVariants.{Tick}
use Rattle.plant.specs.Refusals.{first_refusal, tick_cases}
use Rattle.plant.specs.Shown.{Shown, grown}
use Rattle.plantdriving.specs.declared.halt.Halt.{Halt}
use Rattle.plantdriving.specs.declared.halt.Halt.TheVariants.{Refused, Memory, Unwritten}

-- the plant does not refuse this moment, which comes
abbrev pub HasTicked : ℕ → Shown → Shown → Type 0
HasTicked m p q = (first_refusal (tick_cases p m) ≡ None) × (q ≡ grown p (Tick m))

-- The moment comes exactly where the plant does not refuse it. An observer that failed is told last.
abbrev pub TicksAt : {A : Type 0} → ℕ → Shown → Shown → Result A Halt → Type 0
TicksAt m p q (Ok done) = HasTicked m p q
TicksAt m p q (Err (Unwritten error)) = HasTicked m p q
TicksAt m p q (Err (Refused refusal)) = (first_refusal (tick_cases p m) ≡ Some refusal) × (q ≡ p)
TicksAt m p q (Err Memory) = ⊥
