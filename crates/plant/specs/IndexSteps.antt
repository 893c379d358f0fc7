-- Which global variables are located at inputs of a bus, and which sources are bound on it: what comes from the bus is
-- written to these variables alone, and is a message of these sources alone.
use Rattle.std.specs.Prelude.{◌≡◌, ℕ, ◌+◌, ◌<◌, ◌==◌, Bool, true, false, List, [], ◌∷◌, All, length, slice_get}
use Rattle.std.specs.Prelude.{slice_index_or, Option, Some, option_and_then, if◌then◌else◌}
use Rattle.std.specs.List.{Any}
use Rattle.wordlines.specs.declared.sources.BoundSource.{BoundSource}
use Rattle.ilplan.specs.declared.global.Location.{Location}
use Rattle.ilplan.specs.declared.global.Location.TheVariants.{GearAnswer, DeviceAnswer, Information, Count, Trigger}
use Rattle.ilplan.specs.Plans.{Planned}

-- what is located there comes from bus b: an answer on it, or the events of a source on it
abbrev pub comes_from : ℕ → Option Location → Bool
comes_from b (Some (GearAnswer bus short)) = bus == b
comes_from b (Some (DeviceAnswer bus short)) = bus == b
comes_from b (Some (Information bus source)) = bus == b
comes_from b (Some (Count bus source)) = bus == b
comes_from b (Some (Trigger bus source)) = bus == b
comes_from b _ = false

-- where a global variable is located
abbrev pub place_of : Planned → ℕ → Option Location
place_of plan g = option_and_then (λ x. x.location) (slice_get plan.globals g)

-- the numbers of all that is located at inputs of bus b, in any order
pub record AreInputsOf (plan : Planned) (b : ℕ) (numbers : List ℕ) : Type 0 where
  pub each : All (λ g. comes_from b (place_of plan g) ≡ true) numbers
  pub every : (g : ℕ) → comes_from b (place_of plan g) ≡ true → Any (λ n. n ≡ g) numbers

-- of these sources, which are numbered from k on, the numbers of those that are bound on bus b
abbrev pub numbers_on : ℕ → ℕ → List BoundSource → List ℕ
numbers_on b k [] = []
numbers_on b k (bound ∷ more) =
    if bound.bus == b then k ∷ numbers_on b (k + 1) more else numbers_on b (k + 1) more

-- the numbers of the sources that are bound on bus b, each once
abbrev pub sources_on : Planned → ℕ → List ℕ
sources_on plan b = numbers_on b 0 plan.sources

-- what is kept of a bus: the numbers of what is located at inputs of it, and of the sources on it
pub record FromBus : Type 0 where
  pub numbers : List ℕ
  pub sources : List ℕ

pub record IsFromBus (plan : Planned) (b : ℕ) (from : FromBus) : Type 0 where
  pub located : AreInputsOf plan b from.numbers
  pub bound : from.sources ≡ sources_on plan b

-- what stands past the end of the list
abbrev pub from_none : FromBus
from_none = record { numbers = []; sources = [] }

-- of each bus
abbrev pub InputsFollow : Planned → List FromBus → Type 0
InputsFollow plan inputs =
    (length inputs ≡ plan.buses) × ((b : ℕ) → b < plan.buses → IsFromBus plan b (slice_index_or inputs b from_none))
