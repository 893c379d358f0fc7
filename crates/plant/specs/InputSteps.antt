-- What private functions write to the process image.
use Rattle.std.specs.Prelude.{ℕ, ◌==◌, ◌&&◌, Bool, List, Option, Some, None, slice_get, slice_index_or}
use Rattle.std.specs.Prelude.{option_and_then, if◌then◌else◌}
use Rattle.std.specs.List.{position}
use Rattle.iltypes.specs.declared.value.Value.{Value}
use Rattle.wordlines.specs.declared.sources.BoundSource.{BoundSource}
use Rattle.ilplan.specs.declared.global.Location.{Location}
use Rattle.ilplan.specs.declared.global.Location.TheVariants.{Information, Count}
use Rattle.ilplan.specs.Plans.{Planned}
use Rattle.ilmachine.specs.Images.{ImageVariable, Global, Own}
use Rattle.dalievent.specs.Messages.{is_message, information}
use Rattle.plantevents.specs.Variables.{whole}
use Rattle.plant.specs.KeptSteps.{source_in}

abbrev pub is_bound_at : ℕ → ℕ → BoundSource → Bool
is_bound_at bus number bound = bound.bus == bus && bound.number == number

-- the information, and the count that is kept, where the frame is a message of the source of this number, on its bus
abbrev pub information_of : List BoundSource → ℕ → ℕ → ℕ → ℕ → Option Value
information_of sources bus b f i =
    if b == bus && is_message (source_in sources i).source f
    then Some (whole (information (source_in sources i).source f)) else None

abbrev pub count_of : List BoundSource → List ℕ → ℕ → ℕ → ℕ → ℕ → Option Value
count_of sources counts bus b f i =
    if b == bus && is_message (source_in sources i).source f then Some (whole (slice_index_or counts i 0)) else None

-- what a frame that was heard on bus b writes to what is located there
abbrev pub written_by : List BoundSource → List ℕ → ℕ → ℕ → Location → Option Value
written_by sources counts b f (Information bus number) =
    option_and_then (information_of sources bus b f) (position (is_bound_at bus number) sources)
written_by sources counts b f (Count bus number) =
    option_and_then (count_of sources counts bus b f) (position (is_bound_at bus number) sources)
written_by sources counts b f _ = None

-- what a frame that was heard on bus b writes to a variable
abbrev pub input_at : Planned → List ℕ → ℕ → ℕ → ImageVariable → Option Value
input_at plan counts b f (Global number) =
    option_and_then (written_by plan.sources counts b f)
    (option_and_then (λ g. g.location) (slice_get plan.globals number))
input_at plan counts b f (Own task number) = None
