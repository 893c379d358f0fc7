-- The places of a bus, by their numbers: the source at each, where there is one.
use Rattle.std.specs.Prelude.{◌≡◌, List, Option, Some, IsSomeAnd, Any, is_none, position, slice_set, false}
use Rattle.std.specs.Option.{option_map_or}
use Rattle.dalievent.specs.declared.messages.EventSource.{EventSource}
use Rattle.commissioning.specs.declared.places.Place.{Place}

-- a place has this source
abbrev pub HasSource : EventSource → List (Option Place) → Type 0
HasSource source places = Any (λ place. IsSomeAnd place (λ p. p.source ≡ source)) places

-- the first place that is free gets a source, if one is free, and no other place changes
abbrev pub with_source : EventSource → List (Option Place) → List (Option Place)
with_source source places =
    option_map_or (λ number. slice_set places number (Some (record { source = source; is_bound = false })))
    (position is_none places) places
