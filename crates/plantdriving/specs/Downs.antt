-- Whether a bus of a plant went down.
use Rattle.std.specs.Prelude.{ℕ, zero, suc, Bool, true, false, if◌then◌else◌, List}
use Rattle.plantevents.specs.declared.event.Event.{Event}
use Rattle.plantevents.specs.Histories.{is_down}

-- one of so many buses did, by the history
abbrev pub has_down : ℕ → List Event → Bool
has_down zero h = false
has_down (suc buses) h = if is_down buses h then true else has_down buses h
