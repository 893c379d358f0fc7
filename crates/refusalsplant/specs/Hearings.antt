-- What is heard on a bus.
use Rattle.std.specs.Prelude.{◌≡◌, ℕ}
use Rattle.plantevents.specs.declared.event.Event.{Event}
use Rattle.plantevents.specs.declared.event.Event.TheVariants.{Heard, Down}

-- a frame was heard on this bus, or its interface failed as it was asked
abbrev pub IsOfHearing : ℕ → Event → Type 0
IsOfHearing b (Heard c frame) = c ≡ b
IsOfHearing b (Down c) = c ≡ b
IsOfHearing b e = ⊥
