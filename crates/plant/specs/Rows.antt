-- Worked plants: what is refused at the end of a history, that the clock does not go back, and a bus that comes up.
use Rattle.std.specs.Prelude.{ℕ, zero, suc, [], ◌+◌}
use Rattle.ilplan.specs.Plans.{plan_of}
use Rattle.ilcompile.specs.Loaded.{Loaded, loaded_of}
use Rattle.plantevents.specs.declared.event.Event.TheVariants.{Tick, Down, Up}
use Rattle.plantevents.specs.Rows.{hand_lamp}
use Rattle.plant.specs.Shown.{Shown, opened, grown}

-- one bus, no task
abbrev pub idle_house : Loaded
idle_house = loaded_of (plan_of [] 1 [] [] [] [] []) []

abbrev pub quiet : Shown
quiet = opened idle_house 1 100

-- with ticks at 1 to n
abbrev pub ticked : ℕ → Shown
ticked zero = quiet
ticked (suc n) = grown (ticked n) (Tick (n + 1))

-- its bus was handed the lamp's level
abbrev pub handed : Shown → Shown
handed p = grown p hand_lamp

-- its bus went down and came up again
abbrev pub back : Shown → Shown
back p = grown (grown p (Down 0)) (Up 0)
