-- What an observer is told of what happens (profile).
use Rattle.std.specs.Prelude.{◌≡◌, ℕ, Option, Some, List, [], ◌∷◌, ◌++◌, length, option_map, Result, Ok, Err, ⊤}
use Rattle.plantevents.specs.declared.event.Event.{Event}
use Rattle.plantevents.specs.declared.event.Event.TheVariants as event
use Rattle.plantevents.specs.Histories.{OpenScan, scan}
use Rattle.plant.specs.Shown.{Shown}
use Rattle.plantdriving.specs.declared.halt.Halt.{Halt}
use Rattle.plantdriving.specs.declared.halt.Halt.TheVariants.{Refused, Memory, Unwritten}
use Rattle.plantdriving.specs.declared.happened.Happened.{Happened}
use Rattle.plantdriving.specs.declared.happened.Happened.TheVariants as what
use Rattle.plantdriving.specs.declared.happened.Told.{Told}

-- ---- what an observer keeps of what it was told

-- these more, the newest first; where it keeps nothing, nothing
abbrev pub grown_by : List Told → Option (List Told) → Option (List Told)
grown_by tellings before = option_map (λ (ts : List Told). tellings ++ ts) before

-- this more, with its place
abbrev pub noted : ℕ → Happened → Option (List Told) → Option (List Told)
noted place happened before = grown_by (record { place = place; happened = happened } ∷ []) before

-- ---- what is told of an event

-- it is the task of this scan
abbrev pub IsTaskOf : ℕ → Option OpenScan → Type 0
IsTaskOf task is_open = (running : OpenScan) × (is_open ≡ Some running) × (running.task ≡ task)

-- This is told of an event that came behind a history: the same with the same numbers. Of a Take the snapshot is left
-- out; of a Commit the result is, but for its steps, and its task is that of the scan which the worker had open.
abbrev pub IsToldOf : List Event → Event → Happened → Type 0
IsToldOf h (event.Tick m) (what.Ticked moment) = moment ≡ m
IsToldOf h (event.Heard b frame) (what.Heard bus heard) = (bus ≡ b) × (heard ≡ frame)
IsToldOf h (event.Take w t snapshot) (what.Took worker task) = (worker ≡ w) × (task ≡ t)
IsToldOf h (event.Commit w n result) (what.Committed worker task steps) =
    (worker ≡ w) × (steps ≡ result.steps) × IsTaskOf task (scan w h)
IsToldOf h (event.Hand b origin transaction) (what.Handed bus made_of handed) =
    (bus ≡ b) × (made_of ≡ origin) × (handed ≡ transaction)
IsToldOf h (event.Done b n report) (what.Reported bus reported) = (bus ≡ b) × (reported ≡ report)
IsToldOf h (event.Down b) (what.WentDown bus) = bus ≡ b
IsToldOf h (event.Up b) (what.CameUp bus) = bus ≡ b
IsToldOf h e other = ⊥

-- with its place, which is the number of events before it
abbrev pub IsToldAt : List Event → Event → Told → Type 0
IsToldAt h e told = (told.place ≡ length h) × IsToldOf h e told.happened

-- each of these events, which came behind a history, was told once, in their order
abbrev pub AreTold : List Event → List Event → List Told → Type 0
AreTold h [] [] = ⊤
AreTold h (e ∷ older) (told ∷ before) = IsToldAt (older ++ h) e told × AreTold h older before
AreTold h events tellings = ⊥

-- ---- what is told by whoever drives a plant

-- from the history h to g each event was told once, in order and with its place, and nothing else was
pub record HasToldAll (h g : List Event) (before after : Option (List Told)) : Type 0 where
  pub events : List Event
  pub tellings : List Told
  pub history : g ≡ events ++ h
  pub told : after ≡ grown_by tellings before
  pub each : AreTold h events tellings

-- or only those of a first part: an observer that failed is told no more
pub record HasToldSome (h g : List Event) (before after : Option (List Told)) : Type 0 where
  pub between : List Event
  pub untold : List Event
  pub history : g ≡ untold ++ between
  pub told : HasToldAll h between before after

-- Each event was told, where this stopped it; but where an observer failed, only those of a first part may have been.
abbrev pub HasToldUntil : List Event → List Event → Option (List Told) → Option (List Told) → Halt → Type 0
HasToldUntil h g before after (Refused refusal) = HasToldAll h g before after
HasToldUntil h g before after Memory = HasToldAll h g before after
HasToldUntil h g before after (Unwritten error) = HasToldSome h g before after

-- from the plant p to q each event was told, as far as it came
abbrev pub TellsEach : {A : Type 0} → Shown → Shown → Option (List Told) → Option (List Told) → Result A Halt → Type 0
TellsEach p q before after (Ok done) = HasToldAll p.history q.history before after
TellsEach p q before after (Err halt) = HasToldUntil p.history q.history before after halt
