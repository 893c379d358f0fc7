-- What gear is asked that blinks.
use Rattle.std.specs.Prelude.{◌≡◌, ℕ, ◌<◌, ◌++◌, List, [], ◌∷◌, map, Result, Ok, Err}
use Rattle.daliframe.specs.declared.addressing.Address.TheVariants.{Short}
use Rattle.gearcmd.specs.declared.requests.Command.{Command}
use Rattle.gearcmd.specs.declared.requests.Command.TheVariants.{GearAsk, GearDo, GearLevel}
use Rattle.buslink.specs.declared.marks.Outcome.{Outcome}
use Rattle.buslink.specs.declared.marks.Outcome.TheVariants.{Done}
use Rattle.buslink.specs.declared.marks.Reply.TheVariants.{Answer}
use Rattle.buslink.specs.BusLog.{BusLog}
use Rattle.commissioning.specs.declared.asking.AskFault.{AskFault}
use Rattle.commissioning.specs.declared.asking.Asked.{Asked}
use Rattle.commissioning.specs.declared.blinking.Blinked.{Blinked}
use Rattle.commissioning.specs.declared.blinking.Blinked.TheVariants.{Back, NoLevel}
use Rattle.commissioning.specs.declared.blinking.Shown.{Shown}
use Rattle.commissioning.specs.Asking.{AreAnswered, IsBrokenOff}
use Rattle.commissioning.specs.Surveys.{AreParts}

-- what P says was asked and answered, and nothing else was sent or heard
pub record Asks (P : List Asked → Type 0) (old new : BusLog) : Type 0 where
  pub asked : List Asked
  pub are : AreAnswered asked old new
  pub those : P asked

-- one command was asked, which ended so
abbrev pub IsOne : Command → Outcome → List Asked → Type 0
IsOne command outcome asked = asked ≡ record { command = command; outcome = outcome } ∷ []

-- RECALL MAX LEVEL, and then OFF, whatever became of them
pub record IsFlash (address : ℕ) (asked : List Asked) : Type 0 where
  pub commands : map (λ (a : Asked). a.command) asked ≡ GearDo (Short address) 5 ∷ GearDo (Short address) 0 ∷ []

-- a level that can be sent again
pub record IsLevel (outcome : Outcome) (level : ℕ) : Type 0 where
  pub answered : outcome ≡ Done (Answer level)
  pub is_level : level < 255

-- its level was asked, it was three times at its greatest level and off, and last its level was sent
pub record IsBack (address level : ℕ) (outcome : Outcome) (asked : List Asked) : Type 0 where
  pub first : List Asked
  pub flashes : List Asked
  pub last : List Asked
  pub are : asked ≡ first ++ (flashes ++ last)
  pub level_asked : IsOne (GearAsk address 16) (Done (Answer level)) first
  pub is_level : level < 255
  pub three : AreParts (λ time. IsFlash address) 3 flashes
  pub sent_back : IsOne (GearLevel (Short address) level) outcome last

-- gear that gave its level blinked and was sent back to it; other gear was asked for its level and nothing else
abbrev pub IsBlink : ℕ → Blinked → List Asked → Type 0
IsBlink address (Back level outcome) asked = IsBack address level outcome asked
IsBlink address (NoLevel outcome) asked =
    IsOne (GearAsk address 16) outcome asked × ((level : ℕ) → ¬ IsLevel outcome level)

-- .. whatever became of it
abbrev pub IsSomeBlink : ℕ → List Asked → Type 0
IsSomeBlink address asked = (blinked : Blinked) × IsBlink address blinked asked

-- gear was asked for its status, and then it blinked or gave no level
pub record IsShown (address : ℕ) (shown : Shown) (asked : List Asked) : Type 0 where
  pub first : List Asked
  pub rest : List Asked
  pub is : asked ≡ first ++ rest
  pub status_asked : IsOne (GearAsk address 0) shown.status first
  pub blinked : IsBlink address shown.blinked rest

-- .. whatever became of it
abbrev pub IsSomeShown : ℕ → List Asked → Type 0
IsSomeShown address asked = (shown : Shown) × IsShown address shown asked

-- what letting gear blink has done that had this result
abbrev pub HasBlinked : ℕ → Result Shown AskFault → BusLog → BusLog → Type 0
HasBlinked address (Ok shown) old new = Asks (IsShown address shown) old new
HasBlinked address (Err fault) old new = IsBrokenOff (IsSomeShown address) fault old new
