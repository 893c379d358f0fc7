-- What a survey of a bus asks: each short address whether gear is there, and gear that is there what it is; and the
-- instances of each device, up to one that is silent.
use Rattle.std.specs.Prelude.{◌≡◌, ℕ, zero, suc, ◌==◌, ◌||◌, ◌&&◌, ◌++◌, ◌⊎◌, List, [], ◌∷◌, Bool, true, false}
use Rattle.std.specs.Prelude.{nat_le, MatchBool, Some, slice_get}
use Rattle.std.specs.List.{AllWithin}
use Rattle.gearcmd.specs.declared.requests.Command.{Command}
use Rattle.gearcmd.specs.declared.requests.Command.TheVariants.{GearAsk, DevAsk}
use Rattle.buslink.specs.declared.marks.Outcome.{Outcome}
use Rattle.buslink.specs.declared.marks.Outcome.TheVariants.{Done, GaveUp, Failed}
use Rattle.buslink.specs.declared.marks.Reply.TheVariants.{Quiet, Answer, Damaged, Lost}
use Rattle.buslink.specs.BusLog.{BusLog}
use Rattle.commissioning.specs.declared.asking.Asked.{Asked}
use Rattle.commissioning.specs.Asking.{AreAnswered}

-- something answered: two at once are damage
abbrev pub is_answer : Outcome → Bool
is_answer (Done Quiet) = false
is_answer (Done (Answer byte)) = true
is_answer (Done Damaged) = true
is_answer (Done Lost) = false
is_answer GaveUp = false
is_answer Failed = false

-- of the queries of GEAR_ASK: the status, the device type, the actual, greatest, least and power on level, the fade time,
-- the levels of the scenes, and the groups
abbrev pub is_surveyed : ℕ → Bool
is_surveyed query =
    query == 0 || query == 9 || (nat_le 16 query && nat_le query 19) || query == 21
    || (nat_le 25 query && nat_le query 42)

-- one question, with its answer
pub record IsQuestion (command : Command) (outcome : Outcome) (part : List Asked) : Type 0 where
  pub is : part ≡ record { command = command; outcome = outcome } ∷ []

-- one question, whatever its answer
pub record IsSomeQuestion (command : Command) (part : List Asked) : Type 0 where
  pub outcome : Outcome
  pub question : IsQuestion command outcome part

-- one part after another: that of 0, that of 1, and so on, so many of them
abbrev pub AreParts : (ℕ → List Asked → Type 0) → ℕ → List Asked → Type 0
AreParts P zero asked = asked ≡ []
AreParts P (suc count) asked =
    (before : List Asked) × ((part : List Asked) × ((asked ≡ before ++ part) × (AreParts P count before × P count part)))

-- a query that is surveyed is asked, and no other is
abbrev pub IsQueryPart : ℕ → ℕ → List Asked → Type 0
IsQueryPart address query part = MatchBool (is_surveyed query) (IsSomeQuestion (GearAsk address query) part) (part ≡ [])

-- the queries of gear, or none where it is not there
abbrev pub AreQueries : ℕ → Bool → List Asked → Type 0
AreQueries address there rest = MatchBool there (AreParts (IsQueryPart address) 43 rest) (rest ≡ [])

-- CONTROL GEAR PRESENT; and where something answers, the queries
pub record IsGearPart (address : ℕ) (part : List Asked) : Type 0 where
  pub outcome : Outcome
  pub first : List Asked
  pub rest : List Asked
  pub is : part ≡ first ++ rest
  pub present : IsQuestion (GearAsk address 1) outcome first
  pub queries : AreQueries address (is_answer outcome) rest

-- the scheme of an instance, or nothing where it is silent
abbrev pub IsScheme : ℕ → ℕ → Bool → List Asked → Type 0
IsScheme address instance there rest = MatchBool there (IsSomeQuestion (DevAsk address instance 1) rest) (rest ≡ [])

-- INSTANCE TYPE of an instance that is there, or silent; and EVENT SCHEME where it is there
pub record IsInstancePart (address : ℕ) (there : Bool) (instance : ℕ) (part : List Asked) : Type 0 where
  pub outcome : Outcome
  pub first : List Asked
  pub rest : List Asked
  pub is : part ≡ first ++ rest
  pub kind : IsQuestion (DevAsk address instance 0) outcome first
  pub answers : is_answer outcome ≡ there
  pub scheme : IsScheme address instance there rest

-- the last of what a device is asked: nothing behind all 32 instances, else the first instance that is silent
abbrev pub IsLastPart : ℕ → ℕ → List Asked → Type 0
IsLastPart address count last = ((count ≡ 32) × (last ≡ [])) ⊎ IsInstancePart address false count last

-- an instance, there or silent
abbrev pub IsSomeInstancePart : ℕ → ℕ → List Asked → Type 0
IsSomeInstancePart address instance part = (there : Bool) × IsInstancePart address there instance part

-- the instances of a device that are there, and the last
pub record IsDevicePart (address : ℕ) (part : List Asked) : Type 0 where
  pub count : ℕ
  pub instances : List Asked
  pub last : List Asked
  pub is : part ≡ instances ++ last
  pub there : AreParts (IsInstancePart address true) count instances
  pub silent : IsLastPart address count last

-- the gear of all short addresses, and then the devices of all short addresses
pub record IsSurvey (asked : List Asked) : Type 0 where
  pub gear : List Asked
  pub devices : List Asked
  pub is : asked ≡ gear ++ devices
  pub all_gear : AreParts IsGearPart 64 gear
  pub all_devices : AreParts IsDevicePart 64 devices

-- behind what was asked before came what P says, and nothing else was sent
pub record AsksMore (P : List Asked → Type 0) (before after : List Asked) (old new : BusLog) : Type 0 where
  pub more : List Asked
  pub is : after ≡ before ++ more
  pub asked : AreAnswered more old new
  pub those : P more

-- this one asked the command, at some place, and none before it did
pub record IsFirstOf (command : Command) (asked : Asked) (survey : List Asked) : Type 0 where
  pub asks : asked.command ≡ command
  pub place : ℕ
  pub there : slice_get survey place ≡ Some asked
  pub none_before : AllWithin (λ a. ¬ (a.command ≡ command)) survey 0 place
