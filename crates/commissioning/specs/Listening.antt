-- What listening does to a bus, what it records, and why it ends.
use Rattle.std.specs.Prelude.{◌≡◌, ◌≤◌, ◌+◌, ℕ, List, ◌++◌, map, length, codes, Option, Some, None}
use Rattle.std.specs.List.{flat_map}
use Rattle.std.specs.Fmt.{decimal}
use Rattle.std.specs.Io.KnownBytes.{Appends}
use Rattle.daliframe.specs.Printed.{upper_hex}
use Rattle.buslink.specs.BusLog.{BusLog, IsSameBus, one_more}
use Rattle.commissioning.specs.declared.asking.AskFault.{AskFault}
use Rattle.commissioning.specs.declared.asking.AskFault.TheVariants.{Memory, Failed}
use Rattle.commissioning.specs.declared.listening.Silenced.{Silenced}
use Rattle.commissioning.specs.declared.listening.Silenced.TheVariants.{Ended, Fault, NoClock}

-- nothing was sent
pub record SendsNothing (old new : BusLog) : Type 0 where
  pub sent : new.sent ≡ old.sent
  pub same : IsSameBus old new

-- a frame that came, and the moment at which it did
pub record Coming : Type 0 where
  pub moment : ℕ
  pub frame : ℕ

-- its two lines of a scenario: `tick` with the moment, and `event` with the bus and the frame
abbrev pub lines_of : ℕ → Coming → List ℕ
lines_of bus coming =
    codes "tick " ++ decimal coming.moment ++ codes "\nevent " ++ decimal bus ++ codes " " ++ upper_hex 6 coming.frame
    ++ codes "\n"

-- what so many frames that were heard and a fault, if there was one, show of the bus: an interface that failed has one
-- failure more, and no other has; and memory is refused only where as many frames came as had a place at the start
abbrev pub Shows : Option AskFault → ℕ → BusLog → BusLog → Type 0
Shows None frames old new = new.failures ≡ old.failures
Shows (Some Memory) frames old new = (new.failures ≡ old.failures) × (old.spare ≤ frames)
Shows (Some Failed) frames old new = new.failures ≡ one_more old.failures

-- these frames were heard, up to this fault or to none; their lines were recorded, one frame after another, and nothing
-- else was
pub record IsRecorded (bus : ℕ) (fault : Option AskFault) (old new : BusLog) (before after : Option (List ℕ))
    : Type 0 where
  pub comings : List Coming
  pub heard : new.heard ≡ old.heard ++ map (λ (c : Coming). c.frame) comings
  pub recorded : Appends before after (flat_map (lines_of bus) comings)
  pub fault_shown : Shows fault (length comings) old new
  -- a frame takes one place at most
  pub room : old.spare ≤ new.spare + length comings

-- the fault by which listening ended, if it was one
abbrev pub fault_of : Silenced → Option AskFault
fault_of Ended = None
fault_of (Fault fault) = Some fault
fault_of NoClock = None

-- what came was heard and recorded, up to the end for this reason
abbrev pub IsListened : ℕ → Silenced → BusLog → BusLog → Option (List ℕ) → Option (List ℕ) → Type 0
IsListened bus silenced = IsRecorded bus (fault_of silenced)
