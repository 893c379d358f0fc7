-- What hearing once does to a bus.
use Rattle.std.specs.Prelude.{◌≡◌, ◌≤◌, ◌+◌, ℕ, List, [], ◌∷◌, ◌++◌, length, Option, Some, None}
use Rattle.buslink.specs.BusLog.{BusLog}
use Rattle.commissioning.specs.declared.asking.AskFault.{AskFault}
use Rattle.commissioning.specs.Listening.{Shows}

-- the frame that was heard, if one was
abbrev pub frames_of : Option ℕ → List ℕ
frames_of None = []
frames_of (Some frame) = frame ∷ []

-- these frames were heard, up to this fault or to none
pub record Hears (frames : List ℕ) (fault : Option AskFault) (old new : BusLog) : Type 0 where
  pub heard : new.heard ≡ old.heard ++ frames
  pub fault_shown : Shows fault (length frames) old new
  pub room : old.spare ≤ new.spare + length frames
