-- A bus behind a line as its callers see it, and one request with its answer.
use Rattle.std.specs.Prelude.{◌≡◌, ◌⊎◌, ℕ, Bool, true, false, List, [], ◌∷◌, ◌++◌, Option, None, Some, Result, IsErr}
use Rattle.std.specs.Io.KnownBytes.{Appends, Consumes}
use Rattle.buslink.specs.BusLog.{BusLog, new_log}
use Rattle.liveline.specs.Lines.{Event, IsMessage, frames_of, hear_line, line_end, none_line, said_by}
use Rattle.liveline.specs.Greetings.{GreetedLine}

pub record LineState : Type 0 where
  -- what became of the bus so far
  pub log : BusLog
  -- what the interface is still to say, and what was said to it, where reader and writer know
  pub unread : Option (List ℕ)
  pub written : Option (List ℕ)
  -- whether each request so far was answered as it should be
  pub is_in_step : Bool
  -- whether the interface says unasked what comes
  pub announces : Bool
  -- the frames that it said before an answer, and that were not heard yet, first to last
  pub kept : List ℕ

-- a bus with this number, on which nothing was sent or heard; what comes on it is not known
abbrev pub fresh_log : ℕ → BusLog
fresh_log number = new_log number None

-- what the interface of a line is still to say, and what was said to it: of no line nothing is known
abbrev pub unread_on : Option GreetedLine → Option (List ℕ)
unread_on None = None
unread_on (Some line) = line.unread

abbrev pub written_on : Option GreetedLine → Option (List ℕ)
written_on None = None
written_on (Some line) = line.written

-- whether the interface of a line announces: where there is none, nothing does
abbrev pub announces_on : Option GreetedLine → Bool
announces_on None = false
announces_on (Some line) = line.announces

-- the line of a bus is this one from here on
abbrev pub with_line : GreetedLine → LineState → LineState
with_line line state = record state {
  unread = line.unread;
  written = line.written;
  announces = line.announces;
  is_in_step = true;
}

-- the line of a bus is gone
abbrev pub without_line : LineState → LineState
without_line state = record state { unread = None; written = None; announces = false; is_in_step = false }

-- a bus without a line, on which nothing was sent or heard
abbrev pub absent_line : ℕ → LineState
absent_line number = record {
  log = fresh_log number;
  unread = None;
  written = None;
  is_in_step = false;
  announces = false;
  kept = [];
}

-- One line was read. Before it events may have come, where the interface announces: their frames are kept.
pub record IsReadPast (announces : Bool) (line : List ℕ) (old new : Option (List ℕ)) (before after : List ℕ) : Type 0 where
  pub events : List Event
  pub read : Consumes old new (said_by events ++ (line ++ line_end))
  pub kept : after ≡ before ++ frames_of events
  pub unasked : announces ≡ false → events ≡ []

-- just this line was said, and just one line answered it, of which this holds
pub record IsExchange (asked : List ℕ) (Says : List ℕ → Type 0) (old new : LineState) : Type 0 where
  pub request : Appends old.written new.written (asked ++ line_end)
  pub line : List ℕ
  pub says : Says line
  pub answer : IsReadPast old.announces line old.unread new.unread old.kept new.kept

-- this is the first of these frames, where there is one, and those are the others
abbrev pub IsFirst : Option ℕ → List ℕ → List ℕ → Type 0
IsFirst None frames others = (frames ≡ []) × (others ≡ [])
IsFirst (Some frame) frames others = frames ≡ frame ∷ others

-- the interface was asked for what it did not say yet, until it had nothing more, and this is the first frame of that
pub record IsAnnounced (message : Option ℕ) (old new : LineState) : Type 0 where
  pub request : Appends old.written new.written (hear_line ++ line_end)
  pub frames : List ℕ
  pub answer : IsReadPast true none_line old.unread new.unread [] frames
  pub first : IsFirst message frames new.kept

-- the frame that was kept first was heard, and nothing was said or read
pub record IsOfKept (message : Option ℕ) (old new : LineState) : Type 0 where
  pub frame : ℕ
  pub heard : message ≡ Some frame
  pub first : old.kept ≡ frame ∷ new.kept
  pub written : new.written ≡ old.written
  pub unread : new.unread ≡ old.unread

-- one line was read, which says the frame
pub record IsEventRead (frame : ℕ) (old new : Option (List ℕ)) : Type 0 where
  pub line : List ℕ
  pub says : IsMessage (Some frame) line
  pub read : Consumes old new (line ++ line_end)

-- such a line was read, and nothing was said
pub record IsUnasked (message : Option ℕ) (old new : LineState) : Type 0 where
  pub frame : ℕ
  pub heard : message ≡ Some frame
  pub event : IsEventRead frame old.unread new.unread
  pub written : new.written ≡ old.written
  pub kept : new.kept ≡ old.kept

-- what the interface said unasked was heard: the first frame that is kept; where none is, the next line
abbrev pub IsSaid : Option ℕ → LineState → LineState → Type 0
IsSaid message old new = IsOfKept message old new ⊎ ((old.kept ≡ []) × IsUnasked message old new)

-- what the interface answered was heard: one line, or, where it announces, all that it did not say yet
abbrev pub IsAnswered : Bool → Option ℕ → LineState → LineState → Type 0
IsAnswered false message old new = IsExchange hear_line (λ line. IsMessage message line) old new
IsAnswered true message old new = IsAnnounced message old new

-- what was heard: the first frame that is kept; where none is, what the interface answered
abbrev pub IsHeard : Option ℕ → LineState → LineState → Type 0
IsHeard message old new =
    IsOfKept message old new ⊎ ((old.kept ≡ []) × IsAnswered old.announces message old new)

-- this line was written but for a rest, which stands at its end, and nothing else was written
pub record IsWrittenBut (line rest : List ℕ) (old new : Option (List ℕ)) : Type 0 where
  pub front : List ℕ
  pub parts : line ≡ front ++ rest
  pub written : Appends old new front

-- this line was written, or a first part of it, and nothing else
pub record IsAtMost (line : List ℕ) (old new : Option (List ℕ)) : Type 0 where
  pub rest : List ℕ
  pub written : IsWrittenBut line rest old new

-- it failed, and nothing was said or read
pub record IsSilent {A E : Type 0} (result : Result A E) (old new : LineState) : Type 0 where
  pub failed : IsErr result
  pub written : new.written ≡ old.written
  pub unread : new.unread ≡ old.unread
