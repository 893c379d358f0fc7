-- What a bus is to a contract: its number, what comes on it, what was sent and heard on it so far, and its counts.
use Rattle.std.specs.Prelude.{◌≡◌, ℕ, ◌+◌, ◌-◌, ◌%◌, ◌^◌, min, Bool, true, false, Option, Some, None, Result, Ok, Err, ⊤}
use Rattle.std.specs.Prelude.{List, [], ◌∷◌, ◌++◌, option_map, IfSome}
use Rattle.std.specs.List.{filter_map}
use Rattle.daliframe.specs.declared.forward.Frame.{Frame}
use Rattle.buslink.specs.declared.marks.Mark.{Mark}
use Rattle.buslink.specs.declared.marks.Mark.TheVariants.{Failed}
use Rattle.buslink.specs.declared.marks.Reply.{Reply}
use Rattle.buslink.specs.declared.marks.Sent.{Sent}
use Rattle.buslink.specs.Marks.{mark_of}
use Rattle.buslink.specs.declared.arrivals.Arrival.{Arrival}
use Rattle.buslink.specs.declared.arrivals.Arrival.TheVariants as arrival
use Rattle.buslink.specs.declared.faults.Fault.{Fault}

-- what comes on a bus to be heard, first to last: what has come, and what is to come
pub record Arrivals : Type 0 where
  pub come : List Arrival
  pub later : List Arrival

pub record BusLog : Type 0 where
  -- its number among the buses of its plant
  pub number : ℕ
  -- what comes on it, where that is known, as on a simulated bus
  pub arrivals : Option Arrivals
  -- the frames that were sent, first to last, each with its priority and what became of it
  pub sent : List Sent
  -- the numbers of the 24-bit frames that were heard, first to last
  pub heard : List ℕ
  -- at least so many frames more fit into the two lists before they grow
  pub spare : ℕ
  -- the faults of the bus interface, modulo 2^64
  pub failures : ℕ
  -- the calls that heard, kept at 2^64 - 1 once there
  pub hears : ℕ
  -- whether the last of those calls found that nothing had come
  pub heard_none : Bool
  -- how often the bus was taken up again, modulo 2^64
  pub mends : ℕ
  -- whether its interface answers again, and it was not taken up yet
  pub is_mended : Bool

-- a bus of this number on which nothing was sent or heard, where this is known of what comes
abbrev pub new_log : ℕ → Option Arrivals → BusLog
new_log number arrivals = record {
  number = number;
  arrivals = arrivals;
  sent = [];
  heard = [];
  spare = 0;
  failures = 0;
  hears = 0;
  heard_none = false;
  mends = 0;
  is_mended = false;
}

-- one more, counted modulo 2^64
abbrev pub one_more : ℕ → ℕ
one_more count = (count + 1) % 2 ^ 64

-- one call more that heard
abbrev pub one_more_hear : ℕ → ℕ
one_more_hear hears = min (hears + 1) (2 ^ 64 - 1)

-- what became of a frame: a frame at which the bus interface failed has the mark Failed
abbrev pub mark_of_send : Result Reply Fault → Mark
mark_of_send (Ok reply) = mark_of reply
mark_of_send (Err fault) = Failed

-- a frame more was sent, which takes one of the spare places
abbrev pub with_sent : Frame → ℕ → Mark → BusLog → BusLog
with_sent frame priority mark log = record log {
  sent = log.sent ++ record { frame = frame; priority = priority; mark = mark } ∷ [];
  spare = log.spare - 1;
}

-- the bus after a send: only a fault counts as a failure
abbrev pub after_send : Frame → ℕ → Result Reply Fault → BusLog → BusLog
after_send frame priority (Ok reply) log = with_sent frame priority (mark_of reply) log
after_send frame priority (Err fault) log =
    record (with_sent frame priority Failed log) { failures = one_more log.failures }

-- the bus after a call that heard: only a frame is added and takes one of the spare places, and only a fault counts as
-- a failure
abbrev pub after_hear : Result (Option ℕ) Fault → BusLog → BusLog
after_hear (Ok (Some frame)) log = record log {
  heard = log.heard ++ frame ∷ [];
  spare = log.spare - 1;
  hears = one_more_hear log.hears;
  heard_none = false;
}
after_hear (Ok None) log = record log { hears = one_more_hear log.hears; heard_none = true }
after_hear (Err fault) log = record log {
  failures = one_more log.failures;
  hears = one_more_hear log.hears;
  heard_none = false;
}

-- the bus after it was asked whether its interface answers again: that answer is kept, and nothing else changes
abbrev pub after_mend : Bool → BusLog → BusLog
after_mend answers log = record log { is_mended = answers }

-- the bus after it was taken up again, which counts: whether its interface answers is to be asked anew
abbrev pub after_resume : BusLog → BusLog
after_resume log = record log { mends = one_more log.mends; is_mended = false }

-- the same but for the spare places
abbrev pub with_spare : ℕ → BusLog → BusLog
with_spare spare log = record log { spare = spare }

-- ---- what comes on the bus

-- the frame that comes, where it is one
abbrev pub frame_in : Arrival → Option ℕ
frame_in (arrival.Frame frame) = Some frame
frame_in arrival.Fault = None

-- the numbers of the frames among these
abbrev pub frames_in : List Arrival → List ℕ
frames_in arrivals = filter_map frame_in arrivals

-- all that has come was heard, where that is known
abbrev pub HasHeardAll : BusLog → Type 0
HasHeardAll log = IfSome log.arrivals (λ arrivals. log.heard ≡ frames_in arrivals.come)

-- a call that finds that nothing had come tells that all was heard before it
abbrev pub TellsAll : Result (Option ℕ) Fault → BusLog → Type 0
TellsAll (Ok (Some frame)) log = ⊤
TellsAll (Ok None) log = HasHeardAll log
TellsAll (Err fault) log = ⊤

-- the next of what is to come has come
abbrev pub one_more_came : List Arrival → Arrivals → Arrivals
one_more_came [] arrivals = arrivals
one_more_came (next ∷ more) arrivals = record { come = arrivals.come ++ next ∷ []; later = more }

abbrev pub after_arrival : BusLog → BusLog
after_arrival log = record log { arrivals = option_map (λ (a : Arrivals). one_more_came a.later a) log.arrivals }

-- all of it has come
abbrev pub after_all_arrivals : BusLog → BusLog
after_all_arrivals log =
    record log { arrivals = option_map (λ (a : Arrivals). record { come = a.come ++ a.later; later = [] }) log.arrivals }

-- it is the same bus, on which nothing came meanwhile: no call of a bus changes this
pub record IsSameBus (first log : BusLog) : Type 0 where
  pub number : log.number ≡ first.number
  pub arrivals : log.arrivals ≡ first.arrivals
