-- The parts of a history: the events of each scan worker, of each bus, and of the clock.
use Rattle.std.specs.Prelude.{ℕ, ◌+◌, ◌==◌, Bool, true, false, if◌then◌else◌, List, [], ◌∷◌, ◌++◌, length}
use Rattle.std.specs.Prelude.{Option, Some, None}
use Rattle.buslink.specs.declared.marks.Sent.{Sent}
use Rattle.plantevents.specs.declared.role.Role.{Role}
use Rattle.plantevents.specs.declared.role.Role.TheVariants.{Worker, Bus, Clock}
use Rattle.plantevents.specs.declared.event.Event.{Event}
use Rattle.plantevents.specs.declared.event.Event.TheVariants.{Tick, Heard, Take, Commit, Hand, Done, Down, Up}
use Rattle.plantevents.specs.Histories.{OpenScan, OpenHand}

-- who an event comes from
abbrev pub role_of : Event → Role
role_of (Tick m) = Clock
role_of (Heard b f) = Bus b
role_of (Take w t s) = Worker w
role_of (Commit w n r) = Worker w
role_of (Hand b s t) = Bus b
role_of (Done b n r) = Bus b
role_of (Down b) = Bus b
role_of (Up b) = Bus b

abbrev pub is_same_role : Role → Role → Bool
is_same_role (Worker v) (Worker w) = v == w
is_same_role (Bus b) (Bus c) = b == c
is_same_role Clock Clock = true
is_same_role _ _ = false

-- an event and its place
pub record Placed : Type 0 where
  pub place : ℕ
  pub event : Event

abbrev pub placed : ℕ → Event → Placed
placed n e = record { place = n; event = e }

-- the events of a role, each with its place, the newest first
abbrev pub part : Role → List Event → List Placed
part role [] = []
part role (e ∷ h) = if is_same_role (role_of e) role then placed (length h) e ∷ part role h else part role h

-- ---- what a part shows, by itself

-- the moment of the clock: that of its newest event
abbrev pub moment_by : Event → ℕ → ℕ
moment_by (Tick m) before = m
moment_by e before = before

abbrev pub shown_moment : List Placed → ℕ
shown_moment [] = 0
shown_moment (newest ∷ older) = moment_by newest.event (shown_moment older)

-- the scan that a worker has open, if its newest event, at this place, is a Take
abbrev pub scan_by : ℕ → Event → Option OpenScan
scan_by n (Take w t s) = Some (record { place = n; task = t; snapshot = s })
scan_by n e = None

abbrev pub shown_scan : List Placed → Option OpenScan
shown_scan [] = None
shown_scan (newest ∷ older) = scan_by newest.place newest.event

-- the transaction that a bus has open: a frame that is heard leaves it open
abbrev pub hand_by : ℕ → Event → Option OpenHand → Option OpenHand
hand_by n (Hand b s t) before = Some (record { place = n; origin = s; transaction = t })
hand_by n (Done b m r) before = None
hand_by n (Down b) before = None
hand_by n e before = before

abbrev pub shown_hand : List Placed → Option OpenHand
shown_hand [] = None
shown_hand (newest ∷ older) = hand_by newest.place newest.event (shown_hand older)

-- whether a bus is down
abbrev pub down_by : Event → Bool → Bool
down_by (Down b) before = true
down_by (Up b) before = false
down_by e before = before

abbrev pub shown_down : List Placed → Bool
shown_down [] = false
shown_down (newest ∷ older) = down_by newest.event (shown_down older)

-- ---- what went over the links, as a part shows it

-- the frames in the reports of a bus, first to last
abbrev pub sent_by : Event → List Sent → List Sent
sent_by (Done b n r) before = before ++ r.attempts
sent_by e before = before

abbrev pub shown_sent : List Placed → List Sent
shown_sent [] = []
shown_sent (newest ∷ older) = sent_by newest.event (shown_sent older)

-- the 24-bit frames that were heard on a bus, first to last
abbrev pub heard_by : Event → List ℕ → List ℕ
heard_by (Heard b f) before = before ++ f ∷ []
heard_by e before = before

abbrev pub shown_heard : List Placed → List ℕ
shown_heard [] = []
shown_heard (newest ∷ older) = heard_by newest.event (shown_heard older)

-- the moments that the clock gave, first to last
abbrev pub given_by : Event → List ℕ → List ℕ
given_by (Tick m) before = before ++ m ∷ []
given_by e before = before

abbrev pub shown_given : List Placed → List ℕ
shown_given [] = []
shown_given (newest ∷ older) = given_by newest.event (shown_given older)

-- how often a bus went down
abbrev pub downs_by : Event → ℕ → ℕ
downs_by (Down b) before = before + 1
downs_by e before = before

abbrev pub shown_downs : List Placed → ℕ
shown_downs [] = 0
shown_downs (newest ∷ older) = downs_by newest.event (shown_downs older)

-- how often a bus came up again
abbrev pub ups_by : Event → ℕ → ℕ
ups_by (Up b) before = before + 1
ups_by e before = before

abbrev pub shown_ups : List Placed → ℕ
shown_ups [] = 0
shown_ups (newest ∷ older) = ups_by newest.event (shown_ups older)
