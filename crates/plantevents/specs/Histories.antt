-- What happened, and what is open. A history is kept from its newest event: e ∷ h is h, and then e. The place of e in
-- it is length h, and the fronts of e ∷ h are itself and the fronts of h.
use Rattle.std.specs.Prelude.{ℕ, ◌+◌, ◌%◌, ◌^◌, ◌==◌, ◌&&◌, Bool, true, false, List, [], ◌∷◌, ◌++◌, length}
use Rattle.std.specs.Prelude.{Option, Some, None, if◌then◌else◌}
use Rattle.dalievent.specs.declared.messages.EventSource.{EventSource}
use Rattle.gearcmd.specs.FrameLists.{FrameList}
use Rattle.buslink.specs.declared.marks.Sent.{Sent}
use Rattle.ilmachine.specs.Snapshots.{ScanStart}
use Rattle.plantevents.specs.declared.event.Origin.{Origin}
use Rattle.plantevents.specs.declared.event.Event.{Event}
use Rattle.plantevents.specs.declared.event.Event.TheVariants.{Tick, Heard, Take, Commit, Hand, Done, Down, Up}
use Rattle.dalievent.specs.Messages.{is_message}

-- the moment of the last tick, else 0
abbrev pub moment : List Event → ℕ
moment [] = 0
moment (Tick m ∷ h) = m
moment (e ∷ h) = moment h

-- how many messages of a source were heard on a bus
abbrev pub messages : ℕ → EventSource → List Event → ℕ
messages bus source [] = 0
messages bus source (Heard b f ∷ h) =
    if b == bus && is_message source f then messages bus source h + 1 else messages bus source h
messages bus source (e ∷ h) = messages bus source h

-- the count of a source, which has 16 bits: what it begins at, and the messages that were heard since
abbrev pub message_count : ℕ → ℕ → EventSource → List Event → ℕ
message_count first bus source h = (first + messages bus source h) % 2 ^ 16

-- ---- scans

-- a scan that is open: the place of its Take, its task and its snapshot
pub record OpenScan : Type 0 where
  pub place : ℕ
  pub task : ℕ
  pub snapshot : ScanStart

-- the scan that worker w has open
abbrev pub scan : ℕ → List Event → Option OpenScan
scan w [] = None
scan w (Take v t s ∷ h) = if v == w then Some (record { place = length h; task = t; snapshot = s }) else scan w h
scan w (Commit v n r ∷ h) = if v == w then None else scan w h
scan w (e ∷ h) = scan w h

abbrev pub is_of : ℕ → Option OpenScan → Bool
is_of t None = false
is_of t (Some s) = s.task == t

-- whether a scan of task t is open
abbrev pub is_scanned : ℕ → List Event → Bool
is_scanned t [] = false
is_scanned t (Take w u s ∷ h) = if u == t then true else is_scanned t h
is_scanned t (Commit w n r ∷ h) = if is_of t (scan w h) then false else is_scanned t h
is_scanned t (e ∷ h) = is_scanned t h

-- ---- transactions

-- a transaction that is open: the place of its Hand, what it was made of, and its frames
pub record OpenHand : Type 0 where
  pub place : ℕ
  pub origin : Origin
  pub transaction : FrameList

-- the transaction that bus b has open
abbrev pub hand : ℕ → List Event → Option OpenHand
hand b [] = None
hand b (Hand c s t ∷ h) = if c == b then Some (record { place = length h; origin = s; transaction = t }) else hand b h
hand b (Done c n r ∷ h) = if c == b then None else hand b h
hand b (Down c ∷ h) = if c == b then None else hand b h
hand b (e ∷ h) = hand b h

-- whether bus b went down, and did not come up since
abbrev pub is_down : ℕ → List Event → Bool
is_down b [] = false
is_down b (Down c ∷ h) = if c == b then true else is_down b h
is_down b (Up c ∷ h) = if c == b then false else is_down b h
is_down b (e ∷ h) = is_down b h

-- ---- counts

-- the scans of task t, the frames in the reports of bus b, and what was heard there
abbrev pub scans : ℕ → List Event → ℕ
scans t [] = 0
scans t (Take w u s ∷ h) = if u == t then scans t h + 1 else scans t h
scans t (e ∷ h) = scans t h

abbrev pub frames : ℕ → List Event → ℕ
frames b [] = 0
frames b (Done c n r ∷ h) = if c == b then frames b h + length r.attempts else frames b h
frames b (e ∷ h) = frames b h

abbrev pub heards : ℕ → List Event → ℕ
heards b [] = 0
heards b (Heard c f ∷ h) = if c == b then heards b h + 1 else heards b h
heards b (e ∷ h) = heards b h

-- ---- what went over the links

-- the frames that bus b sent by its reports, first to last, each with its priority and what became of it
abbrev pub sent_in : ℕ → List Event → List Sent
sent_in b [] = []
sent_in b (Done c n r ∷ h) = if c == b then sent_in b h ++ r.attempts else sent_in b h
sent_in b (e ∷ h) = sent_in b h

-- the 24-bit frames that were heard on bus b, first to last
abbrev pub heard_in : ℕ → List Event → List ℕ
heard_in b [] = []
heard_in b (Heard c f ∷ h) = if c == b then heard_in b h ++ f ∷ [] else heard_in b h
heard_in b (e ∷ h) = heard_in b h

-- the moments that the clock gave, first to last
abbrev pub given_in : List Event → List ℕ
given_in [] = []
given_in (Tick m ∷ h) = given_in h ++ m ∷ []
given_in (e ∷ h) = given_in h

-- how often bus b went down
abbrev pub downs_in : ℕ → List Event → ℕ
downs_in b [] = 0
downs_in b (Down c ∷ h) = if c == b then downs_in b h + 1 else downs_in b h
downs_in b (e ∷ h) = downs_in b h

-- how often bus b came up again
abbrev pub ups_in : ℕ → List Event → ℕ
ups_in b [] = 0
ups_in b (Up c ∷ h) = if c == b then ups_in b h + 1 else ups_in b h
ups_in b (e ∷ h) = ups_in b h
