-- What contracts see of a Share: its receipts are the events of its role since the start of the lock (profile).
use Rattle.std.specs.Prelude.{◌≡◌, ℕ, ◌+◌, ◌<◌, ◌/◌, ◌%◌, Bool, true, false, if◌then◌else◌, List, [], ◌++◌, ◌∷◌}
use Rattle.std.specs.Prelude.{length, map, ⊤}
use Rattle.limits.specs.Limits.{most_buses, most_workers}
use Rattle.plantevents.specs.declared.role.Role.{Role}
use Rattle.plantevents.specs.declared.role.Role.TheVariants.{Worker, Bus, Clock}
use Rattle.plantevents.specs.declared.event.Event.{Event}
use Rattle.plantevents.specs.declared.event.Event.TheVariants.{Tick, Heard}
use Rattle.plantevents.specs.Plants.{Plant}
use Rattle.plantevents.specs.Parts.{Placed, placed, part}
use Rattle.plant.specs.Shown.{Shown, is_reserved}
use Rattle.buslink.specs.Each.{Each}

-- ---- roles

-- a role of the plant, one that has a seat
abbrev pub IsRole : Plant → Role → Type 0
IsRole p (Worker w) = (w < p.workers) × (w < most_workers)
IsRole p (Bus b) = (b < p.plan.buses) × (b < most_buses)
IsRole p Clock = ⊤

-- scan workers, then buses, then the clock
abbrev pub index_of : Role → ℕ
index_of (Worker w) = w
index_of (Bus b) = most_workers + b
index_of Clock = most_workers + most_buses

-- the seat of the k-th of all
abbrev pub seat_at : ℕ → ℕ × ℕ
seat_at k = (k / 9, k % 9)

-- the seat of a role's ledger
abbrev pub seat_of : Role → ℕ × ℕ
seat_of role = seat_at (index_of role)

-- ---- Shares

-- what a contract sees of a Share: its receipts and what was in its role's part before them, the newest first; and
-- whether a place is kept back for it
pub record ShareParts : Type 0 where
  pub role : Role
  pub receipts : List Placed
  pub before : List Placed
  pub reserved : Bool

-- the whole part
abbrev pub whole : ShareParts → List Placed
whole s = s.receipts ++ s.before

-- a tick and a frame that is heard use the place that is kept back for them
abbrev pub uses_place : Event → Bool
uses_place (Tick m) = true
uses_place (Heard b f) = true
uses_place e = false

abbrev pub reserved_after : Event → Bool → Bool
reserved_after e reserved = if uses_place e then false else reserved

-- the receipts of a Share, with its part of the history at the start, are its part of this history
pub record HasPart (s : ShareParts) (h : List Event) : Type 0 where
  pub is : whole s ≡ part s.role h

-- so many places later
abbrev pub moved : ℕ → Placed → Placed
moved n x = placed (n + x.place) x.event

-- the events of a role among those that follow a history of n events, each with its place
abbrev pub part_after : ℕ → Role → List Event → List Placed
part_after n role later = map (moved n) (part role later)

-- the receipts of a Share are its role's events among those that follow a history of n events
pub record HasReceipts (s : ShareParts) (n : ℕ) (later : List Event) : Type 0 where
  pub is : s.receipts ≡ part_after n s.role later

-- the Share of this role of a plant, which has no receipt yet and shows what the role has open or kept
pub record IsFresh (start : Shown) (r : Role) (s : ShareParts) : Type 0 where
  pub role : s.role ≡ r
  pub receipts : s.receipts ≡ []
  pub before : s.before ≡ part r start.history
  pub reserved : s.reserved ≡ is_reserved r start

-- the Shares of the roles with the numbers below n, in their order
abbrev pub AreFresh : Shown → (ℕ → Role) → ℕ → List ShareParts → Type 0
AreFresh start role n shares =
    (length shares ≡ n) × Each (λ k s. IsFresh start (role k) s) 0 shares

-- the receipts of each of these Shares, with its part of the history at the start, are its part of this history
abbrev pub HaveParts : List ShareParts → List Event → Type 0
HaveParts shares h = Each (λ k s. HasPart s h) 0 shares

-- one more than the place of the newest receipt; 0 where there is none
abbrev pub reach_of : List Placed → ℕ
reach_of [] = 0
reach_of (newest ∷ older) = newest.place + 1

-- this is the place of the newest receipt
abbrev pub IsLastPlace : ℕ → List Placed → Type 0
IsLastPlace n receipts = reach_of receipts ≡ n + 1

-- ---- what a call does to a Share

-- the Share with the receipt of one event more
pub record IsNoted (n : ℕ) (e : Event) (s t : ShareParts) : Type 0 where
  pub role : t.role ≡ s.role
  pub receipts : t.receipts ≡ placed n e ∷ s.receipts
  pub before : t.before ≡ s.before
  pub reserved : t.reserved ≡ reserved_after e s.reserved

-- the same Share with a place kept back
pub record IsReserved (s t : ShareParts) : Type 0 where
  pub role : t.role ≡ s.role
  pub receipts : t.receipts ≡ s.receipts
  pub before : t.before ≡ s.before
  pub reserved : t.reserved ≡ true
