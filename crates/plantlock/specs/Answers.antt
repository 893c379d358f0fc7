-- What a call under the lock answers; what a Share shows open: a commit or a report of that is never refused.
use Rattle.std.specs.Prelude.{◌≡◌, ℕ, List, Some, true, false, Result, Ok, Err, MatchResult}
use Rattle.gearcmd.specs.FrameLists.{FrameList}
use Rattle.ilmachine.specs.Scans.{Scan}
use Rattle.plantevents.specs.Histories.{OpenScan, OpenHand}
use Rattle.plantevents.specs.Legal.{AreLegal}
use Rattle.plantevents.specs.Parts.{Placed, part, shown_scan, shown_hand, shown_down}
use Rattle.plant.specs.declared.refusal.CallRefusal.{CallRefusal}
use Rattle.plant.specs.declared.refusal.CallRefusal.TheVariants.{BusDown, NothingReady, Full}
use Rattle.plant.specs.Refusals.{GivesFirst, hand_cases}
use Rattle.plant.specs.Shown.{Shown, is_reserved}
use Rattle.plantreceipts.specs.Receipts.{ShareParts, whole}
use Rattle.plantlock.specs.Tied.{IsFront}

-- ---- the plant under the lock

-- This plant may lie under the lock, as whoever has this Share knows: it is made of the same as at the start, its
-- history goes on from there and is legal, what the Share has is its role's part of that, and a place is kept back
-- where the Share says so.
pub record IsUnderLock (start : Shown) (s : ShareParts) (p : Shown) : Type 0 where
  pub plant : p.plant ≡ start.plant
  pub limit : p.limit ≡ start.limit
  pub front : IsFront start.history p.history
  pub legal : AreLegal p.plant p.history
  pub part : whole s ≡ part s.role p.history
  pub place : s.reserved ≡ is_reserved s.role p

-- What a call answers. With a Share, which was s and is t, it found a plant under the lock and left one there. It is
-- accepted or refused as the plant that it found wants it. Where it is accepted it left what that plant becomes, and
-- where it is refused that plant as it was.
pub record Answer {A E : Type 0} (start : Shown) (s t : ShareParts) (wants : Shown → Result A E → Type 0)
    (becomes : A → Shown → Shown) (result : Result A E) : Type 0 where
  pub found : Shown
  pub left : Shown
  pub before : IsUnderLock start s found
  pub wanted : wants found result
  pub done : MatchResult result (λ x. left ≡ becomes x found) (λ e. left ≡ found)
  pub after : IsUnderLock start t left

-- the same under a name that is unfolded only where that is asked for: callers need not look into it
unfoldable pub IsAnswered : {A E : Type 0} → Shown → ShareParts → ShareParts → (Shown → Result A E → Type 0)
    → (A → Shown → Shown) → Result A E → Type 0
IsAnswered start s t wants becomes result = Answer start s t wants becomes result

-- a bus is handed what is next, or refused, as the cases of a Hand say
pub record GivesHand {A : Type 0} (bus : ℕ) (p : Shown) (result : Result A CallRefusal) : Type 0 where
  pub refused : GivesFirst (hand_cases p bus) result

-- accepted where this is so, and refused where it is not
abbrev pub Decides : {A E : Type 0} → Type 0 → Result A E → Type 0
Decides P (Ok x) = P
Decides P (Err e) = ¬ P

-- ---- refusals

-- why no frame may be heard on a bus: it is down, as the part shows; or the history is full
abbrev pub IsUnheard : List Placed → CallRefusal → Type 0
IsUnheard part BusDown = shown_down part ≡ true
IsUnheard part refusal = refusal ≡ Full

-- why a bus does not come up: it is not down, as the part shows; or the history is full
abbrev pub IsNotUp : List Placed → CallRefusal → Type 0
IsNotUp part NothingReady = shown_down part ≡ false
IsNotUp part refusal = refusal ≡ Full

-- ---- what a Share shows open

-- the part shows this scan open
pub record ShowsScan (part : List Placed) (scan : Scan) : Type 0 where
  pub running : OpenScan
  pub is_open : shown_scan part ≡ Some running
  pub number : scan.number ≡ running.place
  pub snapshot : scan.snapshot ≡ running.snapshot

-- A scan under the number of the one that the part shows open began from its snapshot. Whoever makes the scan of what
-- the worker took knows that.
abbrev pub IsOwn : List Placed → Scan → Type 0
IsOwn part scan =
    (running : OpenScan) → shown_scan part ≡ Some running → scan.number ≡ running.place
    → scan.snapshot ≡ running.snapshot

-- the part shows this transaction open, handed out under this number
pub record ShowsTransaction (part : List Placed) (n : ℕ) (transaction : FrameList) : Type 0 where
  pub handed : OpenHand
  pub is_open : shown_hand part ≡ Some handed
  pub number : n ≡ handed.place
  pub same : transaction ≡ handed.transaction
