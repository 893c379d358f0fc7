-- What is pending for a task, and which task goes next once one was scanned.
use Rattle.std.proofs.Common.{◌≡◌, ◌≢◌, ⊎_elim, ℕ, ◌+◌, ◌-◌, ◌<◌, ◌≤◌, Bool, true, false, List, [], ◌∷◌, ◌++◌, drop}
use Rattle.std.proofs.Common.{length, Option, Some, None, IfSome, slice_get, refl, sym, ap, ◌∙◌, subst, arith, length-append}
use Rattle.std.specs.Prelude.{if◌then◌else◌, nat_lt}
use Rattle.dalievent.specs.declared.messages.EventSource.{EventSource}
use Rattle.dalievent.specs.Messages.{is_message}
use Rattle.circular_buffer.specs.Buffer.{keep_last}
use Rattle.ilmachine.specs.Snapshots.{ScanStart}
use Rattle.ilmachine.specs.Scans.{Scan}
use Rattle.plantevents.specs.declared.activator.Activator.{Activator}
use Rattle.plantevents.specs.declared.activator.Activator.TheVariants.{Interval, Messages}
use Rattle.plantevents.specs.declared.activator.PendingEvent.{PendingEvent}
use Rattle.plantevents.specs.declared.event.Event.{Event}
use Rattle.plantevents.specs.declared.event.Event.TheVariants.{Heard, Take, Commit}
use Rattle.plantevents.specs.Choices.{Rank, Chooses, IsFirstFree, is_free, rank}
use Rattle.plantevents.specs.Histories.{OpenScan}
use Rattle.plantevents.specs.Plants.{Plant, activator, priority}
use Rattle.plantevents.specs.Readiness.{activates, most_pending, pending, pending_event, ready, ready_by, since}
use Rattle.readytasks.specs.TaskSets.{Follows, TaskSet}
use Rattle.refusalsplant.specs.Turns.{scanned}

-- there are as many tasks after another event
pub as_many : (p : Plant) (h later : List Event) (before after : TaskSet) → Follows p h before
    → Follows p later after → (t : ℕ) → t < length before.tasks → t < length after.tasks
as_many p h later before after was is t there = let a = was.count in let b = is.count in omega arith

-- ---- what is pending

one_too_many : (oldest next one : PendingEvent) (more : List PendingEvent) → length more ≡ 30
    → length (oldest ∷ next ∷ (more ++ one ∷ [])) - most_pending ≡ 1
one_too_many oldest next one more count = let all = length-append more (one ∷ []) in omega arith

-- of 33 events the first is given up
pub thirty_third : (a : Option Activator) (b f : ℕ) (h : List Event) (oldest next : PendingEvent)
    (more : List PendingEvent) → activates a b f ≡ true → pending a 2 h ≡ oldest ∷ next ∷ more → length more ≡ 30
    → slice_get (pending a 2 (Heard b f ∷ h)) 0 ≡ Some next
thirty_third a b f h oldest next more message full count =
    let one = pending_event a b f h in
    ap (λ (does : Bool). slice_get (if does then keep_last most_pending (pending a 2 h ++ one ∷ []) else pending a 2 h) 0)
    message
    ∙ (ap (λ (events : List PendingEvent). slice_get (keep_last most_pending (events ++ one ∷ [])) 0) full
    ∙ ap (λ (n : ℕ). slice_get (drop n (oldest ∷ next ∷ (more ++ one ∷ []))) 0)
    (one_too_many oldest next one more count))

-- a task that was taken at 110 is not due before 200
pub not_due : (a : Option Activator) (m : ℕ) (last : Option ℕ) (events : List PendingEvent)
    → a ≡ Some (Interval 100) → m ≡ 190 → last ≡ Some 110 → ready_by a m last events ≡ false
not_due a m last events cyclic moment taken = rw (cyclic, moment, taken) refl

-- a message of bus 1 leaves a task alone whose source is on bus 0
pub other_bus : (a : Option Activator) (first : ℕ) (source : EventSource) (f : ℕ) (h : List Event)
    → a ≡ Some (Messages 0 source first) → pending a 2 h ≡ [] → ready a 2 (Heard 1 f ∷ h) ≡ false
other_bus a first source f h is none =
    ap (λ (b : Option Activator). ready b 2 (Heard 1 f ∷ h)) is
    ∙ ap (λ (events : List PendingEvent). nat_lt 0 (length events))
    (ap (λ (b : Option Activator). pending b 2 h) (sym is) ∙ none)

-- the first message of a source that begins to count at 100 has the number 101
pub first_count : (a : Option Activator) (source : EventSource) (f : ℕ) → a ≡ Some (Messages 0 source 100)
    → is_message source f ≡ true → IfSome (slice_get (pending a 0 (Heard 0 f ∷ [])) 0) (λ e. e.count ≡ 101)
first_count a source f is message = rw (is, message) refl

-- ---- which task goes next

abbrev pub open_scan : List Event → ScanStart → OpenScan
open_scan h snapshot = record { place = length h; task = 0; snapshot = snapshot }

either : (b : Bool) (k n m : ℕ) → k < n → k < m → k < (if b then n else m)
either true k n m low high = low
either false k n m low high = high

-- a task is ready anew, if it is, once it was taken
pub since_take : (a : Option Activator) (snapshot : ScanStart) (result : Scan) (h : List Event)
    → length h < since a 0 (scanned snapshot result h)
since_take a snapshot result h =
    let taken = Take 0 0 snapshot ∷ h in
    either (ready a 0 taken) (length h) (length h + 1) (length taken + 1) (omega arith) (omega arith)

-- of two tasks with one priority the one that has been ready for longer goes before the other
pub behind : (free : ℕ → Bool) (ranks : ℕ → Rank) (n : ℕ) (chosen : Option ℕ) → Chooses free ranks n chosen → 1 < n
    → free 1 ≡ true → (ranks 0).priority ≡ (ranks 1).priority → (ranks 1).since < (ranks 0).since → chosen ≢ Some 0
behind free ranks n chosen chooses many waits alike longer = λ is.
    let first : IsFirstFree free ranks n 0 = subst (λ (o : Option ℕ). Chooses free ranks n o) is chooses in
    ⊎_elim (λ (lower : (ranks 0).priority < (ranks 1).priority). omega arith)
    (λ same. ⊎_elim (λ (sooner : (ranks 0).since < (ranks 1).since). omega arith)
    (λ at_once. let e = at_once.0 in omega arith) same.1)
    (first.first 1 many waits)

-- a task that is not free does not go
pub passed_over : (free : ℕ → Bool) (ranks : ℕ → Rank) (n : ℕ) (chosen : Option ℕ) → Chooses free ranks n chosen
    → free 0 ≡ false → chosen ≢ Some 0
passed_over free ranks n chosen chooses none = λ is.
    let first : IsFirstFree free ranks n 0 = subst (λ (o : Option ℕ). Chooses free ranks n o) is chooses in
    let free = first.free in absurd (cc)
