-- Which bus sends first, and how long it does.
use Rattle.std.proofs.Common.{◌≡◌, ◌⊎◌, ⊎_elim, inl, inr, ℕ, ◌+◌, ◌*◌, ◌<◌, ◌≤◌, List, [], ◌∷◌, ◌++◌, length}
use Rattle.std.proofs.Common.{refl, ap, sym, ◌∙◌, subst, arith, append_assoc, length-append}
use Rattle.std.specs.Prelude.{⊤}
use Rattle.buslink.specs.BusLog.{BusLog}
use Rattle.gearcmd.specs.FrameLists.{FrameList}
use Rattle.ilmachine.specs.Scans.{Scan}
use Rattle.buslink.specs.Attempts.{ReportParts}
use Rattle.plantevents.specs.declared.event.Event.{Event}
use Rattle.plantevents.specs.declared.event.Event.TheVariants.{Tick, Heard, Take, Commit, Hand, Done, Down, Up}
use Rattle.plantevents.specs.declared.event.Origin.{Origin}
use Rattle.plantevents.specs.Plants.{Plant}
use Rattle.plant.specs.Shown.{Shown}
use Rattle.plantdriving.specs.Driven.{AreHeardUpTo, IsHeardFirst}
use Rattle.plantdriving.specs.Order.{CameInTurn, HaveNothing, next_place, place_after, scans_at, sends_at, with_events}
use Rattle.plantdriving.specs.Quiet.{HasNoHandout, HasNoScan}

-- ---- what is sent or committed is not heard

abbrev IsSending : Event → Type 0
IsSending (Commit w n result) = ⊤
IsSending (Hand b origin transaction) = ⊤
IsSending (Done b number report) = ⊤
IsSending e = ⊥

newest_hears : (b : ℕ) (e : Event) (events : List Event) → AreHeardUpTo b (e ∷ events) → ¬ IsSending e
newest_hears b (Heard c frame) events are sends = sends
newest_hears b (Down c) events are sends = sends
newest_hears b (Tick m) events are sends = sends
newest_hears b (Take w t s) events are sends = sends
newest_hears b (Commit w n r) events are sends = are
newest_hears b (Hand c s t) events are sends = are
newest_hears b (Done c n r) events are sends = are
newest_hears b (Up c) events are sends = sends

record Older (events : List Event) : Type 0 where
  bus : ℕ
  order : AreHeardUpTo bus events

older_ones : (b : ℕ) (e : Event) (events : List Event) → AreHeardUpTo b (e ∷ events) → Older events
older_ones b (Heard c frame) events are = record { bus = c; order = are.1 }
older_ones b (Down c) events are = record { bus = c; order = are.1 }
older_ones b (Tick m) events are = absurd are
older_ones b (Take w t s) events are = absurd are
older_ones b (Commit w n r) events are = absurd are
older_ones b (Hand c s t) events are = absurd are
older_ones b (Done c n r) events are = absurd are
older_ones b (Up c) events are = absurd are

not_among : (b : ℕ) (heard h later rest : List Event) (x : Event) → AreHeardUpTo b heard → IsSending x
    → length h ≤ length rest → heard ++ h ≡ later ++ x ∷ rest → ⊥
not_among b [] h later rest x are sends long is =
    let same = ap length is in let sum = length-append later (x ∷ rest) in absurd (omega (arith, same, sum, long))
not_among b (e ∷ heard) h [] rest x are sends long is =
    let own : x ≡ e = cc in newest_hears b e heard are (subst IsSending own sends)
not_among b (e ∷ heard) h (l ∷ later) rest x are sends long is =
    let older = older_ones b e heard are in not_among older.bus heard h later rest x older.order sends long cc

-- ---- the event among those that came in turn

record Among (events base later rest : List Event) (x : Event) : Type 0 where
  older : List Event
  is : events ≡ later ++ x ∷ older
  below : older ++ base ≡ rest

among : (b : ℕ) (events heard h later rest : List Event) (x : Event) → AreHeardUpTo b heard → IsSending x
    → length h ≤ length rest → events ++ (heard ++ h) ≡ later ++ x ∷ rest → Among events (heard ++ h) later rest x
among b [] heard h later rest x are sends long is = absurd (not_among b heard h later rest x are sends long is)
among b (e ∷ events) heard h [] rest x are sends long is =
    let own : e ≡ x = cc in
    record { older = events; is = ap (λ (f : Event). f ∷ events) own; below = cc }
among b (e ∷ events) heard h (l ∷ later) rest x are sends long is =
    let own : e ≡ l = cc in
    let more = among b events heard h later rest x are sends long cc in
    record {
      older = more.older;
      is = ap (λ (f : Event). f ∷ events) own ∙ ap (λ (es : List Event). l ∷ es) more.is;
      below = more.below;
    }

older_in_turn : (p : Shown) (e : Event) (events : List Event) → CameInTurn p (e ∷ events) → CameInTurn p events
older_in_turn p (Heard c frame) events came = came.1
older_in_turn p (Down c) events came = came.1
older_in_turn p (Take w t s) events came = came.1
older_in_turn p (Commit w n r) events came = came.1
older_in_turn p (Hand c s t) events came = came.1
older_in_turn p (Done c n r) events came = came.1
older_in_turn p (Tick m) events came = absurd came
older_in_turn p (Up c) events came = absurd came

in_turn_from : (p : Shown) (later events : List Event) → CameInTurn p (later ++ events) → CameInTurn p events
in_turn_from p [] events came = came
in_turn_from p (e ∷ later) events came = in_turn_from p later events (older_in_turn p e (later ++ events) came)

-- ---- what was so as a transaction was handed out

record HandedInTurn (p : Shown) (b : ℕ) (rest : List Event) : Type 0 where
  at : Shown
  older : List Event
  heard : List Event
  bus : ℕ
  order : AreHeardUpTo bus heard
  below : older ++ (heard ++ p.history) ≡ rest
  history : at.history ≡ rest
  plant : at.plant ≡ p.plant
  passed : HaveNothing at (place_after older) (sends_at b)

handed_in_turn : (p q : Shown) (before after : List BusLog) (b : ℕ) (origin : Origin) (t : FrameList)
    (later rest : List Event) → IsHeardFirst p q before after → length p.history ≤ length rest
    → q.history ≡ later ++ Hand b origin t ∷ rest → HandedInTurn p b rest
handed_in_turn p q before after b origin t later rest first long is =
    let m = first.between in let heard = first.heard.events in let events = first.turns.events in
    let whole : events ++ (heard ++ p.history) ≡ later ++ Hand b origin t ∷ rest =
    ap (λ (h : List Event). events ++ h) (sym first.heard.history) ∙ (sym first.turns.history ∙ is) in
    let a = among p.plant.plan.buses events heard p.history later rest (Hand b origin t) first.heard.order tt long whole in
    let came = in_turn_from m later (Hand b origin t ∷ a.older)
    (subst (λ (es : List Event). CameInTurn m es) a.is first.turns.order) in
    record {
      at = with_events m a.older;
      older = a.older;
      heard = heard;
      bus = p.plant.plan.buses;
      order = first.heard.order;
      below = a.below;
      history = ap (λ (h : List Event). a.older ++ h) first.heard.history ∙ a.below;
      plant = first.heard.driven.plant;
      passed = came.0;
    }

-- ---- the same of a plant with the same history

scan_moved : (p q : Shown) → q.history ≡ p.history → q.plant ≡ p.plant → HasNoScan q → HasNoScan p
scan_moved p q history plant none =
    subst (λ (m : Plant). HasNoScan (record p { plant = m })) plant
    (subst (λ (h : List Event). HasNoScan (record p { plant = q.plant; history = h })) history none)

handout_moved : (p q : Shown) (b : ℕ) → q.history ≡ p.history → q.plant ≡ p.plant → HasNoHandout q b
    → HasNoHandout p b
handout_moved p q b history plant none =
    subst (λ (m : Plant). HasNoHandout (record p { plant = m }) b) plant
    (subst (λ (h : List Event). HasNoHandout (record p { plant = q.plant; history = h }) b) history none)

-- ---- what is sent first

none_older : (older heard h : List Event) → older ++ (heard ++ h) ≡ h → older ≡ []
none_older [] heard h is = refl
none_older (e ∷ older) heard h is =
    let same = ap length is in let sum = length-append older (heard ++ h) in let part = length-append heard h in
    absurd (omega (arith, same, sum, part))

first_place : (older heard h : List Event) → older ++ (heard ++ h) ≡ h → place_after older ≡ scans_at
first_place older heard h is = ap place_after (none_older older heard h is)

-- where what is done first is that a bus sends, no task is ready
pub no_task_ready : (p q : Shown) (before after : List BusLog) → IsHeardFirst p q before after → (b : ℕ)
    (origin : Origin) (t : FrameList) (later : List Event) → q.history ≡ later ++ Hand b origin t ∷ p.history
    → HasNoScan p
no_task_ready p q before after first b origin t later is =
    let handed = handed_in_turn p q before after b origin t later p.history first (omega arith) is in
    let from = first_place handed.older handed.heard p.history handed.below in
    scan_moved p handed.at handed.history handed.plant (handed.passed.scans (inl (omega (arith, from), omega arith)))

-- and nothing waits for a bus below
pub nothing_waits_below : (p q : Shown) (before after : List BusLog) → IsHeardFirst p q before after
    → 0 < p.plant.plan.buses → (origin : Origin) (t : FrameList) (later : List Event)
    → q.history ≡ later ++ Hand 1 origin t ∷ p.history → HasNoHandout p 0
nothing_waits_below p q before after first known origin t later is =
    let handed = handed_in_turn p q before after 1 origin t later p.history first (omega arith) is in
    let from = first_place handed.older handed.heard p.history handed.below in
    let there : 0 < handed.at.plant.plan.buses =
    subst (λ (m : Plant). 0 < m.plan.buses) (sym handed.plant) known in
    handout_moved p handed.at 0 handed.history handed.plant
    (handed.passed.buses 0 there (inl (omega (arith, from), omega arith)))

-- ---- how long scans are made, and how long a bus sends

place_then : (x : Event) (older heard h earlier : List Event) (bus : ℕ) → IsSending x → AreHeardUpTo bus heard
    → older ++ (heard ++ h) ≡ x ∷ (earlier ++ h) → place_after older ≡ next_place x
place_then x [] heard h earlier bus sends order is =
    let sum = length-append earlier h in
    absurd (not_among bus heard h [] (earlier ++ h) x order sends (omega (arith, sum)) is)
place_then x (e ∷ older) heard h earlier bus sends order is =
    let own : e ≡ x = cc in ap next_place own

-- where a bus sends next after a scan, no task is ready
pub no_task_ready_then : (p q : Shown) (before after : List BusLog) → IsHeardFirst p q before after → (w n b : ℕ)
    (result : Scan) (origin : Origin) (t : FrameList) (later earlier : List Event)
    → q.history ≡ later ++ Hand b origin t ∷ Commit w n result ∷ (earlier ++ p.history)
    → HasNoScan (with_events p (Commit w n result ∷ earlier))
no_task_ready_then p q before after first w n b result origin t later earlier is =
    let rest = Commit w n result ∷ (earlier ++ p.history) in
    let sum = length-append earlier p.history in
    let long : length p.history ≤ length rest = omega (arith, sum) in
    let handed = handed_in_turn p q before after b origin t later rest first long is in
    let from : place_after handed.older ≡ scans_at =
    place_then (Commit w n result) handed.older handed.heard p.history earlier handed.bus tt handed.order handed.below in
    scan_moved (with_events p (Commit w n result ∷ earlier)) handed.at handed.history handed.plant
    (handed.passed.scans (inl (omega (arith, from), omega arith)))

-- where bus 1 sends next after bus 0, nothing waits for bus 0
pub nothing_waits_then : (p q : Shown) (before after : List BusLog) → IsHeardFirst p q before after
    → 0 < p.plant.plan.buses → (n : ℕ) (report : ReportParts) (origin : Origin) (t : FrameList)
    (later earlier : List Event)
    → q.history ≡ later ++ Hand 1 origin t ∷ Done 0 n report ∷ (earlier ++ p.history)
    → HasNoHandout (with_events p (Done 0 n report ∷ earlier)) 0
nothing_waits_then p q before after first known n report origin t later earlier is =
    let rest = Done 0 n report ∷ (earlier ++ p.history) in
    let sum = length-append earlier p.history in
    let long : length p.history ≤ length rest = omega (arith, sum) in
    let handed = handed_in_turn p q before after 1 origin t later rest first long is in
    let from : place_after handed.older ≡ sends_at 0 =
    place_then (Done 0 n report) handed.older handed.heard p.history earlier handed.bus tt handed.order handed.below in
    let there : 0 < handed.at.plant.plan.buses =
    subst (λ (m : Plant). 0 < m.plan.buses) (sym handed.plant) known in
    handout_moved (with_events p (Done 0 n report ∷ earlier)) handed.at 0 handed.history handed.plant
    (handed.passed.buses 0 there (inl (omega (arith, from), omega (arith, from))))
