-- Buses and history tell the same, whatever comes.
use Rattle.std.proofs.Common.{◌≡◌, ◌≢◌, ⊎_elim, ℕ, ◌<◌, List, ◌∷◌, length, map, refl, sym, ap, ◌∙◌}
use Rattle.std.proofs.Common.{subst, zero-add, length-set, arith}
use Rattle.std.specs.List.{range_with_len}
use Rattle.std.proofs.lemmas.Bool.{cases_eq}
use Rattle.std.proofs.lemmas.Grind.{get_or-set_at}
use Rattle.std.proofs.lemmas.List.{get_or-set_other}
use Rattle.std.proofs.lemmas.List.FromFn.{get_or-map-range_with_len}
use Rattle.std.proofs.lemmas.Option.{get_or_from_slice_get, slice_get-get_or, slice_get_within}
use Rattle.buslink.specs.BusLog.{BusLog, after_arrival}
use Rattle.wordlines.specs.declared.happenings.Happening.{Happening}
use Rattle.wordlines.specs.declared.happenings.Happening.TheVariants.{Tick, Event, HearFault}
use Rattle.plantevents.specs.declared.event.Event.{Event as PlantEvent}
use Rattle.plantevents.specs.declared.event.Event.TheVariants as event
use Rattle.plant.specs.Shown.{Shown}
use Rattle.plantdriving.specs.Driven.{IsDriven}
use Rattle.plantdriving.specs.Links.{AreLinked, IsLinked, log_of, no_frame}
use Rattle.plantplay.specs.Stage.{Stage, AreStillLinked, Comes, IsPlayedAsFar, IsStillLinked, arriving}
use Rattle.plantplay.proofs.Happened.{kept_as_far}

-- ---- what is driven

-- the first log, with what has come since
abbrev since : List BusLog → List BusLog → ℕ → BusLog
since firsts logs b = record (log_of firsts b) { arrivals = (log_of logs b).arrivals }

abbrev all_since : List BusLog → List BusLog → List BusLog
all_since firsts logs = map (since firsts logs) (range_with_len 0 (length logs))

since_at : (firsts logs : List BusLog) (b : ℕ) → b < length logs → log_of (all_since firsts logs) b ≡ since firsts logs b
since_at firsts logs b below =
    get_or-map-range_with_len (since firsts logs) 0 (length logs) b b no_frame below (zero-add b)

are_linked : (firsts : List BusLog) (h : List PlantEvent) (logs : List BusLog) → AreStillLinked firsts h logs
    → AreLinked (all_since firsts logs) h logs
are_linked firsts h logs are k x there =
    let below = slice_get_within logs k x there in
    subst (λ (n : ℕ). IsLinked (log_of (all_since firsts logs) n) n h x) (sym (zero-add k))
    (subst (λ (log : BusLog). IsLinked (log_of (all_since firsts logs) k) k h log)
    (get_or_from_slice_get logs k x no_frame there)
    (subst (λ (first : BusLog). IsLinked first k h (log_of logs k)) (sym (since_at firsts logs k below)) (are k below)))

linked_driven : (firsts : List BusLog) (p q : Shown) (before after : List BusLog) → IsDriven p q before after
    → AreStillLinked firsts p.history before → AreStillLinked firsts q.history after
linked_driven firsts p q before after driven are b below =
    let was : b < length before = let count = driven.count in omega (arith, below) in
    let log = log_of after b in
    let linked : IsLinked (log_of (all_since firsts before) b) b q.history log =
    subst (λ (n : ℕ). IsLinked (log_of (all_since firsts before) n) n q.history log) (zero-add b)
    (driven.linked (all_since firsts before) (are_linked firsts p.history before are) b log
    (slice_get-get_or after b no_frame below)) in
    subst (λ a. IsLinked (record (log_of firsts b) { arrivals = a }) b q.history log) (sym (driven.same b).arrivals)
    (subst (λ (first : BusLog). IsLinked first b q.history log) (since_at firsts before b was) linked)

-- ---- what comes

linked_tick : (first : BusLog) (b m : ℕ) (h : List PlantEvent) (log : BusLog) → IsStillLinked first b h log
    → IsStillLinked first b (event.Tick m ∷ h) log
linked_tick first b m h log is =
    record { same = is.same; sent = is.sent; heard = is.heard; failed = is.failed; mended = is.mended }

linked_arrival : (first : BusLog) (b : ℕ) (h : List PlantEvent) (log : BusLog) → IsStillLinked first b h log
    → IsStillLinked first b h (after_arrival log)
linked_arrival first b h log is =
    record {
      same = record { number = is.same.number; arrivals = refl };
      sent = is.sent;
      heard = is.heard;
      failed = is.failed;
      mended = is.mended;
    }

linked_arriving : (firsts : List BusLog) (b : ℕ) (s : Stage) → AreStillLinked firsts s.plant.history s.logs
    → AreStillLinked firsts s.plant.history (arriving b s).logs
linked_arriving firsts b s are c below =
    let new = after_arrival (log_of s.logs b) in
    let was : c < length s.logs = let l = length-set s.logs b new in omega (arith, below) in
    ⊎_elim (λ (same : c ≡ b).
    let inside : b < length s.logs = omega (arith, same, was) in
    subst (λ (log : BusLog). IsStillLinked (log_of firsts c) c s.plant.history log)
    (sym (get_or-set_at s.logs b c new no_frame same inside ∙ ap (λ (n : ℕ). after_arrival (log_of s.logs n)) (sym same)))
    (linked_arrival (log_of firsts c) c s.plant.history (log_of s.logs c) (are c was)))
    (λ (other : c ≢ b).
    subst (λ (log : BusLog). IsStillLinked (log_of firsts c) c s.plant.history log)
    (sym (get_or-set_other s.logs b c new no_frame other)) (are c was)) (cases_eq c b)

linked_comes : (firsts : List BusLog) (happening : Happening) (s t : Stage) → Comes happening s t
    → AreStillLinked firsts s.plant.history s.logs → AreStillLinked firsts t.plant.history t.logs
linked_comes firsts (Tick m) s t comes are =
    subst (λ (p : Shown). AreStillLinked firsts p.history t.logs) (sym comes.plant.1)
    (subst (λ (logs : List BusLog). AreStillLinked firsts (event.Tick m ∷ s.plant.history) logs) (sym comes.logs)
    (λ b below. linked_tick (log_of firsts b) b m s.plant.history (log_of s.logs b) (are b below)))
linked_comes firsts (Event b frame) s t comes are =
    subst (λ (x : Stage). AreStillLinked firsts x.plant.history x.logs) (sym comes) (linked_arriving firsts b s are)
linked_comes firsts (HearFault b) s t comes are =
    subst (λ (x : Stage). AreStillLinked firsts x.plant.history x.logs) (sym comes) (linked_arriving firsts b s are)

-- ---- all that happened

abbrev AreLinkedAt : List BusLog → Stage → Type 0
AreLinkedAt firsts s = AreStillLinked firsts s.plant.history s.logs

pub linked_as_far : (firsts : List BusLog) (all rest : List Happening) (s t : Stage) → IsPlayedAsFar all rest s t
    → AreStillLinked firsts s.plant.history s.logs → AreStillLinked firsts t.plant.history t.logs
linked_as_far firsts all rest s t is are =
    kept_as_far (AreLinkedAt firsts) (linked_comes firsts)
    (λ x y driven so. linked_driven firsts x.plant y.plant x.logs y.logs driven so) all rest s t is are
