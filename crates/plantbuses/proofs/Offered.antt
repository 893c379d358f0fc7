-- The requests of a committed scan, which were offered to their buses.
use Rattle.std.proofs.Common.{◌≡◌, ℕ, ◌+◌, ◌<◌, List, ◌∷◌, length, Some, sym, ap, ◌∙◌}
use Rattle.std.proofs.Common.{arith}
use Rattle.std.specs.Prelude.{slice_index_or}
use Rattle.gearcmd.specs.declared.requests.Request.{Request}
use Rattle.gearcmd.specs.declared.requests.TaskKind.{TaskKind}
use Rattle.busqueue.specs.declared.class.Class.{Class}
use Rattle.busqueue.specs.Queues.{class_number}
use Rattle.plantevents.specs.Scans.{Scan}
use Rattle.plantevents.specs.declared.event.Event.{Event}
use Rattle.plantevents.specs.declared.event.Event.TheVariants.{Commit}
use Rattle.plantevents.specs.Plants.{Plant, kind_of}
use Rattle.plantevents.specs.Histories.{OpenScan, scan}
use Rattle.plantevents.specs.Waiting.{after_offers, refused_count, kind_scanned}
use Rattle.plantevents.specs.Waiting.{waiting, dropped}
use Rattle.plantbuses.specs.KeptSteps.{KeptBus, BusesFollow, bus_at}
use Rattle.plantbuses.specs.OfferSteps.{waiting_in, dropped_in, with_queues}

-- what the offers of a scan's requests leave of the buses
pub record AreOffered (kind : TaskKind) (requests : List Request) (before after : List KeptBus) : Type 0 where
  pub count : length after ≡ length before
  pub waits : (b : ℕ) (c : Class) → b < length before → waiting_in (bus_at after b) c
      ≡ after_offers b (class_number c) kind (waiting_in (bus_at before b) c) requests
  pub drops : (b : ℕ) (c : Class) → b < length before → dropped_in (bus_at after b) c
      ≡ dropped_in (bus_at before b) c
      + refused_count b (class_number c) kind (waiting_in (bus_at before b) c) requests
  pub same : (b : ℕ) → b < length before → bus_at after b
      ≡ with_queues (bus_at before b) (bus_at after b).queues

pub buses_offered : (p : Plant) (w n : ℕ) (running : OpenScan) (result : Scan) (h : List Event)
    (before after : List KeptBus) → scan w h ≡ Some running → BusesFollow p h before
    → AreOffered (kind_of p running.task) result.after.requests before after
    → BusesFollow p (Commit w n result ∷ h) after
buses_offered p w n running result h before after busy follows offered = (
  offered.count ∙ follows.0,
  λ b lt.
      let inside : b < length before = let many = follows.0 in omega arith in
      let is = follows.1 b lt in
      let same = offered.same b inside in
      let kind : kind_of p running.task ≡ kind_scanned p (scan w h) = sym (ap (kind_scanned p) busy) in
      let requests = result.after.requests in
      record {
        down_so = ap (λ (x : KeptBus). x.is_down) same ∙ is.down_so;
        handed = ap (λ (x : KeptBus). x.hand) same ∙ is.handed;
        waits = λ c. offered.waits b c inside
            ∙ (ap (λ (q : List Request). after_offers b (class_number c) (kind_of p running.task) q requests)
            (is.waits c)
            ∙ ap (λ (k : TaskKind). after_offers b (class_number c) k (waiting p b (class_number c) h) requests) kind);
        drops = λ c. offered.drops b c inside
            ∙ (ap (λ (d : ℕ). d
            + refused_count b (class_number c) (kind_of p running.task) (waiting_in (bus_at before b) c) requests)
            (is.drops c)
            ∙ (ap (λ (q : List Request). dropped p b (class_number c) h
            + refused_count b (class_number c) (kind_of p running.task) q requests) (is.waits c)
            ∙ ap (λ (k : TaskKind). dropped p b (class_number c) h
            + refused_count b (class_number c) k (waiting p b (class_number c) h) requests) kind));
        addresses = ap (λ (x : KeptBus). length x.levels) same ∙ is.addresses;
        levels = λ a below. ap (λ (x : KeptBus). slice_index_or x.levels a 255) same ∙ is.levels a below;
        framed = ap (λ (x : KeptBus). x.frames) same ∙ is.framed;
        hears = ap (λ (x : KeptBus). x.heards) same ∙ is.hears;
      },
)
