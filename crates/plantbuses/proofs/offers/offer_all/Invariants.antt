use Rattle.std.proofs.Common.{◌≡◌, ℕ, ◌+◌, ◌<◌, ◌≤◌, length, drop}
use Rattle.busqueue.specs.declared.class.Class.{Class}
use Rattle.busqueue.specs.Queues.{class_number}
use Rattle.plantevents.specs.Waiting.{after_offers, refused_count}
use Rattle.plantbuses.specs.KeptSteps.{bus_at}
use Rattle.plantbuses.specs.OfferSteps.{waiting_in, dropped_in, with_queues}
use Rattle.plantbuses.proofs.offers.offer_all.Given as goal

abbrev pub invariant-loop-request : goal.invariant-loop-request
invariant-loop-request l = record {
  count : length l.buses.items ≡ length l.fn.buses.items;
  waits : (b : ℕ) (c : Class) → b < length l.fn.buses.items
      → after_offers b (class_number c) l.kind (waiting_in (bus_at l.buses.items b) c) (drop l.request-index l.requests)
      ≡ after_offers b (class_number c) l.kind (waiting_in (bus_at l.fn.buses.items b) c) l.requests;
  drops : (b : ℕ) (c : Class) → b < length l.fn.buses.items
      → dropped_in (bus_at l.buses.items b) c
      + refused_count b (class_number c) l.kind (waiting_in (bus_at l.buses.items b) c)
      (drop l.request-index l.requests)
      ≡ dropped_in (bus_at l.fn.buses.items b) c
      + refused_count b (class_number c) l.kind (waiting_in (bus_at l.fn.buses.items b) c) l.requests;
  few : (b : ℕ) (c : Class) → b < length l.fn.buses.items
      → dropped_in (bus_at l.buses.items b) c ≤ dropped_in (bus_at l.fn.buses.items b) c + l.request-index;
  same : (b : ℕ) → b < length l.fn.buses.items
      → bus_at l.buses.items b ≡ with_queues (bus_at l.fn.buses.items b) (bus_at l.buses.items b).queues;
}
