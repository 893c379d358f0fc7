-- What is inside a simulated bus and a scripted clock, and what their callers see of it.
use Rattle.std.specs.Prelude.{◌≡◌, ◌+◌, ◌≤◌, ◌++◌, false, Some, reverse, take, drop, vec_len}
use Rattle.std.specs.Prelude.{vec_capacity}
use Rattle.std.specs.List.{AllPairs}
use Rattle.std.specs.VecDeque.{deque_len, deque_capacity}
use Rattle.simbus.specs.declared.buses.SimBus.TheInside.{Inside}
use Rattle.simbus.specs.declared.clocks.ScriptedClock.TheInside as clocks
use Rattle.simbus.specs.ScriptedTicks.{ScriptedTicks}
use Rattle.buslink.specs.BusLog.{frames_in}
use Rattle.simbus.specs.Simulated.{AreAnswered, Simulated}
use Rattle.simbus.specs.Kept.{setup_of, IsEquipmentOf}

abbrev pub simulated : Inside → Simulated
simulated bus = record {
  setup = setup_of bus.equipment;
  script = bus.script.items;
  waiting = bus.waiting.items;
  log = record {
    number = bus.number;
    arrivals = Some (record { come = reverse bus.met.items ++ bus.waiting.items; later = bus.later.items });
    sent = bus.sent.items;
    heard = bus.heard.items;
    spare = bus.spare;
    failures = bus.failures;
    hears = bus.hears;
    heard_none = bus.heard_none;
    mends = 0;
    is_mended = false;
  };
}

-- The equipment is what all frames that were sent made of it, and made of each what became of it. The spare places are
-- there, and what comes later finds room among what waits. What was met was heard.
pub record IsSimBus (bus : Inside) : Type 0 where
  pub kept : IsEquipmentOf (setup_of bus.equipment) (reverse bus.sent.items) bus.equipment
  pub sent_spare : vec_len bus.sent + bus.spare ≤ vec_capacity bus.sent
  pub heard_spare : vec_len bus.heard + bus.spare ≤ vec_capacity bus.heard
  pub room : deque_len bus.waiting + deque_len bus.later ≤ deque_capacity bus.waiting
  pub heard : bus.heard.items ≡ frames_in (reverse bus.met.items)
  pub answered : AreAnswered (setup_of bus.equipment) bus.script.items (reverse bus.sent.items)

abbrev pub scripted : clocks.Inside → ScriptedTicks
scripted clock = record {
  later = drop clock.given clock.moments.items;
  log = record {
    moments = Some clock.moments.items;
    given = take clock.given clock.moments.items;
    asks = clock.asks;
    gave_none = clock.gave_none;
  };
}

-- Moments never fall, and those that were given are among them.
pub record IsScriptedClock (clock : clocks.Inside) : Type 0 where
  pub never_fall : AllPairs (λ earlier later. earlier ≤ later) clock.moments.items
  pub given : clock.given ≤ vec_len clock.moments
