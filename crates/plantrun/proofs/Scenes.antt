-- What a history says of the scenario that it follows, from what the buses and the clock of the scenario did.
use Rattle.std.proofs.Common.{◌≡◌, ◌∙◌, ap, sym, subst, ℕ, zero, suc, ◌<◌, List, [], ◌∷◌, ◌++◌, length, map}
use Rattle.std.proofs.Common.{Option, Some, None, All, refl, arith, inl, inr, false, true≢false}
use Rattle.std.specs.Prelude.{IfSome, reverse, slice_get, get_or, option_map}
use Rattle.std.specs.List.{filter_map}
use Rattle.std.proofs.lemmas.List.Elements.{All-get_or, filter_map-append}
use Rattle.std.proofs.lemmas.Option.{get_or_from_slice_get, slice_get-map, slice_get_within}
use Rattle.buslink.specs.declared.arrivals.Arrival.{Arrival}
use Rattle.buslink.specs.BusLog.{Arrivals, BusLog, frame_in, frames_in}
use Rattle.buslink.specs.ClockLog.{ClockLog, HasGivenAll}
use Rattle.wordlines.specs.declared.statements.Statement.{Statement}
use Rattle.wordlines.specs.Happenings.{ticks}
use Rattle.buslink.specs.declared.marks.Sent.{Sent}
use Rattle.simbus.specs.declared.scripts.ScriptedReply.{ScriptedReply}
use Rattle.simbus.specs.Histories.{Setup}
use Rattle.simbus.specs.Setups.{arrival_on}
use Rattle.simbus.specs.ScriptedTicks.{IsByScript, ScriptedTicks}
use Rattle.simbus.specs.Simulated.{AreAnswered, IsAsSetUp, Simulated, all_arrived}
use Rattle.simbus.specs.Staged.{IsOnStage, bus_of, equipment_of}
use Rattle.plantevents.specs.declared.event.Event.{Event}
use Rattle.plantevents.specs.Histories.{given_in, heard_in, is_down, sent_in}
use Rattle.plant.specs.Shown.{Shown}
use Rattle.workers.specs.Links.{IsLinked}
use Rattle.workers.specs.Quiet.{HasNoFrame}
use Rattle.plantplay.specs.Installations.{sim_log}
use Rattle.plantrun.specs.Scenes.{IsBusFollowing, IsBusOf, events_on, script_of}

-- ---- one bus

-- what has come, where that is known
abbrev come_in : Option Arrivals → List Arrival
come_in None = []
come_in (Some arrivals) = arrivals.come

-- what became of a bus before the run
abbrev pub first_log : List Statement → ℕ → BusLog
first_log scenario b = sim_log (all_arrived (bus_of scenario b))

module _ (scenario : List Statement) (h : List Event) (b : ℕ) where
  heard_first : (bus : Simulated) → IsLinked (first_log scenario b) b h bus.log → (is : IsAsSetUp bus)
      → events_on b scenario ≡ heard_in b h ++ frames_in bus.waiting
  heard_first bus linked is =
      let come : filter_map (arrival_on b) scenario ≡ is.met ++ bus.waiting =
      ap come_in (sym linked.same.arrivals ∙ is.arrivals) in
      let met : frames_in is.met ≡ heard_in b h = sym is.heard ∙ linked.heard in
      ap frames_in come
      ∙ (filter_map-append frame_in is.met bus.waiting ∙ ap (λ (x : List ℕ). x ++ frames_in bus.waiting) met)

  answered : (bus : Simulated) → IsLinked (first_log scenario b) b h bus.log → IsOnStage scenario bus → IsAsSetUp bus
      → AreAnswered (equipment_of scenario b) (script_of b scenario) (reverse (sent_in b h))
  answered bus linked stage is =
      let number : bus.log.number ≡ b = linked.same.number in
      let setup : bus.setup ≡ equipment_of scenario b = stage.setup ∙ ap (equipment_of scenario) number in
      let script : bus.script ≡ script_of b scenario = stage.script ∙ ap (λ (n : ℕ). script_of n scenario) number in
      let sent : bus.log.sent ≡ sent_in b h = linked.sent in
      subst (λ (x : Setup). AreAnswered x (script_of b scenario) (reverse (sent_in b h))) setup
      (subst (λ (x : List ScriptedReply). AreAnswered bus.setup x (reverse (sent_in b h))) script
      (subst (λ (x : List Sent). AreAnswered bus.setup bus.script (reverse x)) sent is.answered))

  pub bus_follows : (bus : Simulated) → IsLinked (first_log scenario b) b h bus.log → IsOnStage scenario bus → IsAsSetUp bus
      → IsBusFollowing scenario h b
  bus_follows bus linked stage is = record {
    later = frames_in bus.waiting;
    heard = heard_first bus linked is;
    answered = answered bus linked stage is;
  }

  pub is_bus_of : (bus : Simulated) → IsLinked (first_log scenario b) b h bus.log → IsOnStage scenario bus → IsAsSetUp bus
      → IsBusOf scenario b bus
  is_bus_of bus linked stage is = record { number = linked.same.number; stage = stage; happened = is }

  pub heard_all : (p : Shown) (log before : BusLog) → p.history ≡ h → IsLinked (first_log scenario b) b h log
      → HasNoFrame p b before log → is_down b h ≡ false → heard_in b h ≡ events_on b scenario
  heard_all p log before same linked (inl down) up =
      absurd (true≢false (sym down ∙ (ap (is_down b) same ∙ up)))
  heard_all p log before same linked (inr silent) up =
      let all : log.heard ≡ events_on b scenario =
      subst (λ (x : Option Arrivals). IfSome x (λ (a : Arrivals). log.heard ≡ frames_in a.come)) linked.same.arrivals
      silent.all in
      sym linked.heard ∙ all

-- ---- the clock

moments_are : (known : Option (List ℕ)) (all given later : List ℕ) → known ≡ Some all → known ≡ Some (given ++ later)
    → all ≡ given ++ later
moments_are known all given later one other = cc

pub ticks_first : (scenario : List Statement) (h : List Event) (clock : ScriptedTicks)
    → clock.log.given ≡ given_in h → clock.log.moments ≡ Some (ticks scenario) → IsByScript clock
    → ticks scenario ≡ given_in h ++ clock.later
ticks_first scenario h clock given moments is =
    moments_are clock.log.moments (ticks scenario) clock.log.given clock.later moments is.moments
    ∙ ap (λ (x : List ℕ). x ++ clock.later) given

pub ticks_all : (scenario : List Statement) (h : List Event) (log : ClockLog) → log.given ≡ given_in h
    → log.moments ≡ Some (ticks scenario) → HasGivenAll log → given_in h ≡ ticks scenario
ticks_all scenario h log given moments all =
    sym given ∙ subst (λ (x : Option (List ℕ)). IfSome x (λ (m : List ℕ). log.given ≡ m)) moments all

-- ---- places in lists

pub record There {X : Type 0} (xs : List X) (k : ℕ) : Type 0 where
  pub x : X
  pub is : slice_get xs k ≡ Some x

pub there : {X : Type 0} (xs : List X) (k : ℕ) → k < length xs → There xs k
there [] k inside = absurd (omega arith)
there (y ∷ ys) zero inside = record { x = y; is = refl }
there (y ∷ ys) (suc k) inside =
    let next = there ys k (omega (arith, inside)) in record { x = next.x; is = next.is }

pub all_at : {X : Type 0} (P : X → Type 0) (xs : List X) (k : ℕ) (x : X) → All P xs → slice_get xs k ≡ Some x → P x
all_at P xs k x all is =
    subst P (get_or_from_slice_get xs k x x is) (All-get_or P xs k x (slice_get_within xs k x is) all)

pub get_front : {X : Type 0} (xs ys : List X) (k : ℕ) (x : X) → slice_get xs k ≡ Some x
    → slice_get (xs ++ ys) k ≡ Some x
get_front [] ys k x is = absurd (cc)
get_front (y ∷ xs) ys zero x is = is
get_front (y ∷ xs) ys (suc k) x is = get_front xs ys k x is

pub get_last : {X : Type 0} (xs : List X) (x : X) (k : ℕ) → k ≡ length xs → slice_get (xs ++ x ∷ []) k ≡ Some x
get_last [] x k is = ap (λ n. slice_get (x ∷ []) n) is
get_last (y ∷ xs) x zero is = absurd (omega (arith, is))
get_last (y ∷ xs) x (suc k) is = get_last xs x k (omega (arith, is))

pub get_mapped : {X Y : Type 0} (f : X → Y) (xs : List X) (k : ℕ) (x : X) (y : Y) → slice_get xs k ≡ Some x
    → get_or (map f xs) k y ≡ f x
get_mapped f xs k x y is =
    get_or_from_slice_get (map f xs) k (f x) y (slice_get-map f xs k ∙ ap (option_map f) is)
