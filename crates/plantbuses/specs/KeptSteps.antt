-- What is kept of buses, of scan workers and of the process image says of a history.
use Rattle.std.specs.Prelude.{◌≡◌, ℕ, ◌<◌, Bool, false, List, [], length, slice_index_or}
use Rattle.std.specs.Prelude.{Option, None}
use Rattle.gearcmd.specs.declared.requests.Request.{Request}
use Rattle.busqueue.specs.declared.class.Class.{Class}
use Rattle.busqueue.specs.Queues.{BusQueues, queue, queue_of, class_number}
use Rattle.ilmachine.specs.Images.{ProcessImage, ImageVariable, layout_of, value_of, blocks_of}
use Rattle.plantevents.specs.declared.event.Event.{Event}
use Rattle.plantevents.specs.Plants.{Plant, layout}
use Rattle.plantevents.specs.Histories.{OpenScan, OpenHand, scan, hand, is_down}
use Rattle.plantevents.specs.Histories as histories
use Rattle.plantevents.specs.Histories.{frames, heards}
use Rattle.plantevents.specs.Variables.{value, blocks}
use Rattle.plantevents.specs.Waiting.{waiting, dropped, handed_level}

-- ---- buses

-- what is kept of a bus: the level that was handed out last for each address, the frames of its reports, and how many
-- frames were heard
pub record KeptBus : Type 0 where
  pub is_down : Bool
  pub hand : Option OpenHand
  pub queues : BusQueues
  pub levels : List ℕ
  pub frames : ℕ
  pub heards : ℕ

-- what is kept of a bus, by what it says
pub record BusSays (waiting : ℕ → List Request) (dropped : ℕ → ℕ) (open_hand : Option OpenHand) (down : Bool)
    (level : ℕ → ℕ) (frame_count heard_count : ℕ) (bus : KeptBus) : Type 0 where
  pub down_so : bus.is_down ≡ down
  pub handed : bus.hand ≡ open_hand
  pub waits : (c : Class) → (queue_of bus.queues c).waiting ≡ waiting (class_number c)
  pub drops : (c : Class) → (queue_of bus.queues c).dropped ≡ dropped (class_number c)
  pub addresses : length bus.levels ≡ 81
  pub levels : (a : ℕ) → a < 81 → slice_index_or bus.levels a 255 ≡ level a
  pub framed : bus.frames ≡ frame_count
  pub hears : bus.heards ≡ heard_count

-- It is what the history says of bus b. By conversion this is the same after an event that is of no bus.
abbrev pub BusFollows : Plant → ℕ → List Event → KeptBus → Type 0
BusFollows p b h bus =
    BusSays (λ c. waiting p b c h) (λ c. dropped p b c h) (hand b h) (is_down b h) (λ a. handed_level b a h)
    (frames b h) (heards b h) bus

-- what stands past the end of the list
abbrev pub no_bus : KeptBus
no_bus =
    record {
      is_down = false;
      hand = None;
      queues = record {
        user_action = queue [] 0;
        configuration = queue [] 0;
        automatic_action = queue [] 0;
        query = queue [] 0;
      };
      levels = [];
      frames = 0;
      heards = 0;
    }

abbrev pub bus_at : List KeptBus → ℕ → KeptBus
bus_at buses b = slice_index_or buses b no_bus

abbrev pub BusesFollow : Plant → List Event → List KeptBus → Type 0
BusesFollow p h buses =
    (length buses ≡ p.plan.buses) × ((b : ℕ) → b < p.plan.buses → BusFollows p b h (bus_at buses b))

-- so many buses to which nothing has happened
abbrev pub AreFresh : ℕ → List KeptBus → Type 0
AreFresh n buses = (length buses ≡ n) × ((p : Plant) (b : ℕ) → b < n → BusFollows p b [] (bus_at buses b))

-- ---- scan workers and variables

-- the scan that each worker has open
abbrev pub ScansFollow : Plant → List Event → List (Option OpenScan) → Type 0
ScansFollow p h scans =
    (length scans ≡ p.workers) × ((w : ℕ) → w < p.workers → slice_index_or scans w None ≡ scan w h)

-- so many workers without a scan
abbrev pub AreIdle : ℕ → List (Option OpenScan) → Type 0
AreIdle n scans = (length scans ≡ n) × ((w : ℕ) → w < n → slice_index_or scans w None ≡ None)

-- how often each task was taken
abbrev pub TakesFollow : Plant → List Event → List ℕ → Type 0
TakesFollow p h takes =
    (length takes ≡ length p.plan.tasks) × ((t : ℕ) → t < length p.plan.tasks → slice_index_or takes t 0 ≡
    histories.scans t h)

-- the image has the value of each variable, and each block instance as the last scan left it
pub record ImageFollows (p : Plant) (h : List Event) (image : ProcessImage) : Type 0 where
  pub laid : layout_of image ≡ layout p
  pub values : (v : ImageVariable) → value_of image v ≡ value p v h
  pub instances : (t : ℕ) → blocks_of image t ≡ blocks p t h
