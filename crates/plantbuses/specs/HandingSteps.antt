-- What private functions hand out.
use Rattle.std.specs.Prelude.{◌≡◌, ℕ, ◌≤◌, Bool, false, if◌then◌else◌, List, drop, slice_set, Option}
use Rattle.std.specs.Prelude.{Some, None}
use Rattle.iltypes.specs.declared.value.Value.{Value}
use Rattle.daliframe.specs.declared.forward.Frame.{Frame}
use Rattle.gearcmd.specs.declared.requests.Request.{Request}
use Rattle.gearcmd.specs.declared.requests.TaskKind.{TaskKind}
use Rattle.gearcmd.specs.FrameLists.{FrameList}
use Rattle.gearcmd.specs.Requests.{frames_of, class_of, task_class}
use Rattle.busqueue.specs.declared.class.Class.{Class}
use Rattle.busqueue.specs.Queues.{class_number, is_class}
use Rattle.ilplan.specs.declared.global.Location.TheVariants.{Level}
use Rattle.plantevents.specs.declared.event.Origin.{Origin}
use Rattle.plantevents.specs.declared.event.Origin.TheVariants.{Queued, Output}
use Rattle.plantevents.specs.Plants.{Plant, location}
use Rattle.plantevents.specs.Variables.{whole}
use Rattle.plantevents.specs.Waiting.{Handout, OwedLevel, level_frames}
use Rattle.plantevents.specs.Histories.{OpenHand}
use Rattle.plantbuses.specs.declared.next.Next.{Next}
use Rattle.plantbuses.specs.KeptSteps.{KeptBus}
use Rattle.plantbuses.specs.OfferSteps.{waiting_in, dropped_in}

abbrev pub frames_by : Origin → List Frame
frames_by (Queued request) = frames_of request.command
frames_by (Output address level) = level_frames (record { address = address; level = level })

-- the transaction of what is handed out, as one of this class
abbrev pub transaction_by : Class → Origin → FrameList
transaction_by class origin = record { frames = frames_by origin; first_priority = class_number class }

abbrev pub handout_by : Class → Origin → Handout
handout_by class origin = record { origin = origin; transaction = transaction_by class origin }

abbrev pub handout_of : Next → Handout
handout_of next = handout_by next.class next.origin

-- a task may be the one from which it is of this class, and its address has a level
abbrev pub IsOfClass : Class → Origin → Type 0
IsOfClass class (Queued request) = (kind : TaskKind) × (class_of request.command kind ≡ class_number class)
IsOfClass class (Output address level) =
    (address ≤ 80) × ((kind : TaskKind) × (task_class kind ≡ class_number class))

abbrev pub level_at : ℕ → ℕ → OwedLevel
level_at address level = record { address = address; level = level }

-- the request, else the level
abbrev pub first_by : Class → Option Request → Option Next → Option Next
first_by class (Some request) level = Some (record { class = class; origin = Queued request })
first_by class None level = level

-- the value is a level
abbrev pub IsLevel : Value → Type 0
IsLevel value = (level : ℕ) × (level ≤ 255) × (value ≡ whole level)

-- the global variable is located at a level
abbrev pub IsOutput : Plant → ℕ → Type 0
IsOutput p global = (bus : ℕ) × (address : ℕ) × (location p global ≡ Some (Level bus address))

-- the levels that were handed out last, once this was
abbrev pub levels_after : Origin → List ℕ → List ℕ
levels_after (Queued request) levels = levels
levels_after (Output address level) levels = slice_set levels address level

-- a request waits no more in the queue of its class
abbrev pub is_taken_by : Class → Origin → Class → Bool
is_taken_by class (Queued request) c = is_class c class
is_taken_by class (Output address level) c = false

abbrev pub is_taken : Next → Class → Bool
is_taken next c = is_taken_by next.class next.origin c

abbrev pub hand_of : ℕ → Next → OpenHand
hand_of place next =
    record { place = place; origin = next.origin; transaction = transaction_by next.class next.origin }

-- what a bus keeps once what is next was handed to it, at this place of the history
pub record IsAfterHand (place : ℕ) (next : Next) (before after : KeptBus) : Type 0 where
  pub handed : after.hand ≡ Some (hand_of place next)
  pub down_same : after.is_down ≡ before.is_down
  pub frames_same : after.frames ≡ before.frames
  pub heards_same : after.heards ≡ before.heards
  pub waits : (c : Class) → waiting_in after c
      ≡ (if is_taken next c then drop 1 (waiting_in before c) else waiting_in before c)
  pub drops : (c : Class) → dropped_in after c ≡ dropped_in before c
  pub levels_so : after.levels ≡ levels_after next.origin before.levels
