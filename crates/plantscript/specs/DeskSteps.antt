-- What private fields say of a history: the scans and the transactions that are open.
use Rattle.std.specs.Prelude.{◌≡◌, ℕ, ◌<◌, List, length, slice_index_or, Option, None, option_map}
use Rattle.gearcmd.specs.FrameLists.{FrameList}
use Rattle.ilmachine.specs.Scans.{Task, task_of}
use Rattle.plantevents.specs.declared.event.Event.{Event}
use Rattle.plantevents.specs.Plants.{Plant}
use Rattle.plantevents.specs.Histories.{OpenScan, OpenHand, scan, hand}
use Rattle.plant.specs.declared.refusal.CallError.{CallError}
use Rattle.plant.specs.declared.refusal.CallError.TheVariants as errors
use Rattle.plantscript.specs.declared.step.StepReply.{StepReply}
use Rattle.plantscript.specs.declared.step.StepReply.TheVariants.{Refused, Memory}

-- so many places, of which none holds anything
abbrev pub AreEmpty : {X : Type 0} → ℕ → List (Option X) → Type 0
AreEmpty n places = (length places ≡ n) × ((k : ℕ) → k < n → slice_index_or places k None ≡ None)

-- the scan to be made
abbrev pub order_of : OpenScan → Task
order_of running = task_of running.place running.snapshot

-- the order of each worker is that of the scan that it has open
abbrev pub OrdersFollow : Plant → List Event → List (Option Task) → Type 0
OrdersFollow p h orders =
    (length orders ≡ p.workers)
    × ((w : ℕ) → w < p.workers → slice_index_or orders w None ≡ option_map order_of (scan w h))

-- a transaction of which there is no report yet, and the place of its Hand
pub record Sending : Type 0 where
  pub number : ℕ
  pub transaction : FrameList

abbrev pub sending_of : OpenHand → Sending
sending_of handed = record { number = handed.place; transaction = handed.transaction }

-- what each bus sends is the transaction that it has open
abbrev pub SendingsFollow : Plant → List Event → List (Option Sending) → Type 0
SendingsFollow p h sendings =
    (length sendings ≡ p.plan.buses)
    × ((b : ℕ) → b < p.plan.buses → slice_index_or sendings b None ≡ option_map sending_of (hand b h))

-- the reply where no task is taken
abbrev pub reply_of : CallError → StepReply
reply_of (errors.Refused refusal) = Refused refusal
reply_of errors.Memory = Memory
