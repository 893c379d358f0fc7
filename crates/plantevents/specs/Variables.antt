-- The value of each variable, and what a task takes (IEC 61131-3, 2.4.3.1 and 2.7.2, and profile).
use Rattle.std.specs.Prelude.{◌≡◌, ℕ, pos, ◌==◌, ◌&&◌, Bool, true, false, List, [], ◌∷◌, length, drop, slice_get}
use Rattle.std.specs.Prelude.{Option, Some, None, option_map, option_and_then, if◌then◌else◌}
use Rattle.iltypes.specs.declared.value.Value.{Value}
use Rattle.iltypes.specs.declared.value.Value.TheVariants as values
use Rattle.dalievent.specs.declared.messages.EventSource.{EventSource}
use Rattle.gearcmd.specs.declared.requests.Answerer.{Answerer}
use Rattle.gearcmd.specs.declared.requests.Answerer.TheVariants.{Gear, Instance}
use Rattle.gearcmd.specs.Requests.{answerer_of}
use Rattle.buslink.specs.declared.marks.Reply.{Reply}
use Rattle.buslink.specs.declared.marks.Reply.TheVariants.{Quiet, Answer, Damaged, Lost}
use Rattle.buslink.specs.declared.marks.Outcome as outcomes
use Rattle.buslink.specs.declared.marks.Outcome.TheVariants as outcome
use Rattle.ilplan.specs.Calls.{Block}
use Rattle.ilplan.specs.declared.global.Location.{Location}
use Rattle.ilplan.specs.declared.global.Location.TheVariants.{GearAnswer, DeviceAnswer, Information, Count, Trigger}
use Rattle.ilmachine.specs.declared.external.External.{External}
use Rattle.ilmachine.specs.Images.{TaskLayout, ImageVariable, Global, Own, value_of, blocks_of, variable_in}
use Rattle.ilmachine.specs.Snapshots.{ScanStart}
use Rattle.plantevents.specs.declared.activator.PendingEvent.{PendingEvent}
use Rattle.plantevents.specs.declared.event.Origin.{Origin}
use Rattle.plantevents.specs.declared.event.Origin.TheVariants.{Queued, Output}
use Rattle.plantevents.specs.declared.event.Event.{Event}
use Rattle.plantevents.specs.declared.event.Event.TheVariants.{Heard, Commit, Done}
use Rattle.dalievent.specs.Messages.{is_message, information}
use Rattle.plantevents.specs.Plants.{Plant, location, source_at, first_count, activator, trigger_of, opening, layout}
use Rattle.plantevents.specs.Histories.{OpenScan, OpenHand, moment, message_count, scan, is_of, hand}
use Rattle.plantevents.specs.Readiness.{pending}

abbrev pub whole : ℕ → Value
whole number = values.Int (pos number)

-- where a global variable is located; an own variable of a task is located nowhere
abbrev pub location_of : Plant → ImageVariable → Option Location
location_of p (Global number) = location p number
location_of p (Own task number) = None

-- ---- what events write

-- the source, where the frame is a message of it that was heard on its bus
abbrev pub speaker : ℕ → ℕ → ℕ → Option EventSource → Option EventSource
speaker bus b f (Some source) = if b == bus && is_message source f then Some source else None
speaker bus b f None = None

-- a frame that was heard on bus b writes the information and the count of each source that it is a message of
abbrev pub information_by : ℕ → Option EventSource → Option Value
information_by f source = option_map (λ s. whole (information s f)) source

abbrev pub count_by : ℕ → ℕ → List Event → Option EventSource → Option Value
count_by first bus h source = option_map (λ s. whole (message_count first bus s h)) source

abbrev pub heard_write : Plant → ℕ → ℕ → List Event → Option Location → Option Value
heard_write p b f h (Some (Information bus number)) = information_by f (speaker bus b f (source_at p bus number))
heard_write p b f h (Some (Count bus number)) =
    count_by (first_count p.plan.globals bus number) bus (Heard b f ∷ h) (speaker bus b f (source_at p bus number))
heard_write p b f h _ = None

-- an answer's byte, 256 for none, 257 for a damaged one
abbrev pub reply_value : Reply → Option Value
reply_value Quiet = Some (whole 256)
reply_value (Answer byte) = Some (whole byte)
reply_value Damaged = Some (whole 257)
reply_value Lost = None

-- a transaction that gave up or failed has no answer
abbrev pub outcome_value : outcomes.Outcome → Option Value
outcome_value (outcome.Done reply) = reply_value reply
outcome_value _ = None

-- whose answer the transaction brings, if it is that of a query or a memory read
abbrev pub answerer_by : Origin → Option Answerer
answerer_by (Queued request) = answerer_of request.command
answerer_by (Output address level) = None

-- the answers of this gear, or of this device, on the bus are located there
abbrev pub is_answer_of : ℕ → Option Answerer → Option Location → Bool
is_answer_of b (Some (Gear short)) (Some (GearAnswer bus s)) = bus == b && s == short
is_answer_of b (Some (Instance short instance)) (Some (DeviceAnswer bus s)) = bus == b && s == short
is_answer_of b _ _ = false

-- a report of the transaction that bus b has open
abbrev pub report_write : ℕ → outcomes.Outcome → Option OpenHand → Option Location → Option Value
report_write b result (Some handed) place =
    if is_answer_of b (answerer_by handed.origin) place then outcome_value result else None
report_write b result None place = None

-- of the values in a task's first slots, which are these global variables, that of a global which the task stores
abbrev pub stored_value : ℕ → List External → List Value → Option Value
stored_value global (external ∷ more) (value ∷ others) =
    if external.global == global && external.stored then Some value else stored_value global more others
stored_value global _ _ = None

-- what a scan of task t, which left these values in its slots, writes to a variable: a global one that the task stores,
-- or one of its own
abbrev pub scan_write : ℕ → ImageVariable → List Value → TaskLayout → Option Value
scan_write t (Global number) slots task = stored_value number task.externals slots
scan_write t (Own u number) slots task = if u == t then slice_get (drop (length task.externals) slots) number else None

-- the result of the scan that a worker has open
abbrev pub commit_write : Plant → ImageVariable → List Value → Option OpenScan → Option Value
commit_write p v slots None = None
commit_write p v slots (Some running) =
    option_and_then (scan_write running.task v slots) (slice_get (layout p).tasks running.task)

-- the value that an event writes to a variable, after this front
abbrev pub write_of : Plant → ImageVariable → Event → List Event → Option Value
write_of p v (Heard b f) h = heard_write p b f h (location_of p v)
write_of p v (Commit w n result) h = commit_write p v result.after.slots (scan w h)
write_of p v (Done b n report) h = report_write b report.outcome (hand b h) (location_of p v)
write_of p v e h = None

-- ---- values

abbrev pub newest : {X : Type 0} → Option X → Option X → Option X
newest (Some x) before = Some x
newest None before = before

-- the value of a variable: the last one that was written, else its initial value
abbrev pub value : Plant → ImageVariable → List Event → Option Value
value p v [] = value_of (opening p) v
value p v (e ∷ h) = newest (write_of p v e h) (value p v h)

-- the block instances of task t, as its last scan left them
abbrev pub blocks : Plant → ℕ → List Event → Option (List Block)
blocks p t [] = blocks_of (opening p) t
blocks p t (Commit w n result ∷ h) = if is_of t (scan w h) then Some result.after.blocks else blocks p t h
blocks p t (e ∷ h) = blocks p t h

-- ---- what a task takes

-- of an event task: TRUE at its trigger, and the information and the count of the trigger's source as its pending event
-- has them
abbrev pub event_value : ℕ → ℕ → PendingEvent → Location → Option Value
event_value bus number a (Trigger b n) = if b == bus && n == number then Some (values.Bool true) else None
event_value bus number a (Information b n) = if b == bus && n == number then Some (whole a.information) else None
event_value bus number a (Count b n) = if b == bus && n == number then Some (whole a.count) else None
event_value bus number a _ = None

abbrev pub pending_value : Option Location → Option PendingEvent → Option Location → Option Value
pending_value (Some (Trigger bus number)) (Some a) (Some place) = event_value bus number a place
pending_value _ _ _ = None

-- the value of a variable as task t takes it: that of its first pending event, if it has one, else the variable's
abbrev pub snapshot_value : Plant → ℕ → List Event → ImageVariable → Option Value
snapshot_value p t h v =
    newest (pending_value (trigger_of p t) (slice_get (pending (activator p t) t h) 0) (location_of p v)) (value p v h)

-- a snapshot of task t: its code, in each slot the value of the slot's variable as the task takes it, its block
-- instances, and the moment
pub record IsSnapshot (p : Plant) (t : ℕ) (h : List Event) (s : ScanStart) : Type 0 where
  pub code : slice_get p.codes t ≡ Some s.verified
  pub values : (slot : ℕ) → slice_get s.lasting.slots slot
      ≡ option_and_then (snapshot_value p t h) (variable_in (layout p) t slot)
  pub blocks : blocks p t h ≡ Some s.lasting.blocks
  pub moment : s.moment ≡ moment h
