-- Worked histories of a plant with one bus. The globals are two numbers x and y, the trigger, the information and the
-- count of a push button, the level of lamp 5, and the answers of gear 63. Task 0 does `x := y`, task 1 `y := 5`, and
-- task 2, which the button starts, sets the lamp to the information of its event.
use Rattle.std.specs.Prelude.{ℕ, pos, ◌+◌, List, [], ◌∷◌, map, replicate, zero, suc, false, Option, Some, None}
use Rattle.limits.specs.Limits.{usual_tries}
use Rattle.iltypes.specs.declared.value.IlType.{IlType}
use Rattle.iltypes.specs.declared.value.IlType.TheVariants as types
use Rattle.iltypes.specs.declared.value.Value.{Value}
use Rattle.iltypes.specs.declared.value.Value.TheVariants as values
use Rattle.daliframe.specs.declared.schemes.EventScheme.TheVariants.{DeviceInstance}
use Rattle.daliframe.specs.declared.forward.Frame.TheVariants.{Forward16}
use Rattle.daliframe.specs.declared.addressing.Address.TheVariants.{Short}
use Rattle.dalievent.specs.declared.messages.EventSource.{EventSource}
use Rattle.gearcmd.specs.declared.requests.Request.{Request}
use Rattle.gearcmd.specs.declared.requests.Command.{Command}
use Rattle.gearcmd.specs.declared.requests.Command.TheVariants.{GearLevel, GearRead}
use Rattle.gearcmd.specs.FrameLists.{FrameList}
use Rattle.buslink.specs.declared.marks.Outcome.{Outcome}
use Rattle.buslink.specs.Attempts.{ReportParts}
use Rattle.ilplan.specs.Instruction.{Instruction}
use Rattle.ilplan.specs.Instruction.TheVariants as instructions
use Rattle.ilplan.specs.Line.{Line}
use Rattle.ilplan.specs.Operand.TheVariants.{Name, Constant}
use Rattle.ilplan.specs.Name as names
use Rattle.ilplan.specs.declared.activation.Activation.{Activation}
use Rattle.ilplan.specs.declared.activation.Activation.TheVariants as activations
use Rattle.ilplan.specs.declared.global.Global.{Global as GlobalVariable}
use Rattle.ilplan.specs.declared.global.Location.{Location}
use Rattle.ilplan.specs.declared.global.Location.TheVariants.{Level, GearAnswer, Information, Count, Trigger}
use Rattle.ilplan.specs.declared.place.Place.{Place}
use Rattle.ilplan.specs.declared.place.Place.TheVariants.{Slot}
use Rattle.ilplan.specs.declared.slot.Slot as slots
use Rattle.ilplan.specs.declared.slot.SlotOwner.TheVariants as variable
use Rattle.ilplan.specs.Plans.{PlannedTask, plan_of, task_of, types_of}
use Rattle.ilmachine.specs.Listings.{listing_of}
use Rattle.ilmachine.specs.Verdicts.{Accepted}
use Rattle.ilmachine.specs.Snapshots.{ScanStart, start_of}
use Rattle.ilmachine.specs.Scans.{Scan}
use Rattle.plantevents.specs.declared.event.Event.{Event}
use Rattle.plantevents.specs.declared.event.Event.TheVariants.{Tick, Heard, Take, Commit, Hand, Done, Down, Up}
use Rattle.plantevents.specs.declared.event.Origin.TheVariants.{Queued, Output}
use Rattle.plantevents.specs.Plants.{Plant}
use Rattle.plantevents.specs.Variables.{whole}

-- ---- the plant

abbrev pub word : names.Name
word = record { from = 0; to = 1 }

abbrev pub number : IlType
number = types.Int (record { lo = pos 0; hi = pos 65535; ordered = record { le = tt } })

abbrev pub global : Option Location → IlType → Value → GlobalVariable
global location value_type initial =
    record { name = word; location = location; value_type = value_type; initial = initial }

-- the globals, where the count begins at this number
abbrev pub globals_from : ℕ → List GlobalVariable
globals_from count =
    global None number (whole 0)
    ∷ global None number (whole 1)
    ∷ global (Some (Trigger 0 0)) types.Bool (values.Bool false)
    ∷ global (Some (Information 0 0)) number (whole 0)
    ∷ global (Some (Count 0 0)) number (whole count)
    ∷ global (Some (Level 0 5)) number (whole 0)
    ∷ global (Some (GearAnswer 0 63)) number (whole 258)
    ∷ []

-- a slot of the global variable of this number, and of an own one
abbrev pub named : ℕ → slots.Slot
named n = record { variable = variable.Global n; value_type = number; initial = whole 0 }

abbrev pub own : slots.Slot
own = record { variable = variable.Own word word; value_type = number; initial = whole 7 }

abbrev pub line : Instruction Place ℕ → Line Place ℕ
line i = record { at = 0; label = None; instruction = Some i }

abbrev pub ld : ℕ → Line Place ℕ
ld slot = line (instructions.Load false (Name (Slot slot)))

abbrev pub st : ℕ → Line Place ℕ
st slot = line (instructions.Store false (Slot slot))

abbrev pub ld_number : ℕ → Line Place ℕ
ld_number n = line (instructions.Load false (Constant (whole n)))

abbrev pub task : Activation → ℕ → List slots.Slot → List (Line Place ℕ) → PlannedTask
task activation priority slots lines =
    task_of [] activation priority slots [] [] (record { name = word; lines = lines } ∷ [])

abbrev pub tasks : List PlannedTask
tasks =
    task (activations.Cyclic 100) 0 (named 0 ∷ named 1 ∷ []) (ld 1 ∷ st 0 ∷ [])
    ∷ task (activations.Cyclic 100) 1 (named 1 ∷ []) (ld_number 5 ∷ st 0 ∷ [])
    ∷ task (activations.Event 2) 0 (named 2 ∷ named 3 ∷ named 4 ∷ named 5 ∷ own ∷ []) (ld 1 ∷ st 3 ∷ [])
    ∷ []

-- a code without words over a task's slots
abbrev pub code : PlannedTask → Accepted
code t = record { code = listing_of 1 [] (types_of t) [] [] [] [] []; bound = 0 }

-- the button is instance 2 of the device with short address 5
abbrev pub button : EventSource
button = record { scheme = DeviceInstance; a = 5; b = 2 }

abbrev pub house_from : ℕ → Plant
house_from count =
    record {
      plan = plan_of [] 1 (record { bus = 0; number = 0; source = button } ∷ []) [] (globals_from count) [] tasks;
      codes = map code tasks;
      workers = 2;
    }

abbrev pub house : Plant
house = house_from 0

-- ---- events

-- the button is pushed, with this information
abbrev pub push : ℕ → Event
push info = Heard 0 (0x0A8800 + info)

-- pushes with the information 1 to n
abbrev pub pushes : ℕ → List Event
pushes zero = []
pushes (suc n) = push (suc n) ∷ pushes n

abbrev pub snapshot : ScanStart
snapshot =
    start_of (record { code = listing_of 1 [] [] [] [] [] [] []; bound = 0 }) (record { slots = []; blocks = [] }) 0

abbrev pub take : ℕ → ℕ → Event
take w t = Take w t snapshot

-- a scan that left these values in its slots and these requests
abbrev pub left : List ℕ → List Request → Scan
left slots requests =
    record {
      number = 0;
      snapshot = snapshot;
      steps = 0;
      after = record { slots = map whole slots; blocks = []; requests = requests; moment = 0 };
    }

abbrev pub commit : ℕ → ℕ → List ℕ → List Request → Event
commit w n slots requests = Commit w n (left slots requests)

abbrev pub request : Command → Request
request command = record { bus = 0; command = command }

-- class 4 from a cyclic task, and class 5
abbrev pub level : Request
level = request (GearLevel (Short 5) 128)

abbrev pub reading : Request
reading = request (GearRead 63 0 3)

abbrev pub report : FrameList → Outcome → ReportParts
report transaction outcome = record { transaction = transaction; tries = usual_tries; attempts = []; outcome = outcome }

-- a scan of task 1 that ends with these requests
abbrev pub asks : List Request → List Event → List Event
asks requests h = commit 0 0 (5 ∷ []) requests ∷ take 0 1 ∷ h

-- ---- histories

-- two scans overlap: worker 0 takes task 0, worker 1 task 1; worker 1 commits first
abbrev pub overlapping : List Event
overlapping = commit 0 0 (1 ∷ 1 ∷ []) [] ∷ commit 1 1 (5 ∷ []) [] ∷ take 1 1 ∷ take 0 0 ∷ []

-- the button is pushed twice, its task is taken, and it sets the lamp
abbrev pub lit : List Event
lit = commit 0 2 (1 ∷ 200 ∷ 1 ∷ 200 ∷ 9 ∷ []) [] ∷ take 0 2 ∷ push 8 ∷ push 200 ∷ []

-- task 0 was scanned at 0, and it is 100
abbrev pub second_turn : List Event
second_turn = Tick 100 ∷ commit 0 1 (1 ∷ 1 ∷ []) [] ∷ take 0 0 ∷ Tick 0 ∷ []

-- four scans with 16 requests of one class, and one with one
abbrev pub sixteen : List Request
sixteen = replicate 16 level

abbrev pub crowded : List Event
crowded = asks (level ∷ []) (asks sixteen (asks sixteen (asks sixteen (asks sixteen []))))

-- ---- transactions

-- the level 200 for lamp 5, from an event task
abbrev pub lamp_on : FrameList
lamp_on = record { frames = Forward16 0x0AC8 ∷ []; first_priority = 2 }

abbrev pub hand_lamp : Event
hand_lamp = Hand 0 (Output 5 200) lamp_on

-- the lamp's level was handed out, its bus went down, and it came up again
abbrev pub lost_bus : List Event
lost_bus = Down 0 ∷ hand_lamp ∷ lit

abbrev pub back : List Event
back = Up 0 ∷ lost_bus

-- DTR1, DTR0, READ MEMORY LOCATION of gear 63
abbrev pub read_frames : FrameList
read_frames =
    record { frames = Forward16 0xC300 ∷ Forward16 0xA303 ∷ Forward16 0x7FC5 ∷ []; first_priority = 5 }

abbrev pub hand_reading : Event
hand_reading = Hand 0 (Queued reading) read_frames

-- nothing but the lamp's first level is owed, and a read and a level wait
abbrev pub asking : List Event
asking = asks (reading ∷ level ∷ []) []

-- the read came to this
abbrev pub answered : Outcome → List Event
answered outcome = Done 0 2 (report read_frames outcome) ∷ hand_reading ∷ asking
