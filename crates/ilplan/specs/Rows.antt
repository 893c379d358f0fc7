-- Worked scans of a task: two variables, a trigger (block 0) and a block that makes requests (block 1), before their
-- first call, at the moment 40.
use Rattle.std.specs.Prelude.{◌≡◌, ℕ, pos, Bool, true, false, List, [], ◌∷◌, length, option_map, Some, None}
use Rattle.iltypes.specs.declared.value.IlType.TheVariants as types
use Rattle.iltypes.specs.declared.value.Value.TheVariants.{Bool as truth, Int}
use Rattle.iltypes.specs.declared.condition.Condition.TheVariants.{Always}
use Rattle.ilsource.specs.declared.arguments.Argument.{Argument}
use Rattle.ilsource.specs.declared.instruction.Instruction.{Instruction}
use Rattle.ilsource.specs.declared.instruction.Instruction.TheVariants as instructions
use Rattle.ilsource.specs.declared.instruction.Line.{Line}
use Rattle.ilsource.specs.declared.operand.Operand.TheVariants.{Name, Constant}
use Rattle.ilsource.specs.declared.name.Name as names
use Rattle.ilblocks.specs.declared.kind.BlockKind.TheVariants.{RTrig, GearLevel}
use Rattle.ilblocks.specs.Calls.{Block as BlockState, at_first}
use Rattle.ilblocks.specs.Stores.{Store, blocks_at_first}
use Rattle.ilplan.specs.declared.activation.Activation.TheVariants.{Cyclic}
use Rattle.ilplan.specs.declared.slot.Slot as slots
use Rattle.ilplan.specs.declared.slot.SlotOwner.TheVariants.{Own}
use Rattle.ilplan.specs.declared.place.Place.{Place}
use Rattle.ilplan.specs.declared.place.Place.TheVariants.{Slot, Port, Block}
use Rattle.ilplan.specs.Plans.{PlannedTask, task_of}
use Rattle.ilplan.specs.PlanMeaning.{plan_scan}

abbrev pub word : names.Name
word = record { from = 0; to = 1 }

abbrev pub variable : slots.Slot
variable = record { variable = Own word word; value_type = types.Bool; initial = truth false }

abbrev pub line : Instruction Place ℕ → Line Place ℕ
line i = record { at = 0; label = None; instruction = Some i }

abbrev pub ld : Place → Line Place ℕ
ld place = line (instructions.Load false (Name place))

abbrev pub st : Place → Line Place ℕ
st place = line (instructions.Store false place)

-- LD number
abbrev pub ld_number : ℕ → Line Place ℕ
ld_number number = line (instructions.Load false (Constant (Int (pos number))))

abbrev pub call : Place → List (Argument Place) → Line Place ℕ
call place arguments = line (instructions.Call Always place arguments)

-- a task of these lines
abbrev pub task : List (Line Place ℕ) → PlannedTask
task lines =
    task_of [] (Cyclic 100) 0 (variable ∷ variable ∷ [])
    (record { instance = word; name = word; kind = RTrig }
    ∷ record { instance = word; name = word; kind = GearLevel }
    ∷ [])
    []
    (record { name = word; lines = lines } ∷ [])

-- the ports of the trigger
abbrev pub clk : Place
clk = Port 0 0

abbrev pub q : Place
q = Port 0 1

-- CAL trigger(CLK := a), LD trigger.Q, ST b
abbrev pub edge : List (Line Place ℕ)
edge = call (Block 0) (record { port = clk; operand = Name (Slot 0) } ∷ []) ∷ ld q ∷ st (Slot 1) ∷ []

-- CAL level(REQ := TRUE)
abbrev pub ask : Line Place ℕ
ask = call (Block 1) (record { port = Port 1 0; operand = Constant (truth true) } ∷ [])

-- the variables are these, and no block was called
abbrev pub before : Bool → Bool → Store
before a b =
    record {
      slots = truth a ∷ truth b ∷ [];
      blocks = blocks_at_first (RTrig ∷ GearLevel ∷ []);
      requests = [];
      moment = 40;
    }

-- the trigger after a call with TRUE at CLK
abbrev pub triggered : Bool → BlockState
triggered is_edge = record { ports = truth true ∷ truth is_edge ∷ []; before = true; start = 0 }

-- the variables are these, and the trigger was called
abbrev pub after_trigger : Bool → Bool → Bool → Store
after_trigger a b is_edge = record (before a b) { blocks = triggered is_edge ∷ at_first GearLevel ∷ [] }

-- on so many buses a scan of the lines goes from this store to that
abbrev pub Scans : ℕ → List (Line Place ℕ) → Store → Store → Type 0
Scans buses lines from to = plan_scan buses [] (task lines) from ≡ Some to

-- it leaves so many requests
abbrev pub Requests : ℕ → List (Line Place ℕ) → ℕ → Type 0
Requests buses lines count =
    option_map (λ s. length s.requests) (plan_scan buses [] (task lines) (before true false)) ≡ Some count

-- it has no meaning
abbrev pub IsStuck : ℕ → List (Line Place ℕ) → Type 0
IsStuck buses lines = plan_scan buses [] (task lines) (before true false) ≡ None
