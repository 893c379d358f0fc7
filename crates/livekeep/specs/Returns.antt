-- What comes back of what was kept (profile).
use Rattle.std.specs.Prelude.{◌≡◌, ◌≤◌, ℕ, List, Bool, bytes_eq, false, true}
use Rattle.std.specs.List.{AllZip, IsDistinct}
use Rattle.iltypes.specs.declared.value.Value.{Value}
use Rattle.ilblocks.specs.declared.kind.BlockKind.{BlockKind}
use Rattle.ilblocks.specs.Calls.{Block}
use Rattle.ilblocks.specs.Ports.{keeps_start}
use Rattle.ilblocks.specs.Stores.{Lasting}
use Rattle.ilplan.specs.declared.global.Global.{Global as GlobalVariable}
use Rattle.ilplan.specs.declared.instance.FunctionBlock.{FunctionBlock}
use Rattle.ilplan.specs.Beginnings.{MayBegin}
use Rattle.ilplan.specs.Plans.{Planned, PlannedTask}
use Rattle.livekeep.specs.KeptFiles.{most_number}
use Rattle.livekeep.specs.KeptPlans.{is_trigger}
use Rattle.livekeep.specs.KeptStates.{entries_of}

-- a trigger has the value with which it begins: it is TRUE for a scan alone
abbrev pub IsUntouched : GlobalVariable → Value → Type 0
IsUntouched g value = is_trigger g.location ≡ true → value ≡ g.initial

-- a moment that a file has, where a start is kept, else 0
abbrev pub IsStartBy : Bool → ℕ → Type 0
IsStartBy true start = start ≤ most_number
IsStartBy false start = start ≡ 0

abbrev pub IsKeptStart : BlockKind → ℕ → Type 0
IsKeptStart kind start = IsStartBy (keeps_start kind) start

abbrev pub HasKeptStart : FunctionBlock → Block → Type 0
HasKeptStart b state = IsKeptStart b.kind state.start

abbrev pub HasKeptStarts : PlannedTask → Lasting → Type 0
HasKeptStarts task lasting = AllZip HasKeptStart task.blocks lasting.blocks

-- no two things are kept under one name, each value is of its type, triggers are as in the text, and moments are those
-- of a file
pub record MayComeBack (plan : Planned) (globals : List Value) (lasting : List Lasting) : Type 0 where
  pub distinct : IsDistinct (λ one other. bytes_eq one.name other.name) (entries_of plan globals lasting)
  pub typed : MayBegin plan globals lasting
  pub triggers : AllZip IsUntouched plan.globals globals
  pub starts : AllZip HasKeptStarts plan.tasks lasting
