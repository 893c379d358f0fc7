-- The lines that answers are printed as (profile).
use Rattle.std.specs.Prelude.{ℕ, List, ◌++◌, codes, Option}
use Rattle.std.specs.Fmt.{decimal}
use Rattle.gearcmd.specs.declared.requests.Request.{Request}
use Rattle.gearcmd.specs.declared.requests.TaskKind.{TaskKind}
use Rattle.gearcmd.specs.Printed as requests
use Rattle.iltypes.specs.declared.value.Value.{Value}
use Rattle.iltypes.specs.Printed as values
use Rattle.ilplan.specs.Printed.{printed_slot}

-- an accepted task: its words, and the bound
abbrev pub printed_task : List ℕ → ℕ → ℕ → List ℕ
printed_task name words bound =
    codes "task " ++ name ++ codes " words " ++ decimal words ++ codes " bound " ++ decimal bound

-- a scan: its number, its steps, and the bound
abbrev pub printed_scan : ℕ → ℕ → ℕ → List ℕ
printed_scan number steps bound =
    codes "scan " ++ decimal number ++ codes " steps " ++ decimal steps ++ codes " bound " ++ decimal bound

-- a request of a scan: its bus, its class and its frames
abbrev pub printed_request : Request → TaskKind → List ℕ
printed_request request task = codes "request " ++ requests.printed_request request task

-- a variable: its name, after that of its instance where it is of one, and its value
abbrev pub printed_variable : Option (List ℕ) → List ℕ → Value → List ℕ
printed_variable instance variable value = printed_slot instance variable ++ codes " = " ++ values.printed value
