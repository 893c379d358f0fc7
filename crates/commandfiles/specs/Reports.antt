-- The lines that an answer is printed as, one after another (profile).
use Rattle.std.specs.Prelude.{◌≡◌, ℕ, zero, suc, List, [], ◌∷◌, ◌++◌, codes, length, Option, Some, None, slice_get}
use Rattle.std.specs.List.{flat_map}
use Rattle.std.specs.Option.{option_map_or}
use Rattle.std.specs.Io.KnownBytes.{Appends}
use Rattle.gearcmd.specs.declared.requests.Request.{Request}
use Rattle.gearcmd.specs.declared.requests.TaskKind.{TaskKind}
use Rattle.iltypes.specs.declared.value.Value.{Value}
use Rattle.ilplan.specs.declared.slot.SlotOwner.{SlotOwner}
use Rattle.ilplan.specs.Plans.{Planned, instance_name, slot_at, task_kind, variable_name}
use Rattle.ilcompile.specs.Loaded.{Loaded}
use Rattle.textanswers.specs.declared.answers.Answer.{Answer}
use Rattle.textanswers.specs.declared.answers.Answer.TheVariants as answers
use Rattle.commandoptions.specs.declared.inquiry.Inquiry.{Inquiry}
use Rattle.exitstatus.specs.declared.exit_status.ExitStatus.{ExitStatus}
use Rattle.exitstatus.specs.declared.exit_status.ExitStatus.TheVariants.{Accepted}
use Rattle.exitstatus.specs.ExitStatuses.{status_of_stop}
use Rattle.textanswers.specs.Printed.{printed_task, printed_scan, printed_request, printed_variable}
use Rattle.textanswers.specs.Responses.{IsAnswer}
use Rattle.textanswers.specs.Stepping.{Run}
use Rattle.textanswers.specs.Stops.{printed_stop}
use Rattle.textanswers.specs.declared.stop.Stop.{Stop}
use Rattle.textanswers.specs.declared.stop.Stop.TheVariants.{Binding, Load, Memory, NoTask}

-- the first of these texts, one after another
abbrev pub first_texts : (ℕ → List ℕ) → ℕ → List ℕ
first_texts text zero = []
first_texts text (suc texts) = first_texts text texts ++ text texts

-- a line ends with a line feed (10)
abbrev pub ended : List ℕ → List ℕ
ended line = line ++ 10 ∷ []

-- the first of the lines
abbrev pub first_lines : (ℕ → List ℕ) → ℕ → List ℕ
first_lines line lines = first_texts (λ number. ended (line number)) lines

-- what is printed of both
abbrev pub of_both : {A B : Type 0} → (A → B → List ℕ) → Option A → Option B → List ℕ
of_both said (Some a) (Some b) = said a b
of_both said _ _ = []

-- the line of the task of this number
abbrev pub task_line : Loaded → ℕ → List ℕ
task_line setup number =
    of_both (λ task code. printed_task task.name (length code.code.instructions) code.bound)
    (slice_get setup.plan.tasks number)
    (slice_get setup.codes number)

-- the line of the scan of this number
abbrev pub scan_line : Run → ℕ → List ℕ
scan_line made number =
    of_both (λ taken code. printed_scan number taken.steps code.bound)
    (slice_get made.each number)
    (slice_get made.setup.codes made.task)

-- the lines of some requests of a task, in order
abbrev pub request_lines : TaskKind → List Request → List ℕ
request_lines task requests = flat_map (λ request. ended (printed_request request task)) requests

-- the lines of the requests of the scan of this number
abbrev pub requests_of_scan : Run → ℕ → List ℕ
requests_of_scan made number =
    of_both (λ taken task. request_lines (task_kind task.activation) taken.requests)
    (slice_get made.each number)
    (slice_get made.setup.plan.tasks made.task)

-- the line of the scan of this number, and behind it those of its requests
abbrev pub scan_lines : Run → ℕ → List ℕ
scan_lines made number = ended (scan_line made number) ++ requests_of_scan made number

-- the line of a variable of a plan with this value; a global variable has no instance
abbrev pub line_of : Planned → SlotOwner → Value → List ℕ
line_of plan variable value =
    option_map_or (λ name. printed_variable (instance_name plan variable) name value) (variable_name plan variable) []

-- the line of the variable in the slot of this number
abbrev pub variable_line : Run → ℕ → List ℕ
variable_line made number =
    of_both (λ slot value. line_of made.setup.plan slot.variable value)
    (slot_at made.setup.plan made.task number)
    (slice_get made.left.slots number)

-- the line of a task that is not there; where no task was named, that is said on standard error alone, of which
-- nothing is said here
abbrev pub unknown_task_text : Option (List ℕ) → List ℕ
unknown_task_text (Some name) = ended (codes "no task " ++ name)
unknown_task_text None = []

-- the line of what stands against a text
abbrev pub stop_text : Stop → List ℕ
stop_text (NoTask asked) = unknown_task_text asked
stop_text Memory = ended (printed_stop Memory)
stop_text (Binding fault) = ended (printed_stop (Binding fault))
stop_text (Load fault) = ended (printed_stop (Load fault))

-- a line for each task; for each scan its line and those of its requests, and then a line for each variable; the line
-- of what stands against it
abbrev pub printed_answer : Answer → List ℕ
printed_answer (answers.Checked setup) = first_lines (task_line setup) (length setup.plan.tasks)
printed_answer (answers.Stepped made) =
    first_texts (scan_lines made) (length made.each) ++ first_lines (variable_line made) (length made.left.slots)
printed_answer (answers.Stopped stop) = stop_text stop

-- how the program ends after an answer
abbrev pub status_of : Answer → ExitStatus
status_of (answers.Stopped stop) = status_of_stop stop
status_of answer = Accepted

-- what a writer held, and what it holds after: the lines of an answer to the inquiry are new, and the program ends
-- as after that answer
abbrev pub IsReport : Inquiry → Option (List ℕ) → List ℕ → Option (List ℕ) → Option (List ℕ) → ExitStatus
    → Type 0
IsReport inquiry binding bytes before after status =
    (answer : Answer) × IsAnswer inquiry binding bytes answer × Appends before after (printed_answer answer)
    × (status ≡ status_of answer)
