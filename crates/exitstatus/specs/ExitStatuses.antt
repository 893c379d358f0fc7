-- How the program ends, and the exit status of each end (profile).
use Rattle.std.specs.Prelude.{ℕ, List, Option, Some, None, Bool, false, if◌then◌else◌}
use Rattle.clap.specs.declared.error.ErrorKind.{ErrorKind}
use Rattle.clap.specs.declared.error.ErrorKind.TheVariants as kinds
use Rattle.wordlines.specs.declared.fault.LineFault.TheVariants as scenario_faults
use Rattle.plantplay.specs.declared.ending.Ending.{Ending}
use Rattle.plantplay.specs.declared.ending.Ending.TheVariants as endings
use Rattle.workers.specs.declared.ended.Ended.{Ended}
use Rattle.workers.specs.declared.ended.Ended.TheVariants.{Asked}
use Rattle.textanswers.specs.declared.code_answer.CodeAnswer.{CodeAnswer}
use Rattle.textanswers.specs.declared.code_answer.CodeAnswer.TheVariants as answers
use Rattle.exitstatus.specs.declared.exit_status.ExitStatus.{ExitStatus}
use Rattle.exitstatus.specs.declared.exit_status.ExitStatus.TheVariants.{Accepted, Refused, Misused, Failed}
use Rattle.exitstatus.specs.declared.play_stop.PlayStop.{PlayStop}
use Rattle.exitstatus.specs.declared.play_stop.PlayStop.TheVariants as play_stops
use Rattle.textanswers.specs.declared.stop.Stop.{Stop}
use Rattle.textanswers.specs.declared.stop.Stop.TheVariants as stops

-- the number that the program exits with
abbrev pub number_of_status : ExitStatus → ℕ
number_of_status Accepted = 0
number_of_status Refused = 1
number_of_status Misused = 2
number_of_status Failed = 3

-- of words that are not taken: the help or the version is shown, or out of memory, or they are no command line
abbrev pub status_of_words : ErrorKind → ExitStatus
status_of_words kinds.DisplayHelp = Accepted
status_of_words kinds.DisplayVersion = Accepted
status_of_words kinds.OutOfMemory = Failed
status_of_words _ = Misused

-- of a play: all that the scenario says happened, or all up to a full history, and no bus is down at the end; or a bus
-- is, or the allocator was out of memory
abbrev pub status_of_play : Ending → Bool → ExitStatus
status_of_play endings.NoMemory is_down = Failed
status_of_play endings.Whole is_down = if is_down then Failed else Accepted
status_of_play endings.Limit is_down = if is_down then Failed else Accepted

-- of a run: it came to its clock's end, and no bus is down then; or anything else
abbrev pub status_of_run : Ended → Bool → ExitStatus
status_of_run Asked false = Accepted
status_of_run ended is_down = Failed

-- of a task that is not there: the name that was given is none of the text's; or none was given, and there is not one
-- alone
abbrev pub status_of_unknown_task : Option (List ℕ) → ExitStatus
status_of_unknown_task (Some name) = Refused
status_of_unknown_task None = Misused

-- of what stands against a text: out of memory, or a task that is not there, or something is at fault
abbrev pub status_of_stop : Stop → ExitStatus
status_of_stop stops.Memory = Failed
status_of_stop (stops.NoTask asked) = status_of_unknown_task asked
status_of_stop _ = Refused

-- of what is answered to a code file: its code is accepted; or it is refused, or there is none; or out of memory
abbrev pub status_of_code_answer : CodeAnswer → ExitStatus
status_of_code_answer (answers.Accepted words bound) = Accepted
status_of_code_answer (answers.Refused refusal) = Refused
status_of_code_answer (answers.Faulty cause) = Refused
status_of_code_answer answers.Memory = Failed

-- of what stands against playing or running a scenario: what stands against the text, as above; the scenario is out of
-- memory, or a line of it is at fault; the plant does not start
abbrev pub status_of_play_stop : PlayStop → ExitStatus
status_of_play_stop (play_stops.Text stop) = status_of_stop stop
status_of_play_stop (play_stops.Scenario scenario_faults.Memory) = Failed
status_of_play_stop (play_stops.Scenario (scenario_faults.At line cause)) = Refused
status_of_play_stop (play_stops.Start fault) = Failed
