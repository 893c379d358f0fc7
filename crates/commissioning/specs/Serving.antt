-- How a command at one line is served.
use Rattle.std.specs.Prelude.{◌≡◌, ℕ, List, [], Option, Result, Ok, Err, IfOk, if◌then◌else◌}
use Rattle.std.specs.Io.KnownBytes.{Appends}
use Rattle.std.specs.Option.{option_map_or}
use Rattle.buslink.specs.BusLog.{BusLog}
use Rattle.commissioning.specs.declared.asking.AskFault.{AskFault}
use Rattle.commissioning.specs.declared.asking.AskFault.TheVariants.{Memory, Failed}
use Rattle.commissioning.specs.declared.listening.Silenced.{Silenced}
use Rattle.commissioning.specs.declared.listening.Silenced.TheVariants as silenced
use Rattle.commissioning.specs.declared.probing.Probed.{Probed}
use Rattle.commissioning.specs.declared.serving.ProbeForm.{ProbeForm}
use Rattle.commissioning.specs.declared.serving.Served.{Served}
use Rattle.commissioning.specs.declared.serving.Served.TheVariants as served
use Rattle.commissioning.specs.Differences.{difference_lines}
use Rattle.commissioning.specs.Listening.{IsListened}

-- how a command was served that met this fault
abbrev pub served_of : AskFault → Served
served_of Memory = served.NoMemory
served_of Failed = served.Failed

-- how a command was served whose asking had this result
abbrev pub served_as : {A : Type 0} → Result A AskFault → Served
served_as (Ok answer) = served.Done
served_as (Err fault) = served_of fault

-- asking had a result that P says; it is told by how the command was served, where no writer failed
pub record IsServed {A E : Type 0} (P : Result A AskFault → Type 0) (served : Result Served E) : Type 0 where
  pub result : Result A AskFault
  pub has : P result
  pub told : IfOk served (λ s. s ≡ served_as result)

-- the lines of the differences from what a text declares, where a text is given and JSON is not asked for
abbrev pub differences_told : ProbeForm → Result Probed AskFault → List ℕ
differences_told form (Err fault) = []
differences_told form (Ok probed) =
    if form.as_json then []
    else option_map_or (λ declared. difference_lines probed.survey declared.plan.now declared.bus) form.declared []

-- what a writer holds whose bytes are known ends with these
pub record EndsWith {W : Type 0} (contents : W → Option (List ℕ)) (lines : List ℕ) (writer : W) : Type 0 where
  pub before : W
  pub appended : Appends (contents before) (contents writer) lines

-- how listening was served that ended for this reason
abbrev pub served_by : Silenced → Served
served_by silenced.Ended = served.Done
served_by (silenced.Fault fault) = served_of fault
served_by silenced.NoClock = served.Failed

-- what came was recorded up to an end whose reason is told by how listening was served
pub record IsListenServed (bus : ℕ) (served : Served) (old new : BusLog) (before after : Option (List ℕ)) : Type 0 where
  pub reason : Silenced
  pub listened : IsListened bus reason old new before after
  pub told : served ≡ served_by reason
