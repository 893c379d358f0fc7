-- How a code file is written and how one is judged: what the disk gave and took, what is printed, and how the program ends
-- (profile). The disk is four relations: at a path it gives bytes, or fails for a reason, and at a path it takes bytes, or
-- refuses them for a reason.
use Rattle.std.specs.Prelude.{◌≡◌, ℕ, List, Option, ◌⊎◌, ⊤}
use Rattle.std.specs.Io.KnownBytes.{Appends}
use Rattle.std.specs.Option.{option_copied}
use Rattle.wordlines.specs.Wirings.{Wiring}
use Rattle.commandoptions.specs.declared.files.Files.{Files}
use Rattle.textanswers.specs.Answered.{IsStepStop, IsStopOrMemory}
use Rattle.textanswers.specs.Connected.{IsBindingStop, IsConnected}
use Rattle.textanswers.specs.declared.stop.Stop.{Stop}
use Rattle.textanswers.specs.Coding.{IsCodeAnswer, IsCodeFile}
use Rattle.textanswers.specs.CodePrinted.{printed}
use Rattle.textanswers.specs.declared.code_answer.CodeAnswer.{CodeAnswer}
use Rattle.commandfiles.specs.ExitStatuses.{status_of_code_answer, status_of_stop}
use Rattle.commandfiles.specs.ExitStatus.{ExitStatus}
use Rattle.commandfiles.specs.ExitStatus.TheVariants.{Accepted}
use Rattle.commandfiles.specs.Reports.{ended, stop_text}
use Rattle.commandfiles.specs.Served.{IsFirstUnread, IsGiven}
use Rattle.commandfiles.specs.declared.reading.DiskFault.{DiskFault}
use Rattle.commandfiles.specs.declared.serving.Unserved.{Unserved}
use Rattle.commandfiles.specs.declared.serving.Unserved.TheVariants.{NotRead, NotWritten, NotPrinted}

-- ---- a code file is written

-- under the binding these are the bytes of the code file of the task that is meant
abbrev pub IsCodeUnder : Option (List ℕ) → List ℕ → Option (List ℕ) → List ℕ → Type 0
IsCodeUnder binding text name code =
    (wiring : Wiring) × IsConnected binding wiring × IsCodeFile wiring text name code

-- the binding's fault; or, under the binding, what stands against the text or the name
abbrev pub IsCodeStop : Option (List ℕ) → List ℕ → Option (List ℕ) → Stop → Type 0
IsCodeStop binding text name stop =
    IsBindingStop binding stop
    ⊎ ((wiring : Wiring) × IsConnected binding wiring × IsStopOrMemory (IsStepStop wiring text name) stop)

-- the disk gave these bytes for the binding, where one is named, and for the text
pub record AreRead (gives : List ℕ → List ℕ → Type 0) (files : Files) (binding : Option (List ℕ)) (text : List ℕ)
    : Type 0 where
  pub binding_given : IsGiven gives (option_copied files.binding) binding
  pub text_given : gives files.text.now text

-- the file at the path took the code file, and nothing is printed
pub record IsWritten (takes : List ℕ → List ℕ → Type 0) (binding : Option (List ℕ)) (text : List ℕ)
    (name : Option (List ℕ)) (to : List ℕ) (before after : Option (List ℕ)) (status : ExitStatus) : Type 0 where
  pub code : List ℕ
  pub under : IsCodeUnder binding text name code
  pub taken : takes to code
  pub silent : after ≡ before
  pub ends : status ≡ Accepted

-- the line of what stands against that is printed
pub record IsStopped (binding : Option (List ℕ)) (text : List ℕ) (name : Option (List ℕ))
    (before after : Option (List ℕ)) (status : ExitStatus) : Type 0 where
  pub stop : Stop
  pub stops : IsCodeStop binding text name stop
  pub line : Appends before after (stop_text stop)
  pub ends : status ≡ status_of_stop stop

abbrev pub IsCodeServed : (List ℕ → List ℕ → Type 0) → (List ℕ → List ℕ → Type 0) → Files → Option (List ℕ) → List ℕ
    → Option (List ℕ) → Option (List ℕ) → ExitStatus → Type 0
IsCodeServed gives takes files name to before after status =
    (binding : Option (List ℕ)) × (text : List ℕ) × AreRead gives files binding text
    × (IsWritten takes binding text name to before after status ⊎ IsStopped binding text name before after status)

-- the file at this path does not take the code file
pub record IsRefused (gives : List ℕ → List ℕ → Type 0) (refuses : List ℕ → DiskFault → Type 0) (files : Files)
    (name : Option (List ℕ)) (path : List ℕ) (why : DiskFault) : Type 0 where
  pub binding : Option (List ℕ)
  pub text : List ℕ
  pub read : AreRead gives files binding text
  pub code : List ℕ
  pub under : IsCodeUnder binding text name code
  pub refused : refuses path why

-- the first of the named files that is not read is reported, or that the code file is not written; of a failure of the
-- writer nothing is said
abbrev pub IsCodeUnserved : (List ℕ → List ℕ → Type 0) → (List ℕ → DiskFault → Type 0) → (List ℕ → DiskFault → Type 0)
    → Files → Option (List ℕ) → List ℕ → Unserved → Type 0
IsCodeUnserved gives fails refuses files name to (NotRead path why) = IsFirstUnread gives fails files path.now why
IsCodeUnserved gives fails refuses files name to (NotWritten path why) =
    (path.now ≡ to) × IsRefused gives refuses files name to why
IsCodeUnserved gives fails refuses files name to (NotPrinted error) = ⊤

-- ---- a code file is judged

-- the line of the answer to what the disk gave for the path is printed
pub record IsCodeJudged (gives : List ℕ → List ℕ → Type 0) (path : List ℕ) (before after : Option (List ℕ))
    (status : ExitStatus) : Type 0 where
  pub bytes : List ℕ
  pub given : gives path bytes
  pub answer : CodeAnswer
  pub is : IsCodeAnswer bytes answer
  pub line : Appends before after (ended (printed answer))
  pub ends : status ≡ status_of_code_answer answer

-- that the file is not read is reported; of a failure of the writer nothing is said
abbrev pub IsUnjudged : (List ℕ → DiskFault → Type 0) → List ℕ → Unserved → Type 0
IsUnjudged fails path (NotRead named why) = (named.now ≡ path) × fails path why
IsUnjudged fails path (NotWritten named why) = ⊥
IsUnjudged fails path (NotPrinted error) = ⊤
