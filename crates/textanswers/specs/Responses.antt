-- What an inquiry is answered (profile): the fault of the binding, else of the text, else what was asked for.
use Rattle.std.specs.Prelude.{ℕ, ◌⊎◌, List, Option, option_map}
use Rattle.wordlines.specs.Wirings.{Wiring}
use Rattle.plantload.specs.Loading.{IsSetup}
use Rattle.textanswers.specs.declared.answers.Answer.{Answer}
use Rattle.textanswers.specs.declared.answers.Answer.TheVariants as answers
use Rattle.commandoptions.specs.declared.inquiry.Inquiry.{Inquiry}
use Rattle.commandoptions.specs.declared.inquiry.Inquiry.TheVariants.{Check, Step}
use Rattle.textanswers.specs.declared.stop.Stop.{Stop}
use Rattle.textanswers.specs.Answered.{IsCheckStop, IsStepStop, IsStepped, IsStopOrMemory}
use Rattle.textanswers.specs.Connected.{IsConnected, IsBindingStop}

-- what stands against an inquiry on a text
abbrev pub IsInquiryStop : Wiring → List ℕ → Inquiry → Stop → Type 0
IsInquiryStop wiring bytes (Check files) stop = IsCheckStop wiring bytes stop
IsInquiryStop wiring bytes (Step files task scans every) stop = IsStepStop wiring bytes (option_map (λ name. name.now) task) stop

-- what was asked for of a text
abbrev pub IsMade : Wiring → List ℕ → Inquiry → Answer → Type 0
IsMade wiring bytes (Check files) (answers.Checked setup) = IsSetup wiring bytes setup
IsMade wiring bytes (Step files task scans every) (answers.Stepped made) =
    IsStepped wiring bytes (option_map (λ name. name.now) task) scans every made
IsMade wiring bytes inquiry (answers.Stopped stop) = IsStopOrMemory (IsInquiryStop wiring bytes inquiry) stop
IsMade wiring bytes inquiry answer = ⊥

-- a binding's fault is reported, and nothing else of it
abbrev pub IsUnconnected : Option (List ℕ) → Answer → Type 0
IsUnconnected binding (answers.Stopped stop) = IsBindingStop binding stop
IsUnconnected binding answer = ⊥

-- the answer for these bytes of a binding, or none, and of a text
abbrev pub IsAnswer : Inquiry → Option (List ℕ) → List ℕ → Answer → Type 0
IsAnswer inquiry binding bytes answer =
    IsUnconnected binding answer
    ⊎ ((wiring : Wiring) × IsConnected binding wiring × IsMade wiring bytes inquiry answer)
