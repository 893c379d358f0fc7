use Rattle.std.proofs.Common.{◌≡◌, ◌⊎◌, ℕ, ◌<◌, List, length, Result, Ok, Err, IfOk, subst}
use Rattle.wordlines.specs.Wirings.{Wiring}
use Rattle.ilsource.specs.Places.{line_at}
use Rattle.iltext.specs.declared.fault.TextCause.{TextCause}
use Rattle.iltext.specs.declared.fault.TextFault.TheVariants as text_faults
use Rattle.plantload.specs.Loading.{IsLoadFault}
use Rattle.plantload.specs.declared.fault.LoadFault.{LoadFault}
use Rattle.plantload.specs.declared.fault.LoadFault.TheVariants as faults
use Rattle.explaincures.specs.Trying.{IsCure, IsGone, IsShown, ReadsOn, ShowsCure, changed, last_line}
use Rattle.explaincures.specs.declared.answers.Example.{Example}
use Rattle.explaincures.specs.declared.answers.Example.TheVariants.{Changed}
use Rattle.explaincures.specs.declared.edits.Edit.{Edit}
use Rattle.explaining.specs.Explained.{StandsAt}
use Rattle.explaining.specs.declared.told.Explanation.{Explanation}
use Rattle.refusalsexplain.proofs.Outcomes.{cure_reads}
use Rattle.refusalsexplain.proofs.explanations.shown_change_was_tried.Goals as goal

-- a change that an explanation of a fault in line 3 shows
abbrev IsRead : Wiring → List ℕ → Explanation → Type 0
IsRead wiring text told = (edit : Edit) (line col : ℕ) (why : TextCause) → told.answer.example ≡ Changed edit
    → IsLoadFault wiring (changed edit text) (faults.Text (text_faults.At line col why))
    → (last_line edit text (changed edit text) 3 < line)
    ⊎ (line ≡ line_at (changed edit text) (length (changed edit text)))

reads : {E : Type 0} (wiring : Wiring) (text : List ℕ) (fault : LoadFault) (cause : TextCause) (given : Result Explanation E)
    → fault ≡ faults.Text (text_faults.At 3 5 cause) → IfOk given (StandsAt fault)
    → IfOk given (λ told. ShowsCure wiring text told.line (IsGone text fault) told.answer)
    → IfOk given (IsRead wiring text)
reads wiring text fault cause (Err e) is place cure = tt
reads wiring text fault cause (Ok told) is place cure = λ edit line col why shows stands.
    let at = subst (λ (f : LoadFault). StandsAt f told) is place in
    let cured = subst (λ (f : LoadFault). ShowsCure wiring text told.line (IsGone text f) told.answer) is cure in
    let shown = subst (λ (e : Example). IsShown (IsCure wiring text told.line (ReadsOn text 3 5)) e) shows cured in
    let here = subst (λ (n : ℕ). IsCure wiring text n (ReadsOn text 3 5) edit) at.0 shown in
    cure_reads wiring text 3 5 line col why edit here stands

pub returns : goal.returns
returns c =
    reads c.args.asked.now.binding.now c.args.asked.now.text.now c.args.stop.now.fault c.args.cause
    c.explanation_of.result c.requires c.explanation_of.ensures.place c.explanation_of.ensures.cure
