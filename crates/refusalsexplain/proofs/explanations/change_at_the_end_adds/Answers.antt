use Rattle.std.proofs.Common.{◌≡◌, ℕ, ◌<◌, List, Result, Ok, Err, IfOk, subst}
use Rattle.wordlines.specs.Wirings.{Wiring}
use Rattle.iltext.specs.declared.fault.TextCause.{TextCause}
use Rattle.iltext.specs.declared.fault.TextFault.TheVariants as text_faults
use Rattle.plantload.specs.Loading.{IsLoadFault}
use Rattle.plantload.specs.declared.fault.LoadFault.{LoadFault}
use Rattle.plantload.specs.declared.fault.LoadFault.TheVariants as faults
use Rattle.explaincures.specs.Trying.{IsCure, IsEnd, IsGone, IsShown, ReadsOn, ShowsCure, changed, content_of}
use Rattle.explaincures.specs.declared.answers.Example.{Example}
use Rattle.explaincures.specs.declared.answers.Example.TheVariants.{Changed}
use Rattle.explaincures.specs.declared.edits.Edit.{Edit}
use Rattle.explaining.specs.Explained.{StandsAt}
use Rattle.explaining.specs.declared.told.Explanation.{Explanation}
use Rattle.refusalsexplain.proofs.Outcomes.{cure_adds}
use Rattle.refusalsexplain.proofs.explanations.change_at_the_end_adds.Goals as goal

-- a change that an explanation of a fault at the text's end shows
abbrev Adds : Wiring → List ℕ → Explanation → Type 0
Adds wiring text told = (edit : Edit) (found mark : ℕ) (why : TextCause) → told.answer.example ≡ Changed edit
    → IsLoadFault wiring (changed edit text) (faults.Text (text_faults.At found mark why))
    → IsEnd (changed edit text) found mark → content_of text < content_of (changed edit text)

adds : {E : Type 0} (wiring : Wiring) (text : List ℕ) (fault : LoadFault) (line col : ℕ) (cause : TextCause)
    (given : Result Explanation E) → fault ≡ faults.Text (text_faults.At line col cause) → IsEnd text line col
    → IfOk given (StandsAt fault) → IfOk given (λ told. ShowsCure wiring text told.line (IsGone text fault) told.answer)
    → IfOk given (Adds wiring text)
adds wiring text fault line col cause (Err e) is was place cure = tt
adds wiring text fault line col cause (Ok told) is was place cure = λ edit found mark why shows stands end.
    let at = subst (λ (f : LoadFault). StandsAt f told) is place in
    let cured = subst (λ (f : LoadFault). ShowsCure wiring text told.line (IsGone text f) told.answer) is cure in
    let shown = subst (λ (e : Example). IsShown (IsCure wiring text told.line (ReadsOn text line col)) e) shows cured in
    let here = subst (λ (n : ℕ). IsCure wiring text n (ReadsOn text line col) edit) at.0 shown in
    cure_adds wiring text line col found mark why edit was here stands end

pub returns : goal.returns
returns c =
    adds c.args.asked.now.binding.now c.args.asked.now.text.now c.args.stop.now.fault c.args.line c.args.col c.args.cause
    c.explanation_of.result c.requires.fault c.requires.place c.explanation_of.ensures.place c.explanation_of.ensures.cure
