-- What is said of a change, where it is known what the loader says of the text with it: a text has one answer.
use Rattle.std.proofs.Common.{◌≡◌, ◌⊎◌, inl, inr, ℕ, ◌<◌, List, length, Result, Ok, Err, true, arith, refl, subst}
use Rattle.wordlines.specs.Wirings.{Wiring}
use Rattle.ilsource.specs.Places.{line_at}
use Rattle.iltext.specs.declared.fault.TextCause.{TextCause}
use Rattle.iltext.specs.declared.fault.TextFault.TheVariants as text_faults
use Rattle.ildeclared.specs.declared.fault.NameFault.TheVariants as name_faults
use Rattle.ilcompile.specs.Loaded.{Loaded}
use Rattle.plantload.specs.Loading.{IsLoadFault, IsLoaded, IsSetup}
use Rattle.plantload.specs.declared.fault.LoadFault.{LoadFault}
use Rattle.plantload.specs.declared.fault.LoadFault.TheVariants as faults
use Rattle.plantload.proofs.OneAnswer.{one_answer}
use Rattle.explaincures.specs.Trying.{IsCure, IsEnd, IsOnSide, IsTried, ReadsOn, Tells, TellsFault, changed, content_of}
use Rattle.explaincures.specs.Trying.{last_line}
use Rattle.explaincures.specs.declared.edits.Edit.{Edit}
use Rattle.explaincures.specs.declared.edits.EditOutcome.{EditOutcome}
use Rattle.explaincures.specs.declared.edits.EditOutcome.TheVariants.{Accepted, Ended, Text, Name, Code}
use Rattle.explaincures.specs.declared.edits.Side.{Side}

-- it is accepted where the text with it has a setup
pub accepted : (wiring : Wiring) (text : List ℕ) (asked : ℕ) (edit : Edit) (outcome : EditOutcome) (setup : Loaded)
    → IsSetup wiring (changed edit text) setup → IsTried wiring text asked edit outcome → outcome ≡ Accepted
accepted wiring text asked edit outcome setup is tried =
    subst (λ (a : Result Loaded LoadFault). Tells edit text (changed edit text) asked a outcome)
    (one_answer wiring (changed edit text) tried.answer (Ok setup) tried.loaded is) tried.told

is_err : (wiring : Wiring) (text : List ℕ) (edit : Edit) (fault : LoadFault)
    → IsLoadFault wiring (changed edit text) fault → IsLoaded wiring (changed edit text) (Err fault)
is_err wiring text edit fault is = is

-- else the fault is told that the loader gives
pub told_of : (wiring : Wiring) (text : List ℕ) (asked : ℕ) (edit : Edit) (outcome : EditOutcome) (fault : LoadFault)
    → IsLoadFault wiring (changed edit text) fault → IsTried wiring text asked edit outcome
    → TellsFault edit text (changed edit text) asked fault outcome
told_of wiring text asked edit outcome fault is tried =
    let same = one_answer wiring (changed edit text) tried.answer (Err fault) tried.loaded (is_err wiring text edit fault is) in
    subst (λ (a : Result Loaded LoadFault). Tells edit text (changed edit text) asked a outcome) same tried.told

-- and no fault is told as that the text is accepted
pub not_accepted : (edit : Edit) (text bytes : List ℕ) (asked : ℕ) (fault : LoadFault)
    → TellsFault edit text bytes asked fault Accepted → ⊥
not_accepted edit text bytes asked (faults.Text (text_faults.At line col cause)) told = told
not_accepted edit text bytes asked (faults.Text text_faults.Memory) told = told
not_accepted edit text bytes asked (faults.Name (name_faults.At line col cause)) told = told
not_accepted edit text bytes asked (faults.Name name_faults.Memory) told = told
not_accepted edit text bytes asked (faults.Code refused) told = told
not_accepted edit text bytes asked faults.Memory told = told

-- and of a text that has no more in it than before none is told as that it has more and ends too early
pub no_more : (edit : Edit) (text bytes : List ℕ) (asked : ℕ) (fault : LoadFault) → content_of bytes ≡ content_of text
    → TellsFault edit text bytes asked fault (Ended true) → ⊥
no_more edit text bytes asked (faults.Text (text_faults.At line col cause)) same told =
    let more = told.1.0 refl in omega (arith, same, more)
no_more edit text bytes asked (faults.Text text_faults.Memory) same told = told
no_more edit text bytes asked (faults.Name (name_faults.At line col cause)) same told = told
no_more edit text bytes asked (faults.Name name_faults.Memory) same told = told
no_more edit text bytes asked (faults.Code refused) same told = told
no_more edit text bytes asked faults.Memory same told = told

-- a fault of a text that reads on stands behind the change and the line, or at the end
pub reads_behind : (edit : Edit) (text bytes : List ℕ) (asked place line col : ℕ) (cause : TextCause) (outcome : EditOutcome)
    → TellsFault edit text bytes asked (faults.Text (text_faults.At line col cause)) outcome
    → ReadsOn text asked place outcome
    → (last_line edit text bytes asked < line) ⊎ (line ≡ line_at bytes (length bytes))
reads_behind edit text bytes asked place line col cause Accepted told gone = absurd told
reads_behind edit text bytes asked place line col cause (Ended has_more) told gone = inr told.0.0
reads_behind edit text bytes asked place line col cause (Text side) told gone =
    let behind = subst (λ (s : Side). IsOnSide edit text bytes asked line s) gone told.1 in inl behind.1
reads_behind edit text bytes asked place line col cause (Name side) told gone = absurd told
reads_behind edit text bytes asked place line col cause (Code task word) told gone = absurd told

-- where the fault stood at the text's end, and stands at the end again, more stands in the text than before
pub reads_more : (edit : Edit) (text bytes : List ℕ) (asked place line col : ℕ) (cause : TextCause) (outcome : EditOutcome)
    → IsEnd text asked place → IsEnd bytes line col
    → TellsFault edit text bytes asked (faults.Text (text_faults.At line col cause)) outcome
    → ReadsOn text asked place outcome → content_of text < content_of bytes
reads_more edit text bytes asked place line col cause Accepted was is told gone = absurd told
reads_more edit text bytes asked place line col cause (Ended has_more) was is told gone = told.1.0 (gone was)
reads_more edit text bytes asked place line col cause (Text side) was is told gone = absurd (told.0 is)
reads_more edit text bytes asked place line col cause (Name side) was is told gone = absurd told
reads_more edit text bytes asked place line col cause (Code task word) was is told gone = absurd told

-- so it is of a cure
pub cure_reads : (wiring : Wiring) (text : List ℕ) (asked place line col : ℕ) (cause : TextCause) (edit : Edit)
    → IsCure wiring text asked (ReadsOn text asked place) edit
    → IsLoadFault wiring (changed edit text) (faults.Text (text_faults.At line col cause))
    → (last_line edit text (changed edit text) asked < line)
    ⊎ (line ≡ line_at (changed edit text) (length (changed edit text)))
cure_reads wiring text asked place line col cause edit cure is =
    reads_behind edit text (changed edit text) asked place line col cause cure.outcome
    (told_of wiring text asked edit cure.outcome (faults.Text (text_faults.At line col cause)) is cure.tried) cure.gone

pub cure_adds : (wiring : Wiring) (text : List ℕ) (asked place line col : ℕ) (cause : TextCause) (edit : Edit)
    → IsEnd text asked place → IsCure wiring text asked (ReadsOn text asked place) edit
    → IsLoadFault wiring (changed edit text) (faults.Text (text_faults.At line col cause))
    → IsEnd (changed edit text) line col → content_of text < content_of (changed edit text)
cure_adds wiring text asked place line col cause edit was cure is stands =
    reads_more edit text (changed edit text) asked place line col cause cure.outcome was stands
    (told_of wiring text asked edit cure.outcome (faults.Text (text_faults.At line col cause)) is cure.tried) cure.gone
