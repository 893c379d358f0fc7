-- What is known of a file that reads up to a line, and of a change with which one does.
use Rattle.std.proofs.Common.{◌≡◌, ◌⊎◌, ◌∙◌, ◌<◌, inl, inr, ℕ, Bool, List, Result, Ok, Err, ap, refl, subst, sym}
use Rattle.std.specs.Prelude.{◌↔◌, IfOk, IsTrue}
use Rattle.wordlines.specs.LineFiles.{IsTooLong}
use Rattle.wordlines.specs.declared.fault.LineCause.TheVariants.{BadLine, TooLong}
use Rattle.wordlines.specs.declared.fault.LineFault.{LineFault}
use Rattle.wordlines.specs.declared.fault.LineFault.TheVariants.{At, Memory}
use Rattle.explaincures.specs.Trying.{changed, last_line}
use Rattle.explaincures.specs.declared.edits.Edit.{Edit}
use Rattle.explainlines.specs.Curing.{IsGoodTo, IsGoodWith, ReadsTo}
use Rattle.explainlines.specs.declared.lines.LineFile.{LineFile}

-- it is accepted, or its fault stands behind the line
pub good : {Value Of : Type 0} (Says : Value → Type 0) (IsBad : ℕ → Type 0) (bytes : List ℕ) (last : ℕ)
    (result : Result Value (LineFault Of)) → ((value : Value) → result ≡ Ok value → Says value)
    → ((line : ℕ) → result ≡ Err (At line BadLine) → IsBad line)
    → ((line : ℕ) → (result ≡ Err (At line TooLong)) ↔ IsTooLong bytes line) → ReadsTo last result
    → ((value : Value) × Says value) ⊎ ((line : ℕ) × (IsBad line ⊎ IsTooLong bytes line) × (last < line))
good Says IsBad bytes last (Ok value) says bad long reads = inl (value, says value refl)
good Says IsBad bytes last (Err Memory) says bad long reads = absurd reads
good Says IsBad bytes last (Err (At line BadLine)) says bad long reads = inr (line, inl (bad line refl), reads)
good Says IsBad bytes last (Err (At line TooLong)) says bad long reads = inr (line, inr ((long line).0 refl), reads)

-- what holds where a result is one of these holds where it follows
pub if_ok : {X E : Type 0} (P Q : X → Type 0) (result : Result X E) → IfOk result P → ((x : X) → P x → Q x)
    → IfOk result Q
if_ok P Q (Ok x) holds follows = follows x holds
if_ok P Q (Err e) holds follows = holds

-- with a change the file is good up to the last line of the change and of the line that it is to cure
pub good_with : {E : Type 0} (file kind : LineFile) (bytes all read : List ℕ) (number last : ℕ) (edit : Edit)
    (result : Result Bool E) → file ≡ kind → all ≡ changed edit bytes → read ≡ changed edit bytes
    → last ≡ last_line edit bytes all number → IfOk result (λ is. IsTrue is → IsGoodTo kind read last)
    → IfOk result (λ is. IsTrue is → IsGoodWith file bytes number edit)
good_with file kind bytes all read number last edit result is all_is read_is last_is holds =
    let text = changed edit bytes in
    let line = last_is ∙ ap (λ x. last_line edit bytes x number) all_is in
    if_ok (λ is. IsTrue is → IsGoodTo kind read last) (λ is. IsTrue is → IsGoodWith file bytes number edit) result holds
    (λ b known true_is.
    subst (λ (f : LineFile). IsGoodTo f text (last_line edit bytes text number)) (sym is)
    (subst (λ (n : ℕ). IsGoodTo kind text n) line (subst (λ (x : List ℕ). IsGoodTo kind x last) read_is (known true_is))))
