-- A line says one reply at most, and one message at most.
use Rattle.std.proofs.Common.{◌≡◌, ℕ, List, [], ◌∷◌, ◌++◌, Option, None, Some, sym, ap, ◌∙◌, refl, arith}
use Rattle.std.specs.Prelude.{codes}
use Rattle.buslink.specs.declared.marks.Reply.{Reply}
use Rattle.buslink.specs.declared.marks.Reply.TheVariants.{Quiet, Answer, Damaged, Lost}
use Rattle.wordlines.specs.WordLines.{hex_number, number_upto}
use Rattle.liveline.specs.Lines.{IsMessage, IsReply}
use Rattle.liveline.proofs.Answering.{same_rest}

-- the first byte, by which all that is said differs
abbrev first : List ℕ → ℕ
first [] = 0
first (byte ∷ bytes) = byte

abbrev first_of : Reply → ℕ
first_of Quiet = 113
first_of (Answer byte) = 97
first_of Damaged = 100
first_of Lost = 108

begins : (reply : Reply) (line : List ℕ) → IsReply reply line → first line ≡ first_of reply
begins Quiet line is = ap (λ (xs : List ℕ). first xs) is
begins (Answer byte) line is = ap (λ (xs : List ℕ). first xs) is.1
begins Damaged line is = ap (λ (xs : List ℕ). first xs) is
begins Lost line is = ap (λ (xs : List ℕ). first xs) is

same_byte : (line one other : List ℕ) → line ≡ one → line ≡ other → first one ≡ first other
same_byte line one other is also = ap (λ (xs : List ℕ). first xs) (sym is ∙ also)

-- a number is read one way
one_number : (line front : List ℕ) (read : List ℕ → Option ℕ) (m n : ℕ)
    → (digits : List ℕ) × (line ≡ front ++ digits) × (read digits ≡ Some m)
    → (digits : List ℕ) × (line ≡ front ++ digits) × (read digits ≡ Some n) → m ≡ n
one_number line front read m n said other =
    let same : said.0 ≡ other.0 = same_rest line front said.0 other.0 said.1 other.1 in
    let two : Some m ≡ Some n = sym said.2 ∙ (ap read same ∙ other.2) in
    cc

same_first : (line : List ℕ) (one other : Reply) → IsReply one line → IsReply other line → first_of one ≡ first_of other
same_first line one other said also = sym (begins one line said) ∙ begins other line also

pub one_reply : (line : List ℕ) (one other : Reply) → IsReply one line → IsReply other line → one ≡ other
one_reply line Quiet Quiet said also = refl
one_reply line Quiet (Answer n) said also =
    let same : ◌≡◌ {A = ℕ} 113 97 = same_first line Quiet (Answer n) said also in absurd (omega arith)
one_reply line Quiet Damaged said also =
    let same : ◌≡◌ {A = ℕ} 113 100 = same_first line Quiet Damaged said also in absurd (omega arith)
one_reply line Quiet Lost said also =
    let same : ◌≡◌ {A = ℕ} 113 108 = same_first line Quiet Lost said also in absurd (omega arith)
one_reply line (Answer m) Quiet said also =
    let same : ◌≡◌ {A = ℕ} 97 113 = same_first line (Answer m) Quiet said also in absurd (omega arith)
one_reply line (Answer m) (Answer n) said also =
    ap (λ (byte : ℕ). Answer byte) (one_number line (codes "answer ") (number_upto 255) m n said also)
one_reply line (Answer m) Damaged said also =
    let same : ◌≡◌ {A = ℕ} 97 100 = same_first line (Answer m) Damaged said also in absurd (omega arith)
one_reply line (Answer m) Lost said also =
    let same : ◌≡◌ {A = ℕ} 97 108 = same_first line (Answer m) Lost said also in absurd (omega arith)
one_reply line Damaged Quiet said also =
    let same : ◌≡◌ {A = ℕ} 100 113 = same_first line Damaged Quiet said also in absurd (omega arith)
one_reply line Damaged (Answer n) said also =
    let same : ◌≡◌ {A = ℕ} 100 97 = same_first line Damaged (Answer n) said also in absurd (omega arith)
one_reply line Damaged Damaged said also = refl
one_reply line Damaged Lost said also =
    let same : ◌≡◌ {A = ℕ} 100 108 = same_first line Damaged Lost said also in absurd (omega arith)
one_reply line Lost Quiet said also =
    let same : ◌≡◌ {A = ℕ} 108 113 = same_first line Lost Quiet said also in absurd (omega arith)
one_reply line Lost (Answer n) said also =
    let same : ◌≡◌ {A = ℕ} 108 97 = same_first line Lost (Answer n) said also in absurd (omega arith)
one_reply line Lost Damaged said also =
    let same : ◌≡◌ {A = ℕ} 108 100 = same_first line Lost Damaged said also in absurd (omega arith)
one_reply line Lost Lost said also = refl

pub one_message : (line : List ℕ) (one other : Option ℕ) → IsMessage one line → IsMessage other line → one ≡ other
one_message line None None said also = refl
one_message line None (Some n) said also =
    let same : ◌≡◌ {A = ℕ} 110 101 = same_byte line (codes "none") (codes "event " ++ also.0) said also.1 in
    absurd (omega arith)
one_message line (Some m) None said also =
    let same : ◌≡◌ {A = ℕ} 101 110 = same_byte line (codes "event " ++ said.0) (codes "none") said.1 also in
    absurd (omega arith)
one_message line (Some m) (Some n) said also =
    ap (λ (frame : ℕ). Some frame) (one_number line (codes "event ") hex_number m n said also)
