-- What a line says by its first part and the digits behind it, and that it says nothing else.
use Rattle.std.proofs.Common.{◌≡◌, ℕ, List, ◌++◌, Option, None, Some, length, take, drop, sym, ap, ◌∙◌}
use Rattle.std.specs.Prelude.{codes}
use Rattle.std.specs.List.{IsSplitAt}
use Rattle.std.proofs.lemmas.List.{take-append-drop}
use Rattle.std.proofs.Math.Seq.{take-append_seam, drop-append_seam}
use Rattle.buslink.specs.declared.marks.Reply.{Reply}
use Rattle.buslink.specs.declared.marks.Reply.TheVariants.{Quiet, Answer, Damaged, Lost}
use Rattle.liveline.specs.Lines.{IsMessage, IsReply}

-- where the first part is the front, the second part stands behind it
pub stands_behind : (line front head rest : List ℕ) → IsSplitAt line (length front) head rest → head ≡ front
    → line ≡ front ++ rest
stands_behind line front head rest split same =
    let parts : take (length front) line ++ drop (length front) line ≡ line = take-append-drop (length front) line in
    let first : take (length front) line ≡ front = sym split.1 ∙ same in
    sym parts ∙ (ap (λ (xs : List ℕ). xs ++ drop (length front) line) first
    ∙ ap (λ (xs : List ℕ). front ++ xs) (sym split.2))

-- where the list begins with the front, the first part is the front
pub begins_so : (line front head rest more : List ℕ) → IsSplitAt line (length front) head rest → line ≡ front ++ more
    → head ≡ front
begins_so line front head rest more split is =
    split.1 ∙ (ap (λ (xs : List ℕ). take (length front) xs) is ∙ take-append_seam front more)

-- what stands behind a front is one list
pub same_rest : (line front rest more : List ℕ) → line ≡ front ++ rest → line ≡ front ++ more → rest ≡ more
same_rest line front rest more is also =
    sym (drop-append_seam front rest)
    ∙ (ap (λ (xs : List ℕ). drop (length front) xs) (sym is ∙ also) ∙ drop-append_seam front more)

-- a line that does not begin so says no number behind that
pub not_after : (line front : List ℕ) (read : List ℕ → Option ℕ)
    → ((rest : List ℕ) → ¬ (line ≡ front ++ rest))
    → (n : ℕ) → ¬ ((digits : List ℕ) × (line ≡ front ++ digits) × (read digits ≡ Some n))
not_after line front read none n said = none said.0 said.1

-- nor does one that spells none there
pub no_number : (line front rest : List ℕ) (read : List ℕ → Option ℕ) → line ≡ front ++ rest → read rest ≡ None
    → (n : ℕ) → ¬ ((digits : List ℕ) × (line ≡ front ++ digits) × (read digits ≡ Some n))
no_number line front rest read is none n said =
    let same : rest ≡ said.0 = same_rest line front rest said.0 is said.1 in
    let two : None ≡ Some n = sym none ∙ (ap read same ∙ said.2) in
    absurd (cc)

-- a line that says none of the four says no reply
pub no_reply : (line : List ℕ) → ¬ (line ≡ codes "quiet") → ¬ (line ≡ codes "damaged") → ¬ (line ≡ codes "lost")
    → ((byte : ℕ) → ¬ IsReply (Answer byte) line) → (reply : Reply) → ¬ IsReply reply line
no_reply line quiet damaged lost answer Quiet is = quiet is
no_reply line quiet damaged lost answer (Answer byte) is = answer byte is
no_reply line quiet damaged lost answer Damaged is = damaged is
no_reply line quiet damaged lost answer Lost is = lost is

-- a line that says neither of the two says no message
pub no_message : (line : List ℕ) → ¬ (line ≡ codes "none") → ((frame : ℕ) → ¬ IsMessage (Some frame) line)
    → (message : Option ℕ) → ¬ IsMessage message line
no_message line none event None is = none is
no_message line none event (Some frame) is = event frame is
