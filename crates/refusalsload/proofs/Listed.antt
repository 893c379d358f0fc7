-- Words of the command line, and what each of them names.
use Rattle.std.proofs.Common.{◌≡◌, ◌∙◌, ◌<◌, ◌++◌, ◌∷◌, ℕ, List, [], Option, Some, None, zero, suc}
use Rattle.std.proofs.Common.{arith, ap, subst, sym, refl, length, get_or, codes, lit<}
use Rattle.std.specs.Prelude.{◌&&◌, Bool, if◌then◌else◌, nat_le, nat_lt, slice_get, true, false, unwrap_or}
use Rattle.std.specs.List.{All, AllZip, Contains}
use Rattle.std.specs.Str.Parse.{digits_value}
use Rattle.std.proofs.Math.ListN.{length-append}
use Rattle.std.proofs.Math.Seq.{get_or-append_seam}
use Rattle.std.proofs.lemmas.Bool.{leb-true}
use Rattle.clap.specs.Words.{Text}
use Rattle.wordlines.specs.WordLines.{are_digits}
use Rattle.commandline.specs.ExpectedWords.{IsExpectedWord, IsFirstUnexpected}
use Rattle.commandline.specs.LineWords.{ArePaths, IsFirstFault, IsLineWord, comma}
use Rattle.commandline.specs.TextWords.{given}
use Rattle.commandline.specs.declared.expected_words.ExpectedFault.TheVariants.{NoPair}
use Rattle.commandoptions.specs.declared.expected_word.ExpectedWord.{ExpectedWord}
use Rattle.commandoptions.specs.declared.line_word.LineWord.{LineWord}
use Rattle.commandline.specs.declared.line_words.LineWordFault.TheVariants.{Shared}
use Rattle.std.specs.Borrow.{Bor}

-- the first of what words name is that of the first word
pub first_of_each : {X : Type 0} (Names : Text → X → Type 0) (words : List Text) (named : List X) (x : X)
    → AllZip Names words named → slice_get named 0 ≡ Some x → (word : Text) × Names word x
first_of_each Names words [] x each is = absurd (cc)
first_of_each Names [] (y ∷ named) x each is = absurd each
first_of_each Names (word ∷ words) (y ∷ named) x each is =
    (word, subst (λ z. Names word z) (ap (λ o. unwrap_or o x) is) each.0)

-- the number that is taken is a small one
small_taken : (spelled small : Bool) (value number : ℕ) → (if spelled && small then Some value else None) ≡ Some number
    → (small ≡ true) × (value ≡ number)
small_taken true true value number is = (refl, ap (λ (o : Option ℕ). unwrap_or o value) is)
small_taken true false value number is = absurd (cc)
small_taken false small value number is = absurd (cc)

pub bus_below : (word : Text) (line : LineWord) → IsLineWord word line → line.bus < 64
bus_below word line is =
    let value = digits_value 10 is.digits in
    let both = small_taken (nat_lt 0 (length is.digits) && are_digits 10 is.digits) (nat_le value 63) value line.bus is.bus in
    let small = leb-true value 63 both.0 in
    omega (arith, small, both.1)

-- of two paths the first is read
pub first_of_two : (from : Text) (to : Option Text) → ArePaths (codes "a,b") from to → from ≡ codes "a"
first_of_two from None are =
    absurd (are.is_from.1 (subst (λ (t : Text). Contains t comma) are.spelled (1, lit< tt, refl)))
first_of_two [] (Some to) are = absurd (omega (arith, are.is_from.0))
first_of_two (x ∷ []) (Some to) are = sym (ap (λ (t : Text). get_or t 0 x ∷ []) are.spelled)
first_of_two (x ∷ y ∷ from) (Some to) are =
    absurd (are.is_from.1 (1, omega arith, sym (ap (λ (t : Text). get_or t 1 comma) are.spelled)))

pub read_first : (word : Option Text) (from : Text) (to : Option Text) → word ≡ Some (codes "a,b")
    → ArePaths (given word) from to → from ≡ codes "a"
read_first word from to is are = first_of_two from to (subst (λ (w : Option Text). ArePaths (given w) from to) is are)

-- what holds of each word holds of the one behind these
pub all_at : (P : Text → Type 0) (words before : List Text) (word : Text) (after : List Text)
    → words ≡ before ++ word ∷ after → All P words → P word
all_at P words before word after place all =
    let within : length before < length words =
    omega (arith, ap (λ (l : List Text). length l) place, length-append before (word ∷ after)) in
    subst P
    (ap (λ (l : List Text). get_or l (length before) word) place ∙ get_or-append_seam before word after word)
    (all (length before) word within)

-- where each word says what is expected none says nothing
pub each_says : (words : List Text) (word : Bor Text) → IsFirstUnexpected words (NoPair word)
    → ¬ All (λ word. (expected : ExpectedWord) × IsExpectedWord word expected) words
each_says words word first all =
    let says = all_at (λ w. (expected : ExpectedWord) × IsExpectedWord w expected) words first.before word.now first.after
    first.place all in
    first.is_fault says.0 says.1

-- where each word names bus 1, each of their lines is of bus 1
pub each_bus : (words after : List Text) (lines : List LineWord) (k : ℕ) (d : LineWord) → AllZip IsLineWord words lines
    → All (λ word. (line : LineWord) → IsLineWord word line → line.bus ≡ 1) (words ++ after) → k < length lines
    → (get_or lines k d).bus ≡ 1
each_bus words after [] k d each all within = absurd (omega (arith, within))
each_bus [] after (line ∷ lines) k d each all within = absurd each
each_bus (word ∷ words) after (line ∷ lines) zero d each all within = all 0 word (omega arith) line each.0
each_bus (word ∷ words) after (line ∷ lines) (suc k) d each all within =
    each_bus words after lines k d each.1 (λ i e below. all (suc i) e (omega (arith, below))) (omega (arith, within))

-- and none shares a path with that of another bus
pub each_again : (words : List Text) (word : Bor Text) → IsFirstFault words (Shared word)
    → ¬ All (λ word. (line : LineWord) → IsLineWord word line → line.bus ≡ 1) words
each_again words word first all =
    let P : Text → Type 0 = λ word. (line : LineWord) → IsLineWord word line → line.bus ≡ 1 in
    let line = first.is_fault.0 in
    let bus : line.bus ≡ 1 = all_at P words first.before word.now first.after first.place all line first.is_fault.1 in
    let shared = first.is_fault.3 in
    let here = subst (λ (l : List Text). All P l) first.place all in
    let other : (get_or first.lines shared.0 shared.1).bus ≡ 1 =
    each_bus first.before (word.now ∷ first.after) first.lines shared.0 shared.1 first.taken.each here shared.2 in
    let same : shared.1.bus ≡ 1 = sym (ap (λ (l : LineWord). l.bus) shared.3) ∙ other in
    first.is_fault.2 (shared.0, shared.1, shared.2, shared.3, same ∙ sym bus)
