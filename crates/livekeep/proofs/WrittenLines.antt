-- Lines of words that hold no blank are read again as these words.
use Rattle.std.proofs.Common.{◌≡◌, ℕ, ◌+◌, ◌-◌, ◌%◌, ◌<◌, ◌≤◌, ◌^◌, List, [], ◌∷◌, ◌++◌, length, take}
use Rattle.std.proofs.Common.{Bool, true, false}
use Rattle.std.proofs.Common.{refl, ap, ◌∙◌, arith}
use Rattle.std.specs.Prelude.{◌==◌, ◌&&◌, nat_lt, if◌then◌else◌, slice_index, decimal}
use Rattle.std.specs.List.{AllByRecursion, list_all, slice_split}
use Rattle.std.specs.Str.Lines.{lines, lines_of_parts, strip_carriage_return}
use Rattle.std.proofs.lemmas.Bool.Decides.{Decides-eqb, Decides-ltb}
use Rattle.std.proofs.lemmas.Fmt.{decimal_by_steps}
use Rattle.std.proofs.lemmas.List.Elements.{All-from_recursion, All-get_or}
use Rattle.std.proofs.lemmas.List.Splits.{slice_split_none, slice_split_at, length-slice_split}

-- each byte is above this one
abbrev pub AreAbove : ℕ → List ℕ → Type 0
AreAbove low bytes = AllByRecursion (λ byte. low < byte) bytes

pub above_less : (low high : ℕ) (bytes : List ℕ) → low ≤ high → AreAbove high bytes → AreAbove low bytes
above_less low high [] less h = tt
above_less low high (byte ∷ bytes) less h = (omega (arith, less, h.0), above_less low high bytes less h.1)

pub above_append : (low : ℕ) (front back : List ℕ) → AreAbove low front → AreAbove low back
    → AreAbove low (front ++ back)
above_append low [] back h k = k
above_append low (byte ∷ front) back h k = (h.0, above_append low front back h.1 k)

-- closed lists are tested
both : (one more : Bool) → (one && more) ≡ true → (one ≡ true) × (more ≡ true)
both true true h = (refl, refl)
both true false h = cc
both false more h = cc

pub above_tested : (low : ℕ) (bytes : List ℕ) → list_all (λ byte. nat_lt low byte) bytes ≡ true → AreAbove low bytes
above_tested low [] h = tt
above_tested low (byte ∷ bytes) h =
    let tests = both (nat_lt low byte) (list_all (λ b. nat_lt low b) bytes) h in
    ((Decides-ltb low byte).0 tests.0, above_tested low bytes tests.1)

-- ---- parts between a byte

pub false_unless : (test : Bool) → (test ≡ true → ⊥) → test ≡ false
false_unless true h = absurd (h refl)
false_unless false h = refl

pub other : (low mark byte : ℕ) → mark ≤ low → low < byte → (byte == mark) ≡ false
other low mark byte less h =
    false_unless (byte == mark) (λ same. omega (arith, less, h, (Decides-eqb byte mark).0 same))

no_mark : (low mark : ℕ) (bytes : List ℕ) → mark ≤ low → AreAbove low bytes
    → AllByRecursion (λ byte. (byte == mark) ≡ false) bytes
no_mark low mark [] less h = tt
no_mark low mark (byte ∷ bytes) less h = (other low mark byte less h.0, no_mark low mark bytes less h.1)

same_mark : (mark : ℕ) → (mark == mark) ≡ true
same_mark mark = (Decides-eqb mark mark).1 refl

pub split_none : (low mark : ℕ) (bytes : List ℕ) → mark ≤ low → AreAbove low bytes
    → slice_split (λ byte. byte == mark) bytes ≡ bytes ∷ []
split_none low mark bytes less h =
    slice_split_none (λ byte. byte == mark) bytes
    (All-from_recursion (λ byte. (byte == mark) ≡ false) bytes (no_mark low mark bytes less h))

pub split_at : (low mark : ℕ) (bytes more : List ℕ) → mark ≤ low → AreAbove low bytes
    → slice_split (λ byte. byte == mark) (bytes ++ mark ∷ more) ≡ bytes ∷ slice_split (λ byte. byte == mark) more
split_at low mark bytes more less h =
    slice_split_at (λ byte. byte == mark) bytes mark more
    (All-from_recursion (λ byte. (byte == mark) ≡ false) bytes (no_mark low mark bytes less h)) (same_mark mark)

-- ---- lines

-- no carriage return at the end
last_other : (bytes : List ℕ) → AreAbove 31 bytes → (slice_index bytes (length bytes - 1) == 13) ≡ false
last_other [] h = refl
last_other (byte ∷ bytes) h =
    let line = byte ∷ bytes in
    let last = All-get_or (λ (b : ℕ). 31 < b) line (length line - 1) 0 (omega arith)
    (All-from_recursion (λ (b : ℕ). 31 < b) line h) in
    other 31 13 (slice_index line (length line - 1)) (omega arith) last

kept_whole : (line : List ℕ) → AreAbove 31 line → strip_carriage_return line ≡ line
kept_whole line h = ap (λ (t : Bool). if t then take (length line - 1) line else line) (last_other line h)

one_more : (line : List ℕ) (parts : List (List ℕ)) → 0 < length parts
    → lines_of_parts (line ∷ parts) ≡ strip_carriage_return line ∷ lines_of_parts parts
one_more line [] some = absurd (omega (arith, some))
one_more line (part ∷ parts) some = refl

some_part : (bytes : List ℕ) → 0 < length (slice_split (λ byte. byte == 10) bytes)
some_part bytes = omega (arith, length-slice_split (λ byte. byte == 10) bytes)

-- a line is the first of its text, and those after it are the lines of the rest
pub line_read : (line rest : List ℕ) → AreAbove 31 line → lines (line ++ 10 ∷ rest) ≡ line ∷ lines rest
line_read line rest h =
    ap lines_of_parts (split_at 31 10 line rest (omega arith) h)
    ∙ one_more line (slice_split (λ byte. byte == 10) rest) (some_part rest)
    ∙ ap (λ (l : List ℕ). l ∷ lines rest) (kept_whole line h)

-- ---- numbers

pub decimal_above : (number : ℕ) → number < 2 ^ 64 → AreAbove 47 (decimal number)
decimal_above number small =
    decimal_by_steps (λ n ds. AreAbove 47 ds) (λ n h. (omega arith, tt))
    (λ n ds h k. above_append 47 ds ((48 + n % 10) ∷ []) k (omega arith, tt)) number small
