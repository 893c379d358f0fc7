-- Bytes that are cut at a mark, and lines of bytes.
use Rattle.std.proofs.Common.{◌≡◌, ℕ, ◌+◌, ◌<◌, ◌≤◌, ◌==◌, List, [], ◌∷◌, length, Bool, true, false, Bor, ◌↔◌, cond}
use Rattle.std.proofs.Common.{ltb, Option, Some, None, take, drop, refl, ap, sym, ◌∙◌, arith}
use Rattle.std.specs.List.{slice_split, position, position_or_len}
use Rattle.std.specs.Prelude.{is_some, not, IsTrue}
use Rattle.std.specs.Option.{option_copied}
use Rattle.wordlines.specs.WordLines.{parts_of}
use Rattle.std.specs.Str.Lines.{lines, lines_of_parts, strip_carriage_return}
use Rattle.std.proofs.lemmas.Bool.Decides.{nat_tests}
use Rattle.std.proofs.lemmas.List.Splits.{slice_split_none, slice_split_first, length-slice_split}
use Rattle.std.proofs.lemmas.List.{drop-drop}
use Rattle.std.proofs.lemmas.List.Sums.{fails_before_first, position_or_len_is}
use Rattle.std.proofs.lemmas.List.Quantifiers.{position-Some}

none_place : (a n : ℕ) → cond (ltb a n) (Some a) None ≡ None → n ≤ a
none_place a n h = grind (arith, nat_tests)

pub splits_whole : (m : ℕ) (bs : List ℕ) → position (λ b. b == m) bs ≡ None → slice_split (λ b. b == m) bs ≡ bs ∷ []
splits_whole m bs h =
    let p : ℕ → Bool = λ b. b == m in
    let past : length bs ≤ position_or_len p bs = none_place (position_or_len p bs) (length bs) h in
    slice_split_none p bs (λ k d lt. let low : k < position_or_len p bs =
    omega arith in fails_before_first p bs k d low)

pub splits_at : (m : ℕ) (bs : List ℕ) (e : ℕ) → position (λ b. b == m) bs ≡ Some e
    → slice_split (λ b. b == m) bs ≡ take e bs ∷ slice_split (λ b. b == m) (drop 1 (drop e bs))
splits_at m bs e h =
    let p : ℕ → Bool = λ b. b == m in
    let f = position-Some p bs e 0 h in
    let within : e < length bs = f.0 in
    let same : position_or_len p bs ≡ e = position_or_len_is p bs e 0 (omega arith) f.2 (λ _. f.1) in
    slice_split_first p bs 0 (omega arith)
    ∙ (ap (λ (n : ℕ). take n bs ∷ slice_split p (drop (n + 1) bs)) same
    ∙ ap (λ (rest : List ℕ). take e bs ∷ slice_split p rest) (sym (drop-drop 1 e bs)))

lines_more : (x : List ℕ) (parts : List (List ℕ)) → 0 < length parts
    → lines_of_parts (x ∷ parts) ≡ strip_carriage_return x ∷ lines_of_parts parts
lines_more x [] h = absurd (omega arith)
lines_more x (y ∷ more) h = refl

-- a line before a line feed
pub lines_at : (bs x rest : List ℕ) → slice_split (λ b. b == 10) bs ≡ x ∷ slice_split (λ b. b == 10) rest
    → lines bs ≡ strip_carriage_return x ∷ lines rest
lines_at bs x rest h =
    ap lines_of_parts h ∙ lines_more x (slice_split (λ b. b == 10) rest)
    (omega (arith, length-slice_split (λ b. b == 10) rest))

some_word : (m : ℕ) (bs : List ℕ) → slice_split (λ b. b == m) bs ≡ [] → ⊥
some_word m bs h = let none = ap length h in absurd (omega (arith, none, length-slice_split (λ b. b == m) bs))

-- three parts, of which the last is cut once more, are not two
pub three_parts : (m : ℕ) (all : List (List ℕ)) (rest more : Option (Bor (List ℕ))) (middle last : Bor (List ℕ))
    (first second front back : List ℕ) → all ≡ first ∷ parts_of m (option_copied rest) → rest ≡ Some middle
    → slice_split (λ b. b == m) middle.now ≡ second ∷ parts_of m (option_copied more) → more ≡ Some last
    → all ≡ front ∷ back ∷ [] → ⊥
three_parts m all rest more middle last first second front back h r k l two =
    let none : parts_of m (option_copied more) ≡ [] = cc in
    some_word m last.now (rw l at none)

-- there is a word after a space, and none where no space stood
pub none_left : (rest : Option (Bor (List ℕ))) (test : Bool) → is_some rest ≡ not test
    → IsTrue test ↔ (parts_of 32 (option_copied rest) ≡ [])
none_left None true h = (λ _. refl, λ _. refl)
none_left None false h = cc
none_left (Some bytes) true h = cc
none_left (Some bytes) false h = (λ t. cc, λ none. absurd (some_word 32 bytes.now none))
