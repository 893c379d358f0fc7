-- What is kept of a building, one variable after another.
use Rattle.std.proofs.Common.{◌≡◌, ℕ, ◌+◌, ◌<◌, ◌≤◌, List, ◌∷◌, ◌++◌, drop, length, get_or, Some, ap, sym, ◌∙◌, arith}
use Rattle.std.proofs.Common.{append_assoc, inl, inr, ◌⊎◌, None, []}
use Rattle.std.specs.Prelude.{slice_get}
use Rattle.std.proofs.lemmas.List.{append-nil, drop_more, drop_all}
use Rattle.std.proofs.lemmas.Option.{slice_get_cases}
use Rattle.iltypes.specs.declared.value.Value.{Value}
use Rattle.ilplan.specs.declared.global.Global.{Global as GlobalVariable}
use Rattle.livekeep.specs.KeptFiles.{KeptEntry}
use Rattle.livekeep.specs.KeptStates.{entries_for, global_entries}

-- what is kept so far, and what is kept of the variables that are left
abbrev pub kept_and_left : List ℕ → List GlobalVariable → List Value → ℕ → List KeptEntry → List KeptEntry
kept_and_left text globals values number kept =
    kept ++ global_entries text (drop number globals) (drop number values)

-- one variable more
module _ (text : List ℕ) (globals : List GlobalVariable) (values : List Value) (number : ℕ) (value : Value) where
  added : (g : GlobalVariable) (before after all : List KeptEntry) → get_or globals number g ≡ g
      → number < length globals → number < length values → get_or values number value ≡ value
      → after ≡ before ++ entries_for text g value → kept_and_left text globals values number before ≡ all
      → kept_and_left text globals values (number + 1) after ≡ all
  added g before after all got few within at is so_far =
      let rest = global_entries text (drop (number + 1) globals) (drop (number + 1) values) in
      let here : drop number globals ≡ g ∷ drop (number + 1) globals =
      drop_more globals number g few ∙ ap (λ (x : GlobalVariable). x ∷ drop (number + 1) globals) got in
      let there : drop number values ≡ value ∷ drop (number + 1) values =
      drop_more values number value within ∙ ap (λ (x : Value). x ∷ drop (number + 1) values) at in
      ap (λ (l : List KeptEntry). l ++ rest) is
      ∙ append_assoc before (entries_for text g value) rest
      ∙ ap (λ (l : List KeptEntry). before ++ l)
      (sym (ap (λ (l : List GlobalVariable). global_entries text l (drop number values)) here
      ∙ ap (λ (l : List Value). global_entries text (g ∷ drop (number + 1) globals) l) there))
      ∙ so_far

  by_cases : ((x : GlobalVariable) × (number < length globals) × (slice_get globals number ≡ Some x)
      × (get_or globals number x ≡ x)) ⊎ ((length globals ≤ number) × (slice_get globals number ≡ None))
      → (before after all : List KeptEntry) → number < length globals → number < length values
      → get_or values number value ≡ value
      → ((g : GlobalVariable) → slice_get globals number ≡ Some g → after ≡ before ++ entries_for text g value)
      → kept_and_left text globals values number before ≡ all
      → kept_and_left text globals values (number + 1) after ≡ all
  by_cases (inl (g, lt, found, got)) before after all few within at is so_far =
      added g before after all got few within at (is g found) so_far
  by_cases (inr (past, none)) before after all few within at is so_far = absurd (omega (arith, few, past))

  pub one_kept : (before after all : List KeptEntry) → number < length globals → number < length values
      → get_or values number value ≡ value
      → ((g : GlobalVariable) → slice_get globals number ≡ Some g → after ≡ before ++ entries_for text g value)
      → kept_and_left text globals values number before ≡ all
      → kept_and_left text globals values (number + 1) after ≡ all
  one_kept = by_cases (slice_get_cases globals number).1

-- none is left
pub all_kept : (text : List ℕ) (globals : List GlobalVariable) (values : List Value) (number : ℕ)
    (kept all : List KeptEntry) → length globals ≤ number → kept_and_left text globals values number kept ≡ all
    → kept ≡ all
all_kept text globals values number kept all over so_far =
    sym (append-nil kept)
    ∙ ap (λ (l : List GlobalVariable). kept ++ global_entries text l (drop number values))
    (sym (drop_all number globals over))
    ∙ so_far

-- ---- slots and tasks

-- where a list of pairs gives items, those so far and those of the pairs that are left
module _ {X Y : Type 0} (given : X → Y → List KeptEntry) (rest : List X → List Y → List KeptEntry)
    (cons : (x : X) (y : Y) (xs : List X) (ys : List Y) → rest (x ∷ xs) (y ∷ ys) ≡ given x y ++ rest xs ys) where
  pub one_more : (xs : List X) (ys : List Y) (n : ℕ) (x : X) (y : Y) (before after all : List KeptEntry)
      → n < length xs → n < length ys → x ≡ get_or xs n x → y ≡ get_or ys n y → after ≡ before ++ given x y
      → before ++ rest (drop n xs) (drop n ys) ≡ all → after ++ rest (drop (n + 1) xs) (drop (n + 1) ys) ≡ all
  one_more xs ys n x y before after all few within is at added so_far =
      let more = rest (drop (n + 1) xs) (drop (n + 1) ys) in
      let here : drop n xs ≡ x ∷ drop (n + 1) xs =
      drop_more xs n x few ∙ ap (λ (z : X). z ∷ drop (n + 1) xs) (sym is) in
      let there : drop n ys ≡ y ∷ drop (n + 1) ys =
      drop_more ys n y within ∙ ap (λ (z : Y). z ∷ drop (n + 1) ys) (sym at) in
      ap (λ (l : List KeptEntry). l ++ more) added
      ∙ append_assoc before (given x y) more
      ∙ ap (λ (l : List KeptEntry). before ++ l)
      (sym (ap (λ (l : List X). rest l (drop n ys)) here
      ∙ ap (λ (l : List Y). rest (x ∷ drop (n + 1) xs) l) there
      ∙ cons x y (drop (n + 1) xs) (drop (n + 1) ys)))
      ∙ so_far

  pub none_left : (xs : List X) (ys : List Y) (n : ℕ) (kept all : List KeptEntry) → ((l : List Y) → rest [] l ≡ [])
      → length xs ≤ n → kept ++ rest (drop n xs) (drop n ys) ≡ all → kept ≡ all
  none_left xs ys n kept all empty over so_far =
      sym (append-nil kept)
      ∙ ap (λ (l : List KeptEntry). kept ++ l)
      (sym (ap (λ (l : List X). rest l (drop n ys)) (drop_all n xs over) ∙ empty (drop n ys)))
      ∙ so_far
