-- Labels that are kept while lines are read: each has the number of the first line that has it.
use Rattle.std.proofs.Common.{◌≡◌, ℕ, suc, ◌+◌, ◌<◌, List, [], ◌∷◌, ◌++◌, map, length, take, get_or, Bool, true}
use Rattle.std.proofs.Common.{false, refl, sym, ap, ◌∙◌, subst, inl, arith, append-nil}
use Rattle.std.specs.Prelude.{Option, Some, None, IsSome, is_some, option_map, bytes_eq, if◌then◌else◌}
use Rattle.std.specs.Map.{lookup}
use Rattle.std.specs.List.{cons_option}
use Rattle.std.specs.Option.{option_or}
use Rattle.std.proofs.lemmas.List.{length-take-le}
use Rattle.std.proofs.lemmas.List.Elements.{filter_map-append}
use Rattle.ilsource.specs.declared.instruction.Line.{Line}
use Rattle.ilsource.specs.Passes.{has_label}
use Rattle.ilsource.specs.declared.name.Name.{Name}
use Rattle.ilsource.specs.declared.symbol.Symbol.{Symbol}
use Rattle.ilsource.specs.Names.{folded, SameName}
use Rattle.ildeclared.specs.Faults.{IsNextOf, OfCause, SomeOf}
use Rattle.ildeclared.specs.Kept.{Kept}
use Rattle.ildeclared.specs.Order.{lesser_of_two}
use Rattle.ildeclared.specs.declared.fault.NameCause.TheVariants.{Twice}
use Rattle.ildeclared.specs.declared.found.Found.{Found}
use Rattle.ildeclared.proofs.FoundOrder.{next_same, or_else}
use Rattle.ildeclared.proofs.Least.{both_next, take_more}
use Rattle.ildeclared.proofs.TwiceLast.{twice_last}
use Rattle.ilscope.specs.Faults.{IsTwiceIn}
use Rattle.ilscope.specs.Tables.{first_at}
use Rattle.ilscope.proofs.LeastOfDeclarations.{some_of}
use Rattle.ilscope.proofs.Numbered.{first_at-last, found_some, some_found}
use Rattle.ilscope.specs.UseFaults.{labels_of}
use Rattle.ilscope.specs.Labels.{AreNumbered}
use Rattle.ilscope.specs.LabelSteps.{IsKeptLabel, KeepsLabel}
use Rattle.ilscope.specs.SameNames.{same_name}

abbrev pub has : List ℕ → Name → Line Symbol Name → Bool
has text label line = has_label (same_name text) label line.label

or_none : {X : Type 0} (o : Option X) → o ≡ option_or o None
or_none None = refl
or_none (Some x) = refl

-- ---- one line more

pub looked_up : (text : List ℕ) (before after : Kept ℕ) (o : Option Name) (number : ℕ)
    → KeepsLabel text o number before after
    → (l : Name) → lookup (bytes_eq (folded text l)) after
    ≡ option_or (lookup (bytes_eq (folded text l)) before) (if has_label (same_name text) l o then Some number else None)
looked_up text before after None number e l =
    ap (λ (k : Kept ℕ). lookup (bytes_eq (folded text l)) k) e ∙ or_none (lookup (bytes_eq (folded text l)) before)
looked_up text before after (Some m) number e l = e (folded text l)

module _ (text : List ℕ) (lines : List (Line Symbol Name)) (i : ℕ) (line : Line Symbol Name) (below : i < length lines)
    (is : line ≡ get_or lines i line) where
  pub numbered_more : (kept new : Kept ℕ) → KeepsLabel text line.label i kept new
      → AreNumbered text (take i lines) kept → AreNumbered text (take (i + 1) lines) new
  numbered_more kept new e h label =
      let front : List (Line Symbol Name) = take i lines in
      let short : length front ≡ i = length-take-le i lines (omega (arith, below)) in
      looked_up text kept new line.label i e label
      ∙ ap (λ (o : Option ℕ). option_or o (if has text label line then Some i else None)) (h label)
      ∙ ap (λ (n : ℕ). option_or (first_at (has text label) front) (if has text label line then Some n else None))
      (sym short)
      ∙ sym (first_at-last (has text label) front line)
      ∙ ap (λ (ls : List (Line Symbol Name)). first_at (has text label) ls) (sym (take_more lines i line below is))

-- ---- what is found

some_suc : (o : Option ℕ) → is_some (option_map suc o) ≡ is_some o
some_suc None = refl
some_suc (Some n) = refl

same_test : (b : Bool) (k j : Option ℕ) → is_some k ≡ is_some j
    → is_some (if b then Some 0 else option_map suc k) ≡ is_some (if b then Some 0 else option_map suc j)
same_test true k j e = refl
same_test false k j e = some_suc k ∙ e ∙ sym (some_suc j)

module _ (text : List ℕ) where
  -- some line has the label where it is among the labels
  among_lines : (lines : List (Line Symbol Name)) (x : Name)
      → is_some (first_at (has text x) lines)
      ≡ is_some (first_at (bytes_eq (folded text x)) (map (folded text) (labels_of lines)))
  among_lines [] x = refl
  among_lines (line ∷ lines) x = step line.label (first_at (has text x) lines) (labels_of lines) (among_lines lines x)
    where
      step : (o : Option Name) (k : Option ℕ) (ns : List Name)
          → is_some k ≡ is_some (first_at (bytes_eq (folded text x)) (map (folded text) ns))
          → is_some (if has_label (same_name text) x o then Some 0 else option_map suc k)
          ≡ is_some (first_at (bytes_eq (folded text x)) (map (folded text) (cons_option o ns)))
      step None k ns e = some_suc k ∙ e
      step (Some m) k ns e = same_test (bytes_eq (folded text x) (folded text m)) k _ e

  pub label_among : (lines : List (Line Symbol Name)) (x : Name) → is_some (first_at (has text x) lines) ≡ true
      → SomeOf (SameName text x) (labels_of lines)
  label_among lines x s =
      some_of (λ m e. sym e) (labels_of lines)
      (found_some (folded text) (labels_of lines) (folded text x) (sym (among_lines lines x) ∙ s))

  pub label_found : (lines : List (Line Symbol Name)) (x : Name) → SomeOf (SameName text x) (labels_of lines)
      → is_some (first_at (has text x) lines) ≡ true
  label_found lines x s =
      among_lines lines x
      ∙ some_found (folded text) (labels_of lines) (folded text x) (some_of (λ m e. sym e) (labels_of lines) s)

-- ---- labels that are given again

module _ (text : List ℕ) where
  -- with the names before, and one more where there is one
  pub again : (after : Option Found) (front : List Name) (kept : Kept ℕ) (a b : Option Found)
      → ((x : Name) → is_some (lookup (bytes_eq (folded text x)) kept)
      ≡ is_some (first_at (bytes_eq (folded text x)) (map (folded text) front)))
      → (o : Option Name)
      → IsNextOf after (OfCause Twice (IsTwiceIn (folded text) front)) a
      → IsNextOf after (OfCause Twice (IsKeptLabel text kept o)) b
      → IsNextOf after (OfCause Twice (IsTwiceIn (folded text) (front ++ cons_option o []))) (lesser_of_two a b)
  again after front kept a b known None h k =
      subst (λ (ns : List Name). IsNextOf after (OfCause Twice (IsTwiceIn (folded text) ns)) (lesser_of_two a b))
      (sym (append-nil front))
      (next_same after _ _ (lesser_of_two a b)
      (λ place cause q. or_else (λ s. s) (λ n. absurd n.1) q)
      (λ place cause s. inl s)
      (both_next after (OfCause Twice (IsTwiceIn (folded text) front)) (OfCause Twice (IsKeptLabel text kept None)) a b
      h k))
  again after front kept a b known (Some m) h k =
      twice_last after (λ n l. folded text n ≡ folded text l) (λ n. n.from) front m
      (IsSome (lookup (bytes_eq (folded text m)) kept)) a b
      (λ s. found_some (folded text) front (folded text m) (sym (known m) ∙ s))
      (λ s. known m ∙ some_found (folded text) front (folded text m) s)
      h k

module _ (text : List ℕ) (lines : List (Line Symbol Name)) (i : ℕ) (line : Line Symbol Name) (below : i < length lines)
    (is : line ≡ get_or lines i line) where
  pub labels_twice_more : (after : Option Found) (kept : Kept ℕ) (a b : Option Found) → AreNumbered text (take i lines)
      kept
      → IsNextOf after (OfCause Twice (IsTwiceIn (folded text) (labels_of (take i lines)))) a
      → IsNextOf after (OfCause Twice (IsKeptLabel text kept line.label)) b
      → IsNextOf after (OfCause Twice (IsTwiceIn (folded text) (labels_of (take (i + 1) lines)))) (lesser_of_two a b)
  labels_twice_more after kept a b n h k =
      let front : List (Line Symbol Name) = take i lines in
      subst (λ (ns : List Name). IsNextOf after (OfCause Twice (IsTwiceIn (folded text) ns)) (lesser_of_two a b))
      (sym (ap labels_of (take_more lines i line below is)
      ∙ filter_map-append (λ (one : Line Symbol Name). one.label) front (line ∷ [])))
      (again text after (labels_of front) kept a b (λ x. ap is_some (n x) ∙ among_lines text front x) line.label h k)
