-- Labels are the same where their numbers are.
use Rattle.std.proofs.Common.{◌≡◌, ℕ, ◌<◌, List, [], ◌∷◌, length, get_or, Bool, true, ◌||◌, refl, sym, ap, ◌∙◌, subst}
use Rattle.std.proofs.Common.{arith}
use Rattle.std.specs.Prelude.{Option, Some, None, bytes_eq}
use Rattle.std.specs.List.{list_any, position_or_len}
use Rattle.std.proofs.lemmas.Bool.Decides.{Decides-eqb, same_from_decides}
use Rattle.std.proofs.lemmas.List.Sums.{passes_at_first}
use Rattle.ilsource.specs.declared.instruction.Line.{Line}
use Rattle.ilsource.specs.Passes.{has_label}
use Rattle.ilsource.specs.Renaming.{IsLabelKept, AreKept}
use Rattle.ilsource.specs.declared.name.Name.{Name}
use Rattle.ilsource.specs.declared.symbol.Symbol.{Symbol}
use Rattle.ilsource.specs.Names.{folded}
use Rattle.ilplan.specs.PlanMeaning.{number_same}
use Rattle.ilscope.specs.SameNames.{same_name}
use Rattle.ilscope.proofs.SameNames.{alike, same_as}
use Rattle.ilsyms.specs.Resolved.{label_number}
use Rattle.ilsyms.proofs.Lists.{either, or_true}

-- an element that passes is found
pub any_found : {X : Type 0} (test : X → Bool) (xs : List X) → list_any test xs ≡ true
    → position_or_len test xs < length xs
any_found test [] e = absurd cc
any_found test (x ∷ xs) e =
    either (test x)
    (λ t. rw t (omega arith))
    (λ f. rw f (let more = any_found test xs (rw f at e) in omega arith))

module _ (text : List ℕ) where
  -- a line that has both labels
  both_have : (l m : Name) (o : Option Name) → has_label (same_name text) l o ≡ true
      → has_label (same_name text) m o ≡ true
      → same_name text l m ≡ true
  both_have l m None e g = absurd cc
  both_have l m (Some k) e g = same_as text l m (alike text l k e ∙ sym (alike text m k g))

  agree : (l m : Name) → folded text l ≡ folded text m → (o : Option Name)
      → has_label (same_name text) l o ≡ has_label (same_name text) m o
  agree l m e None = refl
  agree l m e (Some k) = ap (λ word. bytes_eq word (folded text k)) e

  module _ (all : List (Line Symbol Name)) where
    abbrev has : Name → Line Symbol Name → Bool
    has l line = has_label (same_name text) l line.label

    one_number : (l m : Name) → folded text l ≡ folded text m → label_number text all l ≡ label_number text all m
    one_number l m e = ap (λ test. position_or_len test all) (λ i line. agree l m e line.label i)

    -- of two labels with one number, of which some line has one, some line has both
    other_number : (l m : Name) → list_any (has m) all ≡ true → label_number text all l ≡ label_number text all m
        → same_name text l m ≡ true
    other_number l m has_m e =
        let line : Line Symbol Name = record { at = 0; label = None; instruction = None } in
        let below : label_number text all m < length all = any_found (has m) all has_m in
        let there : has m (get_or all (label_number text all m) line) ≡ true = passes_at_first (has m) all line below in
        let here : has l (get_or all (label_number text all l) line) ≡ true =
        passes_at_first (has l) all line (subst (λ n. n < length all) (sym e) below)
        in
        both_have l m (get_or all (label_number text all m) line).label
        (subst (λ n. has l (get_or all n line) ≡ true) e here) there

    number_kept : (m : Name) → list_any (has m) all ≡ true → (l : Name)
        → number_same (label_number text all l) (label_number text all m) ≡ same_name text l m
    number_kept m has_m l =
        let numbers = Decides-eqb (label_number text all l) (label_number text all m) in
        same_from_decides {P = label_number text all l ≡ label_number text all m} _ _ numbers
        ((λ e. one_number l m (alike text l m e)), (λ e. other_number l m has_m e))

    kept_label : (o : Option Name) → ((m : Name) → o ≡ Some m → list_any (has m) all ≡ true)
        → IsLabelKept (same_name text) number_same (label_number text all) o
    kept_label None among = tt
    kept_label (Some m) among = λ l. number_kept m (among m refl) l

    kept_lines : (lines : List (Line Symbol Name))
        → ((m : Name) → list_any (has m) lines ≡ true → list_any (has m) all ≡ true)
        → AreKept (same_name text) number_same (label_number text all) lines
    kept_lines [] among = tt
    kept_lines (line ∷ lines) among =
        (kept_label line.label (λ m e. among m (first m line.label e)), kept_lines lines (λ m e. among m (later m e)))
      where
        first : (m : Name) (o : Option Name) → o ≡ Some m
            → (has_label (same_name text) m o || list_any (has m) lines) ≡ true
        first m o e = let itself = same_as text m m refl in rw (e, itself) refl

        later : (m : Name) → list_any (has m) lines ≡ true → (has m line || list_any (has m) lines) ≡ true
        later m e = rw e (or_true (has m line))

-- among the lines each label has a number of its own
pub labels_kept : (text : List ℕ) (lines : List (Line Symbol Name))
    → AreKept (same_name text) number_same (label_number text lines) lines
labels_kept text lines = kept_lines text lines lines (λ m e. e)
