-- What is kept under a label is its number.
use Rattle.std.proofs.Common.{◌≡◌, ℕ, suc, ◌+◌, List, length, Bool, true, false, cond, refl, ap, ◌∙◌, arith}
use Rattle.std.specs.Prelude.{Option, Some, None, option_map, bytes_eq, unwrap_or, if◌then◌else◌}
use Rattle.std.specs.Map.{lookup}
use Rattle.std.specs.List.{position_or_len}
use Rattle.std.proofs.lemmas.List.Recursion.{is_position_or_len}
use Rattle.ilsource.specs.declared.instruction.Line.{Line}
use Rattle.ilsource.specs.declared.name.Name.{Name}
use Rattle.ilsource.specs.declared.symbol.Symbol.{Symbol}
use Rattle.ilsource.specs.Names.{folded}
use Rattle.ildeclared.specs.Kept.{Kept}
use Rattle.ilscope.specs.Tables.{first_at}
use Rattle.ilscope.specs.Labels.{AreNumbered}
use Rattle.ilscope.proofs.LabelNumbers.{has}
use Rattle.ilsyms.specs.Resolved.{label_number}

-- the number of the first that passes, or how many there are
pub first_or_end : {X : Type 0} (test : X → Bool) (xs : List X)
    → unwrap_or (first_at test xs) (length xs) ≡ position_or_len test xs
first_or_end {X} test xs =
    is_position_or_len (λ ys. unwrap_or (first_at test ys) (length ys)) test refl
    (λ y ys. more (test y) (first_at test ys) (length ys)) xs
  where
    more : (b : Bool) (o : Option ℕ) (n : ℕ)
        → unwrap_or (if b then Some 0 else option_map suc o) (suc n) ≡ cond b 0 (1 + unwrap_or o n)
    more true o n = refl
    more false None n = omega arith
    more false (Some k) n = omega arith

-- what is kept under a label is its number
pub label_is_number : (text : List ℕ) (lines : List (Line Symbol Name)) (kept : Kept ℕ) → AreNumbered text lines kept
    → (label : Name)
    → unwrap_or (lookup (bytes_eq (folded text label)) kept) (length lines) ≡ label_number text lines label
label_is_number text lines kept h label =
    ap (λ (o : Option ℕ). unwrap_or o (length lines)) (h label) ∙ first_or_end (has text label) lines
