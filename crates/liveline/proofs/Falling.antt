-- With a moment that is not below the latest, none of the moments that were given is above the latest.
use Rattle.std.proofs.Common.{◌≡◌, ℕ, zero, suc, ◌≤◌, ◌<◌, List, [], ◌∷◌, ◌++◌, length, sym, subst, ◌∙◌, ap, arith}
use Rattle.std.specs.Prelude.{All, reverse}
use Rattle.std.proofs.lemmas.List.{reverse-append}
use Rattle.std.proofs.lemmas.List.Elements.{All-append}

pub not_before : (items : List ℕ) (latest m : ℕ) → latest ≤ m → All (λ e. e ≤ latest) items → All (λ e. e ≤ m) items
not_before items latest m no_less all k d lt = let e = all k d lt in omega arith

one : (m : ℕ) → All (λ e. e ≤ m) (m ∷ [])
one m zero d lt = omega arith
one m (suc k) d lt = omega arith

pub never_falls_on : (items after : List ℕ) (m : ℕ) → after ≡ m ∷ items
    → All (λ e. e ≤ m) (reverse items) → All (λ e. e ≤ m) (reverse after)
never_falls_on items after m is all =
    let both : reverse after ≡ reverse items ++ m ∷ [] = ap (λ (xs : List ℕ). reverse xs) is
    ∙ reverse-append (m ∷ []) items in
    subst (λ (xs : List ℕ). All (λ (e : ℕ). e ≤ m) xs) (sym both)
    (All-append (λ (e : ℕ). e ≤ m) (reverse items) (m ∷ []) all (one m))
