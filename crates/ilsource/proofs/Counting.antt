-- Counting goes on where it stopped.
use Rattle.std.proofs.Common.{◌≡◌, ℕ, ◌+◌, Bool, List, take, drop, ap, ◌∙◌, cond}
use Rattle.std.specs.List.{count_by}
use Rattle.std.proofs.Math.Seq.{take-add}
use Rattle.std.proofs.lemmas.List.Sums.{sum_by-append}

-- what is counted in a front is counted in both parts of it
pub count_by-take-add : {X : Type 0} (p : X → Bool) (xs : List X) (i d : ℕ)
    → count_by p (take (i + d) xs) ≡ count_by p (take i xs) + count_by p (take d (drop i xs))
count_by-take-add p xs i d =
    ap (count_by p) (take-add i d xs) ∙ sum_by-append (λ x. cond (p x) 1 0) (take i xs) (take d (drop i xs))
