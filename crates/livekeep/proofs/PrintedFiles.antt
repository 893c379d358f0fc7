-- The file that is made of values, from its lines and their check sum.
use Rattle.std.proofs.Common.{◌≡◌, ℕ, List, ◌++◌, ap, ◌∙◌}
use Rattle.livekeep.specs.CheckSums.{sum_of}
use Rattle.livekeep.specs.KeptFiles.{KeptEntry, sum_line}
use Rattle.livekeep.specs.Printed.{printed_file, printed_lines}
use Rattle.livekeep.specs.declared.kept_at.KeptAt.{KeptAt}

pub whole_file : (at : KeptAt) (kept : List KeptEntry) (lines line file : List ℕ) (sum : ℕ)
    → lines ≡ printed_lines at kept → sum ≡ sum_of lines → line ≡ sum_line sum → file ≡ lines ++ line
    → file ≡ printed_file at kept
whole_file at kept lines line file sum are total own added =
    added
    ∙ ap (λ (l : List ℕ). lines ++ l) (own ∙ ap sum_line total)
    ∙ ap (λ (l : List ℕ). l ++ sum_line (sum_of l)) are
