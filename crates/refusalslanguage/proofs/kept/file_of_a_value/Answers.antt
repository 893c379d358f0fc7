use Rattle.std.proofs.Common.{◌≡◌, ◌∙◌, ℕ, List, [], ◌∷◌, codes, pos, refl, ap}
use Rattle.std.specs.Fmt.{digits}
use Rattle.iltypes.specs.declared.value.Value.TheVariants.{Int}
use Rattle.livekeep.specs.CheckSums.{sum_of}
use Rattle.livekeep.specs.KeptFiles.{KeptEntry, entry_of}
use Rattle.livekeep.specs.Printed.{printed_file}
use Rattle.livekeep.specs.declared.kept_at.KeptAt.{KeptAt}
use Rattle.refusalslanguage.proofs.Results.{if_ok}
use Rattle.refusalslanguage.proofs.kept.file_of_a_value.Goals as goal

abbrev lamp_file : List ℕ
lamp_file = codes "kept by dalictl live at 1 moment 2\nlamp = 200\nend 1\nsum 3595046948\n"

printed : printed_file (record { date = 1; moment = 2 }) (entry_of (codes "lamp") (Int (pos 200)) ∷ []) ≡ lamp_file
unfolding sum_of digits
printed = refl

pub returns : goal.returns
returns c =
    let values = c.args.values.now in
    let at : KeptAt = record { date = 1; moment = 2 } in
    if_ok (λ file. file.items ≡ printed_file at values) (λ file. file.items ≡ lamp_file) c.kept_file.result
    c.kept_file.ensures (λ file is.
    is ∙ ap (λ (v : List KeptEntry). printed_file at v) c.requires ∙ printed)
