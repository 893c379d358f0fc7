use Rattle.std.proofs.Common.{◌≡◌, ◌∙◌, ℕ, List, [], ◌∷◌, Some, refl}
use Rattle.std.proofs.lemmas.Slice.Eq.{bytes_eq-Decides}
use Rattle.livekeep.specs.KeptFiles.{KeptEntry}
use Rattle.livekeep.specs.KeptValues.{kept_under}
use Rattle.refusalslanguage.proofs.kept.last_value_is_found.Goals as goal

found : (values : List KeptEntry) (last : KeptEntry) (name : List ℕ) → values ≡ last ∷ [] → name ≡ last.name
    → kept_under values name ≡ Some last.value
found values last name is its = rw (is, its, (bytes_eq-Decides last.name last.name).1 refl) refl

pub returns : goal.returns
returns c =
    c.under.ensures.value
    ∙ found c.args.kept.now.values c.args.last.now c.name.result.now c.requires c.name.ensures.value
