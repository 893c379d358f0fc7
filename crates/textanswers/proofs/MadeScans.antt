-- One scan more.
use Rattle.std.proofs.Common.{◌≡◌, ℕ, ◌+◌, ◌*◌, List, [], ◌∷◌, ◌++◌, refl, add-one, subst}
use Rattle.ilblocks.specs.Stores.{Lasting}
use Rattle.ilverify.specs.Verdicts.{Accepted}
use Rattle.textanswers.specs.Taking.{Taking}
use Rattle.textanswers.specs.Stepping.{IsScanAt, ScansTo}

pub one_more : (code its : Accepted) (every n moment : ℕ) (from : Lasting) (before : List Taking) (between : Lasting)
    (last : Taking) (to : Lasting) → ScansTo code every n from before between → its ≡ code → moment ≡ n * every
    → IsScanAt its moment between last to → ScansTo code every (n + 1) from (before ++ last ∷ []) to
one_more code its every n moment from before between last to scans same is scan =
    let here = subst (λ (c : Accepted). IsScanAt c moment between last to) same scan in
    let now = subst (λ (m : ℕ). IsScanAt code m between last to) is here in
    rw add-one (before, between, last, scans, now, refl)
