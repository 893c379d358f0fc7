-- What lasts of a plan's first tasks: of one task more.
use Rattle.std.proofs.Common.{◌≡◌, ◌<◌, ◌+◌, ℕ, zero, suc, List, [], ◌∷◌, ◌++◌, length, take}
use Rattle.std.proofs.Common.{refl, ap, add-one, arith}
use Rattle.std.specs.Prelude.{slice_get, IfSome}
use Rattle.std.specs.List.{AllZip}
use Rattle.std.proofs.lemmas.Slice.Zip.{all_zipped_more}
use Rattle.ilblocks.specs.Stores.{Lasting}
use Rattle.ilplan.specs.Plans.{PlannedTask}
use Rattle.ilplan.specs.Beginnings.{HasEach}

-- what lasts of each of the first tasks
abbrev pub FitFirst : List PlannedTask → ℕ → List Lasting → Type 0
FitFirst tasks n held = AllZip HasEach (take n tasks) held

-- a longer front has one task more
longer_front : (P : PlannedTask → Type 0) (tasks : List PlannedTask) (k : ℕ) → k < length tasks
    → IfSome (slice_get tasks k) P → (t : PlannedTask) × (take (suc k) tasks ≡ take k tasks ++ t ∷ []) × P t
longer_front P [] k h p = absurd (omega arith)
longer_front P (t ∷ tasks) zero h p = (t, refl, p)
longer_front P (t ∷ tasks) (suc k) h p =
    let more = longer_front P tasks k (omega arith) p in
    (more.0, ap (λ (ts : List PlannedTask). t ∷ ts) more.1, more.2)

pub one_task_more : (tasks : List PlannedTask) (k : ℕ) (held : List Lasting) (own : Lasting)
    → k < length tasks → FitFirst tasks k held → IfSome (slice_get tasks k) (λ t. HasEach t own)
    → FitFirst tasks (k + 1) (held ++ own ∷ [])
one_task_more tasks k held own below known this =
    let front = longer_front (λ (t : PlannedTask). HasEach t own) tasks k below this in
    rw (add-one, front.1) (all_zipped_more HasEach (take k tasks) held front.0 own known front.2)
