use Rattle.std.proofs.Common.{◌≡◌, ℕ, ◌+◌, List, [], ◌∷◌, Some, slice_get, ap, arith}
use Rattle.plantevents.specs.Parts.{Placed}
use Rattle.plantreceipts.specs.Receipts.{reach_of}
use Rattle.refusalsplant.proofs.shares.newest_receipt_has_its_own_place.Goals as goal

reached : (receipts : List Placed) (newest : Placed) → slice_get receipts 0 ≡ Some newest
    → reach_of receipts ≡ newest.place + 1
reached [] newest is = absurd (cc)
reached (x ∷ older) newest is = let same : x ≡ newest = cc in ap (λ (r : Placed). r.place + 1) same

some_newest : (receipts : List Placed) (newest : Placed) → slice_get receipts 0 ≡ Some newest → ¬ (receipts ≡ [])
some_newest [] newest is = λ none. cc
some_newest (x ∷ older) newest is = λ none. cc

pub last_place-requires : goal.last_place-requires
last_place-requires g c = record { some = some_newest c.args.share.now.receipts _ c.requires }

pub returns : goal.returns
returns g c =
    let newest = reached c.args.share.now.receipts _ c.requires in
    let last = c.last_place.ensures.value in
    omega arith
