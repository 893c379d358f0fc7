-- What scans of the codes of specs/Scans.antt leave.
use Rattle.std.proofs.Common.{◌≡◌, ℕ, List, [], ◌∷◌, Some, None, true, false, pos, refl, subst, ap, ◌∙◌, slice_set}
use Rattle.iltypes.specs.declared.value.Value.TheVariants as values
use Rattle.ilblocks.specs.declared.kind.BlockKind.TheVariants.{GearLevel}
use Rattle.ilblocks.specs.Calls.{Block, at_first}
use Rattle.ilblocks.specs.Stores.{Lasting, Store, after_block, store_at}
use Rattle.ilcode.specs.Lasting.{begun, left_of}
use Rattle.ilcode.specs.Listings.{Listing}
use Rattle.ilcode.specs.Steps.{Ends}
use Rattle.ilcode.proofs.RunPaths.{one_end}
use Rattle.ilmachine.specs.Snapshots.{ScanStart}
use Rattle.ilmachine.specs.Scans.{IsScan, store_of}
use Rattle.refusalscode.specs.Scans.{calling, calling_inside, calling_second, closing, jumping, no_blocks, one_block}
use Rattle.refusalscode.specs.Scans.{requesting}

-- so a scan leaves what the run of its code leaves
pub scan_leaves : (code : Listing) (lasting : Lasting) (snapshot : ScanStart) (n : ℕ) (end : Store)
    → Ends code (begun code (store_at lasting snapshot.moment)) n end → snapshot.verified.code ≡ code
    → snapshot.lasting ≡ lasting → (steps : ℕ) (after : Store)
    → IsScan snapshot.verified (store_of snapshot) steps after → (steps ≡ n) × (after ≡ left_of code end)
scan_leaves code lasting snapshot n end ends of_code of_lasting steps after scan =
    let by_code =
    subst (λ (k : Listing). Ends k (begun k (store_of snapshot)) steps scan.run.end) of_code scan.run.run in
    let by_lasting =
    subst (λ (l : Lasting). Ends code (begun code (store_at l snapshot.moment)) steps scan.run.end) of_lasting
    by_code in
    let same =
    one_end code (begun code (store_at lasting snapshot.moment)) steps n scan.run.end end by_lasting ends in
    let left = subst (λ (k : Listing). after ≡ left_of k scan.run.end) of_code scan.run.left in
    (same.0, left ∙ ap (λ (s : Store). left_of code s) same.1)

abbrev numbers : List ℕ → ℕ → Store
numbers [] moment = record { slots = []; blocks = []; requests = []; moment = moment }
numbers (number ∷ more) moment =
    record (numbers more moment) { slots = values.Int (pos number) ∷ (numbers more moment).slots }

pub calling_ends : (moment : ℕ)
    → Ends calling (begun calling (store_at (no_blocks 0) moment)) 5 (numbers (100 ∷ 100 ∷ 100 ∷ []) moment)
calling_ends moment = record { result = None; run = record { is = refl } }

pub jumping_ends : (moment : ℕ)
    → Ends jumping (begun jumping (store_at (no_blocks 0) moment)) 3 (numbers (0 ∷ []) moment)
jumping_ends moment = record { result = Some (values.Int (pos 0)); run = record { is = refl } }

pub closing_ends : (moment : ℕ)
    → Ends closing (begun closing (store_at (no_blocks 0) moment)) 5 (numbers (100 ∷ []) moment)
closing_ends moment = record { result = Some (values.Int (pos 100)); run = record { is = refl } }

pub inside_ends : (moment : ℕ)
    → Ends calling_inside (begun calling_inside (store_at (no_blocks 0) moment)) 8
    (numbers (100 ∷ 100 ∷ 100 ∷ []) moment)
inside_ends moment = record { result = None; run = record { is = refl } }

pub second_ends : (moment : ℕ)
    → Ends calling_second (begun calling_second (store_at (no_blocks 0) moment)) 5
    (numbers (200 ∷ 0 ∷ 0 ∷ 200 ∷ 200 ∷ []) moment)
second_ends moment = record { result = None; run = record { is = refl } }

-- GEAR_LEVEL with REQ TRUE
abbrev with_request : Block
with_request = record (at_first GearLevel) { ports = slice_set (at_first GearLevel).ports 0 (values.Bool true) }

-- the store after both words
abbrev pub requested_store : ℕ → Store
requested_store moment =
    after_block GearLevel
    (record (store_at one_block moment) { blocks = with_request ∷ [] }) 0 with_request

pub requesting_ends : (moment : ℕ)
    → Ends requesting (begun requesting (store_at one_block moment)) 2 (requested_store moment)
requesting_ends moment = record { result = None; run = record { is = refl } }
