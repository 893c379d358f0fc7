-- What a scan starts from, part after part.
use Rattle.std.proofs.Common.{◌≡◌, ◌∙◌, ap}
use Rattle.ilmachine.specs.Snapshots.{ScanStart, start_of}

abbrev pub SameValues : ScanStart → ScanStart → Type 0
SameValues a b = (a.moment ≡ b.moment) × (a.lasting.slots ≡ b.lasting.slots)

abbrev pub SameBlocks : ScanStart → ScanStart → Type 0
SameBlocks a b = SameValues a b × (a.lasting.blocks ≡ b.lasting.blocks)

abbrev pub SameParts : ScanStart → ScanStart → Type 0
SameParts a b = SameBlocks a b × (a.verified ≡ b.verified)

-- the parts are what the scan starts from
pub same_start : (a b : ScanStart) → SameParts a b → a ≡ b
same_start a b e =
    ap (λ moment. start_of a.verified a.lasting moment) e.0.0.0
    ∙ (ap (λ slots. start_of a.verified (record { slots = slots; blocks = a.lasting.blocks }) b.moment) e.0.0.1
    ∙ (ap (λ blocks. start_of a.verified (record { slots = b.lasting.slots; blocks = blocks }) b.moment) e.0.1
    ∙ ap (λ verified. start_of verified b.lasting b.moment) e.1))

pub same_parts : (a b : ScanStart) → a ≡ b → SameParts a b
same_parts a b e =
    let values : SameValues a b =
    (ap (λ (x : ScanStart). x.moment) e, ap (λ (x : ScanStart). x.lasting.slots) e) in
    let blocks : SameBlocks a b = (values, ap (λ (x : ScanStart). x.lasting.blocks) e) in
    (blocks, ap (λ (x : ScanStart). x.verified) e)
