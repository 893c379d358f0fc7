-- Stores before a scan and after it.
use Rattle.std.proofs.Common.{◌≡◌, ℕ, ◌<◌, List, [], ◌++◌, length, take, drop, Option, Some, None, sym, ap, ◌∙◌}
use Rattle.std.proofs.Common.{subst, arith, length-append}
use Rattle.std.proofs.lemmas.List.{length-map, length-take, length-drop}
use Rattle.std.proofs.lemmas.List.Elements.{All-nil}
use Rattle.iltypes.specs.declared.value.Value.{Value}
use Rattle.gearcmd.specs.declared.requests.Request.{Request}
use Rattle.ilblocks.specs.Calls.{Block}
use Rattle.ilblocks.specs.Stores.{Store, Lasting, IsStoreOf}
use Rattle.ilblocks.proofs.Blocks.{as_long}
use Rattle.ilcode.specs.Lasting.{HasLasting, begun, left_of, least_of, least_values}
use Rattle.ilcode.specs.Listings.{Listing, shape_of, slots_end, lasting_types}
use Rattle.ilcode.specs.Steps.{Ends}
use Rattle.ilverify.specs.Verdicts.{Accepted}
use Rattle.ilmachine.specs.Snapshots.{ScanStart, IsLastingOf}
use Rattle.ilmachine.proofs.RowKinds.{kinds_are}
use Rattle.ilmachine.specs.MachineSteps.{IsRun, IsPrepared, IsRoomFor}
use Rattle.ilmachine.specs.Scans.{IsScan, store_of}
use Rattle.ilmachine.proofs.WholeRows.{are_whole, are_taken, plain_whole}

abbrev pub store_with : List Value → List Block → ℕ → Store
store_with row blocks moment = record { slots = row; blocks = blocks; requests = []; moment = moment }

-- the lasting values with those of the functions' slots behind them
prepared_by : (snapshot : ScanStart) (row : List Value) (blocks : List Block) (moment : ℕ) (room : Option (List Value))
    → row ≡ snapshot.lasting.slots ++ least_values snapshot.verified.code → blocks ≡ snapshot.lasting.blocks
    → moment ≡ snapshot.moment → IsLastingOf snapshot.verified.code snapshot.lasting
    → IsRoomFor snapshot.verified.code room → IsPrepared snapshot (store_with row blocks moment) room
prepared_by snapshot row blocks moment room r b m of fits =
    let code = snapshot.verified.code in
    let whole = snapshot.lasting.slots ++ least_values code in
    let is : store_with row blocks moment ≡ begun code (store_of snapshot) =
    ap (λ (vs : List Value). store_with vs blocks moment) r
    ∙ ap (λ (bs : List Block). store_with whole bs moment) b
    ∙ ap (store_with whole snapshot.lasting.blocks) m in
    record {
      is = is;
      typed = subst (IsStoreOf (shape_of code)) (sym is) (record {
        slots = are_whole (slots_end code 0) snapshot.lasting.slots code.slots of.values;
        blocks = of.blocks;
        requests = All-nil (λ (request : Request). request.bus < code.buses);
      });
      fits = fits;
    }

is_lasting : (code : Listing) (lasting : Lasting) (row : List Value) (blocks : List Block) → row ≡ lasting.slots
    → blocks ≡ lasting.blocks → IsLastingOf code (record { slots = row; blocks = blocks }) → IsLastingOf code lasting
is_lasting code lasting row blocks r b of =
    subst (IsLastingOf code)
    (ap {B = Lasting} (λ (vs : List Value). record { slots = vs; blocks = blocks }) r
    ∙ ap {B = Lasting} (λ (bs : List Block). record { slots = lasting.slots; blocks = bs }) b) of

-- of a code without functions
pub prepared_plain : (snapshot : ScanStart) (row : List Value) (blocks : List Block) (moment : ℕ)
    → row ≡ snapshot.lasting.slots → blocks ≡ snapshot.lasting.blocks → moment ≡ snapshot.moment
    → IsLastingOf snapshot.verified.code (record { slots = row; blocks = blocks })
    → snapshot.verified.code.functions ≡ [] → IsPrepared snapshot (store_with row blocks moment) None
prepared_plain snapshot row blocks moment r b m of none =
    prepared_by snapshot row blocks moment None (r ∙ plain_whole snapshot.verified.code snapshot.lasting.slots none) b m
    (is_lasting snapshot.verified.code snapshot.lasting row blocks r b of) none

-- of one with functions
pub prepared_whole : (snapshot : ScanStart) (row lasting : List Value) (blocks : List Block) (moment : ℕ)
    → lasting ≡ snapshot.lasting.slots → row ≡ lasting ++ least_values snapshot.verified.code
    → blocks ≡ snapshot.lasting.blocks → moment ≡ snapshot.moment
    → IsLastingOf snapshot.verified.code (record { slots = lasting; blocks = blocks })
    → IsPrepared snapshot (store_with row blocks moment) (Some lasting)
prepared_whole snapshot row lasting blocks moment l r b m of =
    let code = snapshot.verified.code in
    prepared_by snapshot row blocks moment (Some lasting) (r ∙ ap (λ (vs : List Value). vs ++ least_values code) l) b m
    (is_lasting code snapshot.lasting lasting blocks l b of) (kinds_are lasting (lasting_types code) of.values)

-- ---- what a scan leaves

pub no_requests : (snapshot : ScanStart) (store : Store) (room : Option (List Value)) → IsPrepared snapshot store room
    → store.requests ≡ []
no_requests snapshot store room p = ap (λ (s : Store). s.requests) p.is

-- it has as many variables as last, since with those of functions it has as many as the code
lasting_there : (snapshot : ScanStart) (store : Store) (room : Option (List Value)) → IsPrepared snapshot store room
    → HasLasting snapshot.verified.code (store_of snapshot)
lasting_there snapshot store room p =
    let code = snapshot.verified.code in
    let n = slots_end code 0 in
    let both = length-append snapshot.lasting.slots (least_values code) in
    let least = length-map (drop n code.slots) least_of in
    let whole = ap (λ (s : Store). length s.slots) p.is in
    let typed = as_long store.slots code.slots p.typed.slots in
    let parts = length-take n code.slots in
    let rest = length-drop n code.slots in
    omega (arith, both, least, whole, typed, parts, rest)

is_scan : (snapshot : ScanStart) (store to left : Store) (room : Option (List Value)) (steps : ℕ)
    → IsPrepared snapshot store room → IsRun snapshot.verified store steps to
    → left ≡ left_of snapshot.verified.code to → IsScan snapshot.verified (store_of snapshot) steps left
is_scan snapshot store to left room steps p r e =
    let code = snapshot.verified.code in
    let before = ap (λ (s : Store). length s.requests) p.is in
    let after = ap (λ (s : Store). length s.requests) e in
    record {
      lasting = lasting_there snapshot store room p;
      run = record { end = to; run = subst (λ (s : Store). Ends code s steps to) p.is r.run; left = e };
      in_types = r.typed;
      few = r.few;
      asks = omega (arith, r.asks, before, after);
      moment = ap (λ (s : Store). s.moment) e ∙ r.moment ∙ ap (λ (s : Store). s.moment) p.is;
    }

-- the same of a verified code and its words as they are read
pub made_scan : (snapshot : ScanStart) (store to left : Store) (room : Option (List Value)) (steps : ℕ)
    (verified : Accepted) (code : Listing) → IsPrepared snapshot store room → verified ≡ snapshot.verified
    → code ≡ snapshot.verified.code → IsRun verified store steps to → left ≡ left_of code to
    → IsScan snapshot.verified (store_of snapshot) steps left
made_scan snapshot store to left room steps verified code p same of r e =
    is_scan snapshot store to left room steps p (subst (λ (a : Accepted). IsRun a store steps to) same r)
    (e ∙ ap (λ (l : Listing). left_of l to) of)

pub left_lasting : (verified : Accepted) (before after : Store) (steps : ℕ) → IsScan verified before steps after
    → IsLastingOf verified.code (record { slots = after.slots; blocks = after.blocks })
left_lasting verified before after steps s =
    let code = verified.code in
    let end = s.run.end in
    let of : IsLastingOf code (record { slots = take (slots_end code 0) end.slots; blocks = end.blocks }) = record {
      values = are_taken (slots_end code 0) end.slots code.slots s.in_types.slots;
      blocks = s.in_types.blocks;
    } in
    subst (λ (x : Store). IsLastingOf code (record { slots = x.slots; blocks = x.blocks })) (sym s.run.left) of

-- the parts that a scan gives out
pub parts_lasting : (verified : Accepted) (before after : Store) (steps : ℕ) (row : List Value) (blocks : List Block)
    (code : Listing) → IsScan verified before steps after → row ≡ after.slots → blocks ≡ after.blocks
    → verified.code ≡ code → IsLastingOf code (record { slots = row; blocks = blocks })
parts_lasting verified before after steps row blocks code s r b e =
    let parts = ap {B = Lasting} (λ (vs : List Value). record { slots = vs; blocks = after.blocks }) (sym r)
    ∙ ap {B = Lasting} (λ (bs : List Block). record { slots = row; blocks = bs }) (sym b) in
    subst (λ (c : Listing). IsLastingOf c (record { slots = row; blocks = blocks })) e
    (subst (IsLastingOf verified.code) parts (left_lasting verified before after steps s))
