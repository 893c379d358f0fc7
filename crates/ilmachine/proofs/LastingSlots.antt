-- The slots that last are the first of a code, and all of a code without functions.
use Rattle.std.proofs.Common.{◌≡◌, ◌≤◌, List, [], take, length, ap, ◌∙◌, arith}
use Rattle.std.specs.Prelude.{slice_get}
use Rattle.std.proofs.lemmas.List.{length-take, take_all, take_min}
use Rattle.iltypes.specs.declared.value.Value.{Value}
use Rattle.iltypes.specs.Values.{AreOf}
use Rattle.ilblocks.proofs.Blocks.{as_long}
use Rattle.ilverify.specs.FunctionBody.{FunctionBody}
use Rattle.ilverify.specs.Listings.{Listing, first_or, slots_end, lasting_types}

-- there is a slot for each value
pub lasting_within : (code : Listing) (values : List Value) → AreOf values (lasting_types code)
    → length values ≤ length code.slots
lasting_within code values typed =
    let long = as_long values (lasting_types code) typed in
    let all = length-take (slots_end code 0) code.slots in
    omega (arith, long, all)

-- so many of the slots as there are values are those that last
pub lasting_front : (code : Listing) (values : List Value) → AreOf values (lasting_types code)
    → take (length values) code.slots ≡ lasting_types code
lasting_front code values typed =
    ap (λ n. take n code.slots) (as_long values (lasting_types code) typed ∙ length-take (slots_end code 0) code.slots)
    ∙ take_min (slots_end code 0) code.slots

pub all_last : (code : Listing) → code.functions ≡ [] → lasting_types code ≡ code.slots
all_last code none =
    ap (λ (fs : List FunctionBody). take (first_or (slice_get fs 0) (length code.slots)) code.slots) none
    ∙ take_all (length code.slots) code.slots (omega arith)
