use Rattle.std.proofs.Common.{◌≡◌, ℕ, Bool, true, false, Option, Some, None, refl}
use Rattle.std.specs.Prelude.{IsTrue, MatchOption, ◌↔◌, not, is_some}
use Rattle.ilcode.specs.Listings.{Listing}
use Rattle.ilverify.specs.Calls.{HasGoodCalls, IsFirstBad}
use Rattle.ilverify.proofs.calls.has_good_calls.Goals as goal

good_by : (code : Listing) (bad : Option ℕ) (good : Bool) → is_some bad ≡ not good
    → MatchOption bad (HasGoodCalls code) (IsFirstBad code) → IsTrue good ↔ HasGoodCalls code
good_by code None true e h = (λ t. h, λ g. refl)
good_by code None false e h = absurd (let k : ⊥ = cc in k)
good_by code (Some place) true e h = absurd (let k : ⊥ = cc in k)
good_by code (Some place) false e h = (λ t. absurd (let k : ⊥ = cc in k), λ g. absurd (g place h.bad))

pub returns : goal.returns
returns c = good_by c.args.code.now c.in_ok-bad.bad c.is_none.result c.is_none.ensures c.in_ok-bad.ensures
