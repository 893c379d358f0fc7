-- Chains of calls as they are kept.
use Rattle.std.specs.Prelude.{◌≡◌, ℕ, ◌<◌, ◌↔◌, Bool, false, List, length, get_or, IsTrue}
use Rattle.ilcode.specs.Listings.{Listing}
use Rattle.ilverify.specs.Calls.{HasChain}

-- of each function, whether a chain of so many calls begins in its body
pub record AreChains (code : Listing) (calls : ℕ) (chains : List Bool) : Type 0 where
  pub long : length chains ≡ length code.functions
  pub each : (f : ℕ) → f < length code.functions → IsTrue (get_or chains f false) ↔ HasChain code calls f
