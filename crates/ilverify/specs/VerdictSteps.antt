-- What the stages of the verifier have found.
use Rattle.std.specs.Prelude.{ℕ}
use Rattle.ilcode.specs.Listings.{Listing}
use Rattle.ilcode.specs.Paths.{IsBound}
use Rattle.ilverify.specs.Calls.{HasGoodCalls}
use Rattle.ilverify.specs.Certificates.{IsCertified, IsAccepted}
use Rattle.ilverify.specs.Requests.{HasFewRequests}

-- neither a call nor a word is refused
pub record IsUnrefused (code : Listing) : Type 0 where
  pub good : HasGoodCalls code
  pub certified : IsCertified code
  pub few : HasFewRequests code

-- the code is accepted, and this is its bound
pub record IsMeasured (code : Listing) (bound : ℕ) : Type 0 where
  pub accepted : IsAccepted code
  pub greatest : IsBound code bound
