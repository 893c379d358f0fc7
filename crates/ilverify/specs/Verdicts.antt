-- What holds of a code that the verifier accepts.
use Rattle.std.specs.Prelude.{ℕ, ◌+◌, ◌≤◌, length}
use Rattle.limits.specs.Limits.{most_requests}
use Rattle.ilcode.specs.Stores.{Store, IsStoreOf}
use Rattle.ilcode.specs.Listings.{Listing, shape_of}
use Rattle.ilcode.specs.Paths.{IsBound}
use Rattle.ilcode.specs.Steps.{Configuration, Runs, start, IsSafe, Ends}

-- an accepted code with its bound
pub record Accepted : Type 0 where
  pub code : Listing
  pub bound : ℕ

-- the run from this store ends
pub record Terminates (code : Listing) (from : Store) : Type 0 where
  pub steps : ℕ
  pub to : Store
  pub ends : Ends code from steps to

-- each run from a store of the code's types and kinds is defined at each step, keeps it one, and ends; no run has more
-- steps than the bound, which is the greatest number of words on a path, and none makes more requests than the limit
pub record IsVerified (code : Listing) (bound : ℕ) : Type 0 where
  pub safe : IsSafe code
  pub kept : (from : Store) (steps : ℕ) (c : Configuration) → IsStoreOf (shape_of code) from
      → Runs code (start from) steps c → IsStoreOf (shape_of code) c.store
  pub ends : (from : Store) → IsStoreOf (shape_of code) from → Terminates code from
  pub few : (from : Store) (steps : ℕ) (c : Configuration) → Runs code (start from) steps c → steps ≤ bound
  pub asks : (from : Store) (steps : ℕ) (c : Configuration) → Runs code (start from) steps c
      → length c.store.requests ≤ length from.requests + most_requests
  pub greatest : IsBound code bound
