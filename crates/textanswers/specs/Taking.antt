-- What a scan took, as contracts see it.
use Rattle.std.specs.Prelude.{ℕ, List}
use Rattle.gearcmd.specs.declared.requests.Request.{Request}

-- the moment of the image that it began from, its steps, one a word, and its requests in order
pub record Taking : Type 0 where
  pub moment : ℕ
  pub steps : ℕ
  pub requests : List Request
