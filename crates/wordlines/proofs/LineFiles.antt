-- What is reported of a file of lines is the one thing that there is to report, unless memory was refused.
use Rattle.std.proofs.Common.{◌≡◌, ℕ, ◌≤◌, ◌↔◌, inl, inr, List, length, Result, Ok, Err, refl, ap, arith}
use Rattle.limits.specs.Limits.{most_bytes}
use Rattle.wordlines.specs.LineFiles.{IsReport, IsTooLong, GivesIfRoom}
use Rattle.wordlines.specs.declared.fault.LineCause.TheVariants.{BadLine, TooLong}
use Rattle.wordlines.specs.declared.fault.LineFault.{LineFault}
use Rattle.wordlines.specs.declared.fault.LineFault.TheVariants.{Memory, At}

module _ {Value Of : Type 0} (Says : Value → Type 0) (IsBad : ℕ → Type 0) (NeedsMemory : Type 0) (bytes : List ℕ) where
  -- what bytes say that are not too long is reported, where they say it alone and none of their lines is bad
  pub said_is_reported : (r : Result Value (LineFault Of)) → IsReport Says IsBad NeedsMemory bytes r → (value : Value)
      → ((other : Value) → Says other → other ≡ value) → ((line : ℕ) → ¬ IsBad line) → length bytes ≤ most_bytes
      → GivesIfRoom r (Ok value)
  said_is_reported (Ok said) is value one none short = inl (ap Ok (one said is))
  said_is_reported (Err Memory) is value one none short = inr refl
  said_is_reported (Err (At line BadLine)) is value one none short = absurd (none line is)
  said_is_reported (Err (At line TooLong)) is value one none short = absurd (omega (arith, is.long, short))

  -- a bad line of bytes that are not too long is reported, where it alone is bad and they say nothing
  pub bad_is_reported : (r : Result Value (LineFault Of)) → IsReport Says IsBad NeedsMemory bytes r → (line : ℕ)
      → ((other : ℕ) → IsBad other → other ≡ line) → ((value : Value) → ¬ Says value) → length bytes ≤ most_bytes
      → GivesIfRoom r (Err (At line BadLine))
  bad_is_reported (Ok said) is line one none short = absurd (none said is)
  bad_is_reported (Err Memory) is line one none short = inr refl
  bad_is_reported (Err (At at BadLine)) is line one none short = inl (ap (λ (n : ℕ). Err (At n BadLine)) (one at is))
  bad_is_reported (Err (At at TooLong)) is line one none short = absurd (omega (arith, is.long, short))

-- where a fault is passed on, that bytes are too long is reported of the same bytes
pub too_long_passed : {A B Of : Type 0} (bytes : List ℕ) (r : Result A (LineFault Of)) (s : Result B (LineFault Of))
    (fault : LineFault Of) → r ≡ Err fault → s ≡ Err fault
    → ((line : ℕ) → (r ≡ Err (At line TooLong)) ↔ IsTooLong bytes line) → (line : ℕ)
    → (s ≡ Err (At line TooLong)) ↔ IsTooLong bytes line
too_long_passed bytes r s fault of_r of_s reported line = (
  λ e. let same : r ≡ Err (At line TooLong) = cc in (reported line).0 same,
  λ long. let same : r ≡ Err (At line TooLong) = (reported line).1 long in cc,
)
