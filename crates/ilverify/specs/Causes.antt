-- Why a word is refused (profile), and which cause is reported where several arise.
use Rattle.std.specs.Prelude.{ℕ, ◌≤◌}
use Rattle.ilverify.specs.declared.cause.Cause.{Cause}
use Rattle.ilverify.specs.declared.cause.Cause.TheVariants as causes

-- the numbers that are printed (profile)
abbrev pub refusal_number : Cause → ℕ
refusal_number causes.WrongType = 2
refusal_number causes.NoResult = 3
refusal_number causes.EmptyNesting = 4
refusal_number causes.OpenNesting = 5
refusal_number causes.MayBeZero = 6
refusal_number (causes.OutOfRange found allowed) = 7
refusal_number causes.TooBig = 8
refusal_number causes.BadJump = 9
refusal_number causes.TooManyRequests = 10
refusal_number causes.BadSlot = 11
refusal_number causes.TooLong = 12
refusal_number causes.BadCall = 13

-- of the causes that arise, this one has the least number
pub record IsLeastCause (Arises : Cause → Type 0) (cause : Cause) : Type 0 where
  pub arises : Arises cause
  pub least : (other : Cause) → Arises other → refusal_number cause ≤ refusal_number other
