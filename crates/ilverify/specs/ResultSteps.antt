-- What the steps of Known::after give.
use Rattle.std.specs.Prelude.{Option, Some, None, Result, Ok, Err}
use Rattle.iltypes.specs.declared.range.Range.{Range}
use Rattle.iltypes.specs.declared.operator.Operator.{Operator}
use Rattle.ilverify.specs.declared.cause.Cause.{Cause}
use Rattle.ilverify.specs.declared.cause.Cause.TheVariants as causes
use Rattle.ilverify.specs.declared.known.Known.{Known}
use Rattle.ilverify.specs.declared.known.Known.TheVariants as knowns
use Rattle.ilverify.specs.Causes.{IsLeastCause}
use Rattle.ilverify.specs.Results.{IsAfter, Arises}

-- what is known after the operator, or the least cause
abbrev pub IsVerdict : Operator → Known → Known → Result Known Cause → Type 0
IsVerdict operator left right (Ok known) = IsAfter operator left right known
IsVerdict operator left right (Err cause) = IsLeastCause (Arises operator left right) cause

-- the range, or too big where there is none
abbrev pub verdict : Option Range → Result Known Cause
verdict (Some range) = Ok (knowns.Int range)
verdict None = Err causes.TooBig
