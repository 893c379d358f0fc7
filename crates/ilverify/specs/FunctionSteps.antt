-- What the steps of Known::after_function give.
use Rattle.std.specs.Prelude.{Result, Ok, Err}
use Rattle.iltypes.specs.declared.function.Function.{Function}
use Rattle.ilverify.specs.declared.cause.Cause.{Cause}
use Rattle.ilverify.specs.declared.known.Known.{Known}
use Rattle.ilverify.specs.Causes.{IsLeastCause}
use Rattle.ilverify.specs.Functions.{IsAfterFunction, ArisesAtFunction}

-- what is known after the function, or the least cause
abbrev pub IsFunctionVerdict : Function → Known → Result Known Cause → Type 0
IsFunctionVerdict function operand (Ok known) = IsAfterFunction function operand known
IsFunctionVerdict function operand (Err cause) = IsLeastCause (ArisesAtFunction function operand) cause
