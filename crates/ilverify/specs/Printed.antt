-- What a refusal is printed as.
use Rattle.std.specs.Prelude.{ℕ, List, [], ◌++◌, codes}
use Rattle.std.specs.Fmt.{decimal, signed_decimal}
use Rattle.iltypes.specs.declared.range.Range.{Range}
use Rattle.ilverify.specs.declared.cause.Cause.{Cause}
use Rattle.ilverify.specs.declared.cause.Cause.TheVariants.{OutOfRange}
use Rattle.ilverify.specs.Causes.{refusal_number}
use Rattle.ilverify.specs.declared.refusal.Refusal.{Refusal}

-- both limits, with two dots between them
abbrev pub printed_range : Range → List ℕ
printed_range range = signed_decimal range.lo ++ codes ".." ++ signed_decimal range.hi

-- a number outside its range has both ranges printed: the one that is found and the one that is allowed
abbrev pub printed_ranges : Cause → List ℕ
printed_ranges (OutOfRange found allowed) =
    codes " found " ++ printed_range found ++ codes " allowed " ++ printed_range allowed
printed_ranges _ = []

-- the cause's number, the word counted from 0, its line, and the ranges of a number outside its range
abbrev pub printed : Refusal → List ℕ
printed refusal =
    codes "refused " ++ decimal (refusal_number refusal.cause) ++ codes " at word " ++ decimal refusal.word
    ++ codes " line " ++ decimal refusal.line ++ printed_ranges refusal.cause
