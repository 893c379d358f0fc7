use Rattle.std.proofs.Common.{◌≡◌, ◌<◌, ◌↔◌, ◌^◌, length, drop}
use Rattle.std.specs.Str.Parse.{AllDigits, digits_value, digits_value_after}
use Rattle.wordlines.proofs.numerals.value_of.Given as goal

-- the digits that are left go on from the number so far
abbrev pub invariant-loop-digit : goal.invariant-loop-digit
invariant-loop-digit l =
    record {
      fits : l.number < 2 ^ 64;
      some : 0 < length l.digits;
      digits : AllDigits l.radix (drop l.digit-index l.digits) ↔ AllDigits l.radix l.digits;
      value : digits_value_after l.radix l.number (drop l.digit-index l.digits) ≡ digits_value l.radix l.digits;
    }
