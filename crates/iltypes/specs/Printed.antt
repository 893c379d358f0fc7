-- How values are printed (IEC 61131-3, 2.2).
use Rattle.std.specs.Prelude.{ℕ, List, true, false, codes}
use Rattle.std.specs.Fmt.{signed_decimal}
use Rattle.iltypes.specs.declared.value.Value.{Value}
use Rattle.iltypes.specs.declared.value.Value.TheVariants as values

-- a truth value as its word, a whole number in decimal digits, with `-` before them below 0
abbrev pub printed : Value → List ℕ
printed (values.Bool true) = codes "TRUE"
printed (values.Bool false) = codes "FALSE"
printed (values.Int number) = signed_decimal number
