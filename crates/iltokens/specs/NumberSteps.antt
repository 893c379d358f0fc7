-- Numbers (IEC 61131-3, 2.2.1): decimal, or `2#`, `8#`, `16#` and digits of that base.
use Rattle.std.specs.Prelude.{ℕ, ℤ, pos, neg_ℤ, ◌^◌, List, [], ◌∷◌, Option, Some, None, Bool, true, false, ◌&&◌, ◌==◌}
use Rattle.std.specs.Prelude.{nat_lt, nat_le, if◌then◌else◌}
use Rattle.std.specs.Option.{option_or}
use Rattle.iltokens.specs.DigitSteps.{digits}

-- what stands after `16` is `#` (35) and hexadecimal digits
abbrev pub hexadecimal : List ℕ → Option (ℕ × List ℕ)
hexadecimal [] = None
hexadecimal (b ∷ bs) = if b == 35 then digits 16 bs else None

unfoldable pub based : List ℕ → Option (ℕ × List ℕ)
based [] = None
based (b ∷ []) = None
based (b ∷ c ∷ bs) =
    if (b == 50) && (c == 35) then digits 2 bs
    else (if (b == 56) && (c == 35) then digits 8 bs
    else (if (b == 49) && (c == 54) then hexadecimal bs
    else None))

unfoldable pub unsigned : List ℕ → Option (ℕ × List ℕ)
unsigned bs = option_or (based bs) (digits 10 bs)

-- the number with this sign, where it fits 64 signed bits
unfoldable pub signed : Bool → ℕ → Option ℤ
signed false n = if nat_lt n (2 ^ 63) then Some (pos n) else None
signed true n = if nat_le n (2 ^ 63) then Some (neg_ℤ (pos n)) else None
