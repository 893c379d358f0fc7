-- Digits and what they are worth.
use Rattle.std.specs.Prelude.{ℕ, ◌+◌, ◌-◌, Bool, ◌&&◌, nat_le, nat_lt, if◌then◌else◌}

-- the value of a digit of any base up to 16; 16 for another byte
abbrev pub digit_of : ℕ → ℕ
digit_of b =
    if nat_le 48 b && nat_le b 57 then b - 48
    else (if nat_le 65 b && nat_le b 70 then b - 65 + 10
    else (if nat_le 97 b && nat_le b 102 then b - 97 + 10
    else 16))

-- a digit of this base
unfoldable pub is_digit : ℕ → ℕ → Bool
is_digit base b = nat_lt (digit_of b) base
