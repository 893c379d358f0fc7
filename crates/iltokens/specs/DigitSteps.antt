-- Reading digits, as the private functions do. A value past 64 bits is kept at the greatest of them.
use Rattle.std.specs.Prelude.{ℕ, zero, suc, length, ◌+◌, ◌-◌, ◌*◌, ◌^◌, min, List, [], ◌∷◌, Option, Some, None}
use Rattle.std.specs.Prelude.{◌&&◌, ◌==◌, if◌then◌else◌}
use Rattle.iltokens.specs.Digits.{digit_of, is_digit}

unfoldable pub add_digit : ℕ → ℕ → ℕ → ℕ
add_digit base value b = min (value * base + digit_of b) (2 ^ 64 - 1)

-- an underscore (95) and a digit
abbrev pub marked : ℕ → ℕ → List ℕ → Option (ℕ × List ℕ)
marked base d [] = None
marked base d (e ∷ bs) = if (d == 95) && is_digit base e then Some (e, bs) else None

-- the next digit, which may have one underscore before it, and what stands after it
unfoldable pub next_digit : ℕ → List ℕ → Option (ℕ × List ℕ)
next_digit base [] = None
next_digit base (d ∷ bs) = if is_digit base d then Some (d, bs) else marked base d bs

abbrev pub digit_then : Option (ℕ × List ℕ) → ℕ × List ℕ → (ℕ → List ℕ → ℕ × List ℕ) → ℕ × List ℕ
digit_then None here f = here
digit_then (Some read) here f = f read.0 read.1

-- at most n digits: their value after `value`, and what stands after them
unfoldable pub digits_read : ℕ → ℕ → ℕ → List ℕ → ℕ × List ℕ
digits_read zero base value bs = (value, bs)
digits_read (suc n) base value bs =
    digit_then (next_digit base bs) (value, bs) (λ d rest. digits_read n base (add_digit base value d) rest)

abbrev pub digits_from : ℕ → ℕ → List ℕ → ℕ × List ℕ
digits_from base value bs = digits_read (length bs) base value bs

-- a digit and the digits after it
abbrev pub digits : ℕ → List ℕ → Option (ℕ × List ℕ)
digits base [] = None
digits base (d ∷ bs) = if is_digit base d then Some (digits_from base (digit_of d) bs) else None

-- the same for decimal digits without underscores
unfoldable pub plain_from : ℕ → List ℕ → ℕ × List ℕ
plain_from value [] = (value, [])
plain_from value (d ∷ bs) = if is_digit 10 d then plain_from (add_digit 10 value d) bs else (value, d ∷ bs)

abbrev pub plain : List ℕ → Option (ℕ × List ℕ)
plain [] = None
plain (d ∷ bs) = if is_digit 10 d then Some (plain_from (digit_of d) bs) else None
