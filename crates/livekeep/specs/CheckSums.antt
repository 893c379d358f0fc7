-- The check sum of a file: Adler-32 (RFC 1950, 8.2), the sum of the bytes and the sum of the sums so far, both modulo
-- 65521, as one number. One changed byte always changes it.
use Rattle.std.specs.Prelude.{ℕ, ◌+◌, ◌*◌, ◌%◌, List, [], ◌∷◌}

-- where the bytes so far have these two sums
abbrev pub sum_from : ℕ → ℕ → List ℕ → ℕ
sum_from first second [] = second * 65536 + first
sum_from first second (byte ∷ bytes) =
    sum_from ((first + byte) % 65521) ((second + (first + byte) % 65521) % 65521) bytes

unfoldable pub sum_of : List ℕ → ℕ
sum_of bytes = sum_from 1 0 bytes
