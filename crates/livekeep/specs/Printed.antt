-- How kept values are printed, alone and as a file of them (profile).
use Rattle.std.specs.Prelude.{◌≤◌, ◌<◌, ℕ, pos, negsuc, List, [], ◌∷◌, ◌++◌, ◌+◌, codes, flat_map, length, ⊤}
use Rattle.std.specs.Prelude.{bytes_eq}
use Rattle.std.specs.List.{AllByRecursion, IsDistinct}
use Rattle.std.specs.Char.{encode_utf8}
use Rattle.std.specs.Fmt.{decimal}
use Rattle.limits.specs.Limits.{most_bytes}
use Rattle.iltypes.specs.declared.value.Value.{Value}
use Rattle.iltypes.specs.declared.value.Value.TheVariants as values_of
use Rattle.iltypes.specs.Printed as values
use Rattle.livekeep.specs.CheckSums.{sum_of}
use Rattle.livekeep.specs.KeptFiles.{KeptEntry, most_number, sum_line}
use Rattle.livekeep.specs.declared.kept_at.KeptAt.{KeptAt}

-- `lamp = 200`, each byte of the name as the character of its code
abbrev pub printed_entry : KeptEntry → List ℕ
printed_entry entry = flat_map encode_utf8 entry.name ++ codes " = " ++ values.printed entry.value

-- ---- a file

-- `kept by dalictl live at 1795889471 moment 3600000`
abbrev pub head_line : KeptAt → List ℕ
head_line at =
    codes "kept by dalictl live at " ++ (decimal at.date ++ (codes " moment " ++ (decimal at.moment ++ 10 ∷ [])))

-- `lamp = 200`
abbrev pub entry_line : KeptEntry → List ℕ
entry_line entry = entry.name ++ (codes " = " ++ (values.printed entry.value ++ 10 ∷ []))

-- `end 1`
abbrev pub end_line : ℕ → List ℕ
end_line count = codes "end " ++ (decimal count ++ 10 ∷ [])

-- all lines but that of the check sum
abbrev pub printed_lines : KeptAt → List KeptEntry → List ℕ
printed_lines at kept = head_line at ++ (flat_map entry_line kept ++ end_line (length kept))

-- the file of these values, which were kept then
abbrev pub printed_file : KeptAt → List KeptEntry → List ℕ
printed_file at kept = printed_lines at kept ++ sum_line (sum_of (printed_lines at kept))

-- ---- what may be printed so

-- no byte of the name is a control character, a blank or one of `!`, `"` and `#` (35): letters, digits, `_` and `.`
-- are not
abbrev pub IsPlain : List ℕ → Type 0
IsPlain name = AllByRecursion (λ byte. 35 < byte) name

-- its number is written with 19 digits at most, and is no less than -9223372036854775807
abbrev pub IsWritable : Value → Type 0
IsWritable (values_of.Bool truth) = ⊤
IsWritable (values_of.Int (pos number)) = number ≤ most_number
IsWritable (values_of.Int (negsuc number)) = number + 1 ≤ most_number

-- plain names, no two of them the same, values that can be written, and no more bytes than a file may have
pub record AreKeepable (at : KeptAt) (kept : List KeptEntry) : Type 0 where
  pub plain : AllByRecursion (λ entry. IsPlain entry.name) kept
  pub distinct : IsDistinct (λ one other. bytes_eq one.name other.name) kept
  pub writable : AllByRecursion (λ entry. IsWritable entry.value) kept
  pub date : at.date ≤ most_number
  pub moment : at.moment ≤ most_number
  pub short : length (printed_file at kept) ≤ most_bytes
