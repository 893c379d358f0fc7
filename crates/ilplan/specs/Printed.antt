-- How names are printed (profile).
use Rattle.std.specs.Prelude.{ℕ, List, ◌++◌, flat_map, codes, encode_utf8, Option, None, Some}

-- the bytes of a name, each as the character of its code
abbrev pub printed_name : List ℕ → List ℕ
printed_name bytes = flat_map encode_utf8 bytes

-- the instance's name, a dot and the variable's; of a global variable its name alone
abbrev pub printed_slot : Option (List ℕ) → List ℕ → List ℕ
printed_slot None variable = printed_name variable
printed_slot (Some instance) variable = printed_name instance ++ codes "." ++ printed_name variable
