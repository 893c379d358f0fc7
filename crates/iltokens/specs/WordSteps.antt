-- Going over words, as the private functions do.
use Rattle.std.specs.Prelude.{ℕ, List, [], ◌∷◌, Option, Some, None, ◌==◌, if◌then◌else◌}
use Rattle.std.specs.Char.{to_ascii_lowercase}
use Rattle.iltokens.specs.Letters.{is_name_byte}

-- what stands after the name bytes at the front
abbrev pub after_name : List ℕ → List ℕ
after_name [] = []
after_name (b ∷ bs) = if is_name_byte b then after_name bs else b ∷ bs

-- what stands after a word in lower case, in any letter case
abbrev pub after_word : List ℕ → List ℕ → Option (List ℕ)
after_word [] bs = Some bs
after_word (w ∷ ws) [] = None
after_word (w ∷ ws) (b ∷ bs) = if to_ascii_lowercase b == w then after_word ws bs else None
