-- The list of all reserved words lacks none.
use Rattle.std.proofs.Common.{◌≡◌, ℕ, suc, ◌<◌, Bool, true, false, cond, List, [], ◌∷◌, length, map, Option, Some, None, refl, arith}
use Rattle.std.specs.List.{Contains}
use Rattle.std.specs.Str.{str_eq_ignore_ascii_case}
use Rattle.iltokens.specs.declared.keyword.Keyword.{Keyword}
use Rattle.iltokens.specs.declared.keyword.Keyword.TheVariants as words
use Rattle.iltokens.specs.Keywords.{spelling_of, keywords}
use Rattle.iltokens.specs.KeywordSteps.{lookup, row_of}

found_there : (ks : List Keyword) (text : List ℕ) (w : Keyword) → lookup (map row_of ks) text ≡ Some w → Contains ks w
found_there [] text w e = absurd cc
found_there (k ∷ ks) text w e =
    go (str_eq_ignore_ascii_case (spelling_of k) text) e (found_there ks text w)
  where
    go : (b : Bool) → cond b (Some k) (lookup (map row_of ks) text) ≡ Some w
        → (lookup (map row_of ks) text ≡ Some w → Contains ks w) → Contains (k ∷ ks) w
    go true e ih = (0, omega arith, cc)
    go false e ih = let at = ih e in (suc at.0, omega arith, at.2)

each_found : (w : Keyword) → lookup (map row_of keywords) (spelling_of w) ≡ Some w
unfolding keywords
each_found words.Ld = refl
each_found _ = refl

pub all_words : (w : Keyword) → Contains keywords w
all_words w = found_there keywords (spelling_of w) w (each_found w)
