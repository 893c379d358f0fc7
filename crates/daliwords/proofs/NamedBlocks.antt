-- A text is the name of one block at most, and that one is found.
use mathlib.Core.Path.{subst}
use Rattle.std.proofs.Common.{◌≡◌, ◌∙◌, ℕ, Bool, true, false, cond, IsTrue, List, [], ◌∷◌, refl, sym}
use Rattle.std.proofs.Common.{MatchOption, IfSome, Option, Some, None}
use Rattle.std.specs.List.{find}
use Rattle.std.specs.Str.{bytes_eq, str_to_ascii_lowercase}
use Rattle.std.proofs.lemmas.Slice.Eq.{bytes_eq-Decides}
use Rattle.daliwords.specs.declared.blocks.Block.{Block}
use Rattle.daliwords.specs.declared.blocks.Block.TheVariants as block
use Rattle.daliwords.specs.declared.blocks.TheConstants.{ALL}
use Rattle.daliwords.specs.Written.{block_name, is_named, IsNamed}

-- the first block whose name is this in small letters
abbrev by_small : List ℕ → Option Block
by_small small = find (λ b. bytes_eq (str_to_ascii_lowercase (block_name b)) small) ALL.now

own : (b : Block) → by_small (str_to_ascii_lowercase (block_name b)) ≡ Some b
own block.GearLevel = refl
own block.GearDo = refl
own block.GearSet = refl
own block.GearPair = refl
own block.GearAsk = refl
own block.GearRead = refl
own block.DevDo = refl
own block.DevScheme = refl
own block.DevAsk = refl

is_found : (b : Block) (text : List ℕ) → IsNamed b text → find (is_named text) ALL.now ≡ Some b
is_found b text named =
    let alike : str_to_ascii_lowercase (block_name b) ≡ str_to_ascii_lowercase text =
    (bytes_eq-Decides (str_to_ascii_lowercase (block_name b)) (str_to_ascii_lowercase text)).0 named in
    subst (λ small. by_small small ≡ Some b) alike (own b)

-- blocks of one name are one
pub one_block : (a b : Block) (text : List ℕ) → IsNamed a text → IsNamed b text → a ≡ b
one_block a b text first second =
    let same : Some a ≡ Some b = sym (is_found a text first) ∙ is_found b text second in cc

passes : (p : Block → Bool) (xs : List Block) → IfSome (find p xs) (λ b. IsTrue (p b))
passes p [] = tt
passes p (x ∷ xs) = go (p x) refl (passes p xs)
  where
    go : (t : Bool) → p x ≡ t → IfSome (find p xs) (λ b. IsTrue (p b))
        → IfSome (cond t (Some x) (find p xs)) (λ b. IsTrue (p b))
    go true e rest = e
    go false e rest = rest

-- what is found has the name, and where nothing is found no block has it
pub found_block : (text : List ℕ)
    → MatchOption (find (is_named text) ALL.now) ((b : Block) → ¬ IsNamed b text) (λ b. IsNamed b text)
found_block text = go (find (is_named text) ALL.now) refl (passes (is_named text) ALL.now)
  where
    go : (r : Option Block) → find (is_named text) ALL.now ≡ r → IfSome r (λ b. IsNamed b text)
        → MatchOption r ((b : Block) → ¬ IsNamed b text) (λ b. IsNamed b text)
    go None e h = λ b named. let bad : None ≡ Some b = sym e ∙ is_found b text named in absurd cc
    go (Some b) e h = h
