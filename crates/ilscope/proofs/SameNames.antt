-- Two names are one, as a truth value, exactly where they are spelled alike.
use Rattle.std.proofs.Common.{◌≡◌, ℕ, List, true}
use Rattle.std.proofs.lemmas.Slice.Eq.{bytes_eq-Decides}
use Rattle.ilsource.specs.declared.name.Name.{Name}
use Rattle.ilsource.specs.Names.{folded}
use Rattle.ilscope.specs.SameNames.{same_name}

module _ (text : List ℕ) where
  pub alike : (l m : Name) → same_name text l m ≡ true → folded text l ≡ folded text m
  alike l m e = (bytes_eq-Decides (folded text l) (folded text m)).0 e

  pub same_as : (l m : Name) → folded text l ≡ folded text m → same_name text l m ≡ true
  same_as l m e = (bytes_eq-Decides (folded text l) (folded text m)).1 e
