-- What is looked up in tables, and the least fault of lists that are equal to others.
use Rattle.std.proofs.Common.{◌≡◌, ℕ, List, map, subst}
use Rattle.std.specs.Prelude.{bytes_eq}
use Rattle.ilsource.specs.Names.{folded}
use Rattle.ilsource.specs.declared.name.Name.{Name}
use Rattle.ildeclared.specs.Kept.{Kept, kept_under}
use Rattle.ilscope.specs.ScopeSteps.{AreNumbersOf}
use Rattle.ilscope.specs.Tables.{first_at, lowered}
use Rattle.ilscope.proofs.Declared.{number_is}

-- what is kept under names are the numbers of the first elements with these names
pub names_are : {X : Type 0} (name_of : X → Name) (xs : List X) (text lower : List ℕ) (numbers : Kept ℕ)
    → lower ≡ lowered text → AreNumbersOf (folded text) (map name_of xs) numbers →
    kept_under lower numbers ≡ (λ name. first_at (λ x. bytes_eq (folded text name) (folded text (name_of x))) xs)
names_are name_of xs text lower numbers e h = λ i name. number_is name_of xs text lower numbers name e h i

-- what holds of two things holds of what they are equal to
pub moved : {X Y : Type 0} (P : X → Y → Type 0) (x other : X) (y another : Y) → x ≡ other → y ≡ another → P x y
    → P other another
moved P x other y another e f p = subst (λ z. P z another) e (subst (λ z. P x z) f p)
