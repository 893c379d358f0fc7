use Rattle.std.proofs.Common.{◌≡◌, Option, Some, None, IsSomeAnd, refl, sym, subst}
use Rattle.ilplan.specs.declared.global.Global.{Global as GlobalVariable}
use Rattle.ilplan.specs.declared.global.Location.{Location}
use Rattle.ilplan.specs.declared.global.Location.TheVariants.{Count}
use Rattle.ilnotes.specs.Planned.{IsOfSource}
use Rattle.refusalsexplain.proofs.notes.count_uses_its_source.Goals as goal

-- a variable that is located at the count is one of the source
of_count : (found : Option GlobalVariable) → IsSomeAnd found (λ g. g.location ≡ Some (Count 1 2))
    → IsSomeAnd found (λ g. IsSomeAnd g.location (IsOfSource 1 2))
of_count None is = is
of_count (Some g) is = subst (λ (l : Option Location). IsSomeAnd l (IsOfSource 1 2)) (sym is) (refl, refl)

pub returns : goal.returns
returns c = c.uses_source.ensures.1 (3, of_count _ c.requires)
