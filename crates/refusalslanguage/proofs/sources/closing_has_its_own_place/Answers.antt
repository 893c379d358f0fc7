use Rattle.std.proofs.Common.{◌≡◌, ◌∙◌, ◌++◌, ℕ, List, [], ◌∷◌, false, Some, refl}
use Rattle.iltypes.specs.declared.operator.Operator.TheVariants.{Add}
use Rattle.ilsource.specs.declared.instruction.Instruction.TheVariants as instructions
use Rattle.ilsource.specs.declared.instruction.Line.{Line}
use Rattle.ilsource.specs.declared.operand.Operand.TheVariants.{Name}
use Rattle.ilsource.specs.Trees.{Load}
use Rattle.ilsource.specs.Words.{places_in}
use Rattle.refusalslanguage.proofs.Results.{if_ok}
use Rattle.refusalslanguage.proofs.sources.closing_has_its_own_place.Goals as goal

placed : (before : List ℕ) (line : Line ℕ ℕ) → before ≡ [] → line.at ≡ 3
    → line.instruction ≡ Some (instructions.Deferred Add (Load 5 false (Name 7)) 9)
    → before ++ places_in line ≡ 3 ∷ 5 ∷ 9 ∷ []
placed before line none at is = rw (none, is, at) refl

pub returns : goal.returns
returns c =
    let line = c.args.line.now in
    let before = c.args.places.now.items in
    let after = c.push_places.new.places.items in
    if_ok (λ _. after ≡ before ++ places_in line) (λ _. after ≡ 3 ∷ 5 ∷ 9 ∷ []) c.push_places.result
    c.push_places.ensures.ok (λ _ are.
    are ∙ placed before line c.requires.none c.requires.at c.requires.nested)
