use Rattle.std.proofs.Common.{◌≡◌, ◌∙◌, ◌++◌, ℕ, List, [], ◌∷◌, Some, refl}
use Rattle.iltypes.specs.declared.condition.Condition.TheVariants.{Always}
use Rattle.ilsource.specs.declared.instruction.Instruction.TheVariants as instructions
use Rattle.ilsource.specs.declared.instruction.Line.{Line}
use Rattle.ilsource.specs.declared.operand.Operand.TheVariants.{Name}
use Rattle.ilsource.specs.declared.uses.Purpose.TheVariants as purposes
use Rattle.ilsource.specs.declared.uses.Use.{Use}
use Rattle.ilsource.specs.Uses.{use_at, uses_in}
use Rattle.refusalslanguage.proofs.Results.{if_ok}
use Rattle.refusalslanguage.proofs.sources.instance_is_called.Goals as goal

used : (before : List (Use ℕ)) (line : Line ℕ ℕ) → before ≡ []
    → line.instruction ≡ Some (instructions.Call Always 7 [])
    → before ++ uses_in line ≡ use_at line.at purposes.Call (Name 7) ∷ []
used before line none is = rw (none, is) refl

pub returns : goal.returns
returns c =
    let line = c.args.line.now in
    let before = c.args.uses.now.items in
    let after = c.push_uses.new.uses.items in
    if_ok (λ _. after ≡ before ++ uses_in line) (λ _. after ≡ use_at line.at purposes.Call (Name 7) ∷ [])
    c.push_uses.result c.push_uses.ensures.ok (λ _ are. are ∙ used before line c.requires.none c.requires.call)
