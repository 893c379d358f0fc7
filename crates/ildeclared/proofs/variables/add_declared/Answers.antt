use Rattle.std.proofs.Common.{◌≡◌, ◌≢◌, ◌∙◌, List, [], ◌++◌, map, ap, refl, sym}
use Rattle.std.specs.Prelude.{Option}
use Rattle.ilsource.specs.declared.declaration.Constant.{Constant}
use Rattle.ilsource.specs.declared.declaration.Specification.{Specification}
use Rattle.ilsource.specs.declared.declaration.Declared.{Declared}
use Rattle.ilsource.specs.declared.declaration.Declared.TheVariants as declared_as
use Rattle.ilsource.specs.declared.name.Name.{Name}
use Rattle.ildeclared.specs.DataTypes.{TypeNames}
use Rattle.ildeclared.specs.Declarations.{variable, variables_among, variables_in}
use Rattle.ildeclared.specs.Kept.{types_in}
use Rattle.ildeclared.proofs.Collected.{none_added, those_added, those_of_all_added}
use Rattle.ildeclared.proofs.variables.add_declared.Goals as goal
use Rattle.ildeclared.proofs.variables.add_declared.Goals.{in-Variables+in_ok-add_variables, in_default}

-- no other declaration has a variable
no_variables : (types : TypeNames) (names : List Name) (d e : Declared) → e ≡ d
    → ((specification : Specification) (initial : Option Constant) → e ≢ declared_as.Variables specification initial)
    → variables_among types names d ≡ []
no_variables types names (declared_as.Variables specification initial) e is other =
    absurd (other specification initial is)
no_variables types names (declared_as.External specification) e is other = refl
no_variables types names (declared_as.Blocks kind) e is other = refl

pub loop-declaration-preserved : goal.loop-declaration-preserved
loop-declaration-preserved c =
    let types = types_in c.args.lower.now c.args.types.now in
    let before = c.loop-declaration.variables.items in
    let item = c.declaration-item.result in
    those_added (variables_in types) c.args.declarations.now c.loop-declaration.declaration-index item
    c.args.variables.now.items before c.match-declared_kind.variables.items c.loop-declaration-test.true
    c.declaration-item.is c.loop-declaration.invariant
    (elim c.match-declared_kind.branch [
      | in-Variables+in_ok-add_variables w ↦
          (λ k. (w.variables-is k).items)
          ∙ w.in_ok-add_variables.ensures
          ∙ (λ k. before ++ map (variable (w.meant_type-declared.ensures k)) (w.names.ensures k))
          ∙ ap (λ (d : Declared). before ++ variables_among types item.names d)
          (sym w.in-Variables.is ∙ c.declared_kind.ensures)
      | in_default w ↦
          none_added before c.match-declared_kind.variables.items (variables_among types item.names item.declared)
          (λ k. (w.variables-is k).items)
          (no_variables types item.names item.declared c.declared_kind.result c.declared_kind.ensures
          w.in_default.not-Variables)
    ])

pub returns : goal.returns
returns c =
    those_of_all_added (variables_in (types_in c.args.lower.now c.args.types.now)) c.args.declarations.now
    c.loop-declaration.declaration-index c.args.variables.now.items c.loop-declaration.variables.items
    c.loop-declaration-test.false c.loop-declaration.invariant
