use Rattle.std.proofs.Common.{◌≡◌, ◌≢◌, ◌∙◌, ◌<◌, ◌≤◌, List, [], ◌++◌, length, map, get_or, ap, refl, sym, subst}
use Rattle.ilsource.specs.Programs.{DeclaredNames}
use Rattle.ilsource.specs.declared.declaration.Specification.{Specification}
use Rattle.ilsource.specs.declared.declaration.Declared.{Declared}
use Rattle.ilsource.specs.declared.declaration.Declared.TheVariants as declared_as
use Rattle.ilsource.specs.declared.name.Name.{Name}
use Rattle.ildeclared.specs.DataTypes.{TypeNames}
use Rattle.ildeclared.specs.Declarations.{external, externals_among, externals_in}
use Rattle.ildeclared.specs.Kept.{types_in}
use Rattle.ildeclared.proofs.Collected.{none_added, those_more, those_of_all}
use Rattle.ildeclared.proofs.externals.externals_of.Goals as goal
use Rattle.ildeclared.proofs.externals.externals_of.Goals.{in-External+in_ok-add_externals, in_default}

-- no other declaration has an external
no_externals : (types : TypeNames) (names : List Name) (d e : Declared) → e ≡ d
    → ((specification : Specification) → e ≢ declared_as.External specification)
    → externals_among types names d ≡ []
no_externals types names (declared_as.External specification) e is other = absurd (other specification is)
no_externals types names (declared_as.Variables specification initial) e is other = refl
no_externals types names (declared_as.Blocks kind) e is other = refl

pub loop-declaration-preserved : goal.loop-declaration-preserved
loop-declaration-preserved c =
    let types = types_in c.args.lower.now c.args.types.now in
    let before = c.loop-declaration.externals.items in
    let i = c.loop-declaration.declaration-index in
    let item = c.declaration-item.result in
    let its = c.declarations-declaration-items.ensures in
    those_more (externals_in types) c.args.program.now.declarations i item before c.match-declared_kind.externals.items
    (subst (λ (ds : List DeclaredNames). i < length ds) its c.loop-declaration-test.true)
    (subst (λ (ds : List DeclaredNames). item ≡ get_or ds i item) its c.declaration-item.is)
    c.loop-declaration.invariant
    (elim c.match-declared_kind.branch [
      | in-External+in_ok-add_externals w ↦
          (λ k. (w.externals-is k).items)
          ∙ w.in_ok-add_externals.ensures
          ∙ (λ k. before ++ map (external (w.values_of-value_type.ensures k)) (w.names.ensures k))
          ∙ ap (λ (d : Declared). before ++ externals_among types item.names d)
          (sym w.in-External.is ∙ c.declared_kind.ensures)
      | in_default w ↦
          none_added before c.match-declared_kind.externals.items (externals_among types item.names item.declared)
          (λ k. (w.externals-is k).items)
          (no_externals types item.names item.declared c.declared_kind.result c.declared_kind.ensures
          w.in_default.not-External)
    ])

pub returns : goal.returns
returns c =
    let i = c.loop-declaration.declaration-index in
    those_of_all (externals_in (types_in c.args.lower.now c.args.types.now)) c.args.program.now.declarations i
    c.loop-declaration.externals.items
    (subst (λ (ds : List DeclaredNames). length ds ≤ i) c.declarations-declaration-items.ensures
    c.loop-declaration-test.false)
    c.loop-declaration.invariant
