use Rattle.std.proofs.Common.{◌≡◌, ◌≢◌, ◌∙◌, ◌<◌, ◌≤◌, List, [], ◌++◌, length, map, get_or, ap, refl, sym, subst}
use Rattle.ilblocks.specs.declared.kind.BlockKind.{BlockKind}
use Rattle.ilsource.specs.Programs.{DeclaredNames}
use Rattle.ilsource.specs.declared.declaration.Declared.{Declared}
use Rattle.ilsource.specs.declared.declaration.Declared.TheVariants as declared_as
use Rattle.ilsource.specs.declared.name.Name.{Name}
use Rattle.ildeclared.specs.Declarations.{block, blocks_among, blocks_in}
use Rattle.ildeclared.proofs.Collected.{none_added, those_more, those_of_all}
use Rattle.ildeclared.proofs.blocks.blocks_of.Goals as goal
use Rattle.ildeclared.proofs.blocks.blocks_of.Goals.{in-Blocks+in_ok-add_blocks, in_default}

-- no other declaration has an instance
no_blocks : (names : List Name) (d e : Declared) → e ≡ d → ((kind : BlockKind) → e ≢ declared_as.Blocks kind)
    → blocks_among names d ≡ []
no_blocks names (declared_as.Blocks kind) e is other = absurd (other kind is)
no_blocks names (declared_as.Variables specification initial) e is other = refl
no_blocks names (declared_as.External specification) e is other = refl

pub loop-declaration-preserved : goal.loop-declaration-preserved
loop-declaration-preserved c =
    let before = c.loop-declaration.blocks.items in
    let i = c.loop-declaration.declaration-index in
    let item = c.declaration-item.result in
    let its = c.declarations-declaration-items.ensures in
    those_more blocks_in c.args.program.now.declarations i item before c.match-declared_kind.blocks.items
    (subst (λ (ds : List DeclaredNames). i < length ds) its c.loop-declaration-test.true)
    (subst (λ (ds : List DeclaredNames). item ≡ get_or ds i item) its c.declaration-item.is)
    c.loop-declaration.invariant
    (elim c.match-declared_kind.branch [
      | in-Blocks+in_ok-add_blocks w ↦
          (λ k. (w.blocks-is k).items)
          ∙ w.in_ok-add_blocks.ensures
          ∙ (λ k. before ++ map (block w.in-Blocks.kind) (w.names.ensures k))
          ∙ ap (λ (d : Declared). before ++ blocks_among item.names d) (sym w.in-Blocks.is ∙ c.declared_kind.ensures)
      | in_default w ↦
          none_added before c.match-declared_kind.blocks.items (blocks_among item.names item.declared)
          (λ k. (w.blocks-is k).items)
          (no_blocks item.names item.declared c.declared_kind.result c.declared_kind.ensures w.in_default.not-Blocks)
    ])

pub returns : goal.returns
returns c =
    let i = c.loop-declaration.declaration-index in
    those_of_all blocks_in c.args.program.now.declarations i
    c.loop-declaration.blocks.items
    (subst (λ (ds : List DeclaredNames). length ds ≤ i) c.declarations-declaration-items.ensures
    c.loop-declaration-test.false)
    c.loop-declaration.invariant
