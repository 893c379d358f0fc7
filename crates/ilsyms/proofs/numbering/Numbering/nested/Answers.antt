use Rattle.std.proofs.Common.{◌≡◌, ◌∙◌, sym, ap, map}
use Rattle.std.proofs.lemmas.List.{take_all}
use Rattle.ilsource.specs.Renaming.{rename_piece, rename_tree}
use Rattle.ilsource.specs.Trees.{pieces_of}
use Rattle.ilsource.specs.TreeSteps.{tree_of, tree_again}
use Rattle.ilsource.proofs.KeptSizes.{pieces_same}
use Rattle.ilsyms.specs.NumberingSteps.{numbers}
use Rattle.ilsyms.proofs.numbering.Numbering.nested.Goals as goal

pub new-requires : goal.new-requires
new-requires c = (
  rename_tree (numbers c.args.self.now) c.args.nested.now,
  c.loop-piece.invariant
      ∙ ap (map (rename_piece (numbers c.args.self.now)))
      (take_all c.loop-piece.piece-index c.pieces-piece-items.result.now c.loop-piece-test.false
      ∙ c.pieces-piece-items.ensures)
      ∙ sym (pieces_same (numbers c.args.self.now) c.args.nested.now),
)

pub returns : goal.returns
returns c =
    let tree = rename_tree (numbers c.args.self.now) c.args.nested.now in
    let pieces : pieces_of c.new.result ≡ pieces_of tree =
    sym c.new.ensures
    ∙ c.loop-piece.invariant
    ∙ ap (map (rename_piece (numbers c.args.self.now)))
    (take_all c.loop-piece.piece-index c.pieces-piece-items.result.now c.loop-piece-test.false
    ∙ c.pieces-piece-items.ensures)
    ∙ sym (pieces_same (numbers c.args.self.now) c.args.nested.now)
    in
    sym (tree_again c.new.result) ∙ ap (λ ps. tree_of ps) pieces ∙ tree_again tree
