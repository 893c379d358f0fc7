-- Pieces that spell a tree.
use Rattle.std.proofs.Common.{◌≡◌, List, [], ◌∷◌, ◌++◌, sym, ap, ◌∙◌}
use Rattle.ilsource.specs.declared.nested.Piece.{Piece}
use Rattle.ilsource.specs.Trees.{Tree, pieces_of}
use Rattle.ilsource.specs.TreeSteps.{tree_of, tree_again}

-- these pieces are those of the tree
pub record Spells {N : Type 0} (ps : List (Piece N)) (t : Tree N) : Type 0 where
  pub is : ps ≡ pieces_of t

pub spelled_tree : {N : Type 0} (ps : List (Piece N)) (t : Tree N) → Spells ps t → tree_of ps ≡ t
spelled_tree ps t h = ap (λ (x : List _). tree_of x) h.is ∙ tree_again t

pub spelled_back : {N : Type 0} (ps : List (Piece N)) (t : Tree N) → Spells ps t → pieces_of (tree_of ps) ≡ ps
spelled_back ps t h = ap (λ (x : Tree _). pieces_of x) (spelled_tree ps t h) ∙ sym h.is

-- some pieces more
pub some_more : {N : Type 0} (ps qs more : List (Piece N)) (t u : Tree N)
    → qs ≡ ps ++ more → pieces_of (tree_of ps) ≡ ps → tree_of ps ≡ t
    → pieces_of u ≡ pieces_of t ++ more → Spells qs u
some_more ps qs more t u e inv v f =
    record { is = e ∙ (ap (λ (x : List _). x ++ more) (sym inv ∙ ap (λ (x : Tree _). pieces_of x) v) ∙ sym f) }

-- one piece more
pub one_more : {N : Type 0} (ps qs : List (Piece N)) (p : Piece N) (t u : Tree N)
    → qs ≡ ps ++ p ∷ [] → pieces_of (tree_of ps) ≡ ps → tree_of ps ≡ t
    → pieces_of u ≡ pieces_of t ++ p ∷ [] → Spells qs u
one_more ps qs p t u e inv v f = some_more ps qs (p ∷ []) t u e inv v f
