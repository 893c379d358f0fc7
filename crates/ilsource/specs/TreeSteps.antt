-- The tree that pieces spell, read from the first piece on.
use Rattle.std.specs.Prelude.{◌≡◌, refl, ℕ, ◌+◌, Bool, false, List, [], ◌∷◌, ◌++◌, Option, Some, None}
use Rattle.std.proofs.Common.{append_assoc, ap, sym, ◌∙◌, append-nil}
use Rattle.iltypes.specs.declared.value.Value.TheVariants as values
use Rattle.iltypes.specs.declared.operator.Operator.{Operator}
use Rattle.ilsource.specs.declared.operand.Operand.{Operand}
use Rattle.ilsource.specs.declared.operand.Operand.TheVariants as operands
use Rattle.ilsource.specs.declared.nested.Action.{Action}
use Rattle.ilsource.specs.declared.nested.Action.TheVariants as actions
use Rattle.ilsource.specs.declared.nested.Piece.{Piece}
use Rattle.ilsource.specs.Trees.{Tree, Load, Reload, Apply, Transform, Deferred, Call}
use Rattle.ilsource.specs.Trees.{piece, give_pieces, call_pieces, pieces_of}

-- parentheses that are open: what stands before them, and their operator with its place
pub record Open (N : Type 0) : Type 0 where
  pub before : Tree N
  pub at : ℕ
  pub operator : Operator

-- what is open, the innermost first, and what was read since
pub record Reading (N : Type 0) : Type 0 where
  pub open_ones : List (Open N)
  pub read : Option (Tree N)

abbrev pub reading : {N : Type 0} → List (Open N) → Option (Tree N) → Reading N
reading open_ones read = record { open_ones = open_ones; read = read }

abbrev pub opened : {N : Type 0} → Tree N → ℕ → Operator → Open N
opened before at operator = record { before = before; at = at; operator = operator }

abbrev pub loaded : {N : Type 0} → Option (Tree N) → ℕ → Bool → Operand N → Tree N
loaded None at negated o = Load at negated o
loaded (Some t) at negated o = Reload t at negated o

-- one operand more in the call that was read last
abbrev pub given_to : {N : Type 0} → Tree N → Operand N → Tree N
given_to (Call t at f os) o = Call t at f (os ++ o ∷ [])
given_to t o = t

-- after one piece more, where it may stand there; the function is known from the first piece of its call, and the
-- input's number from how many operands stand before
abbrev pub read_piece : {N : Type 0} → List (Open N) → Option (Tree N) → ℕ → Action N → Option (Reading N)
read_piece open_ones read at (actions.Load negated o) = Some (reading open_ones (Some (loaded read at negated o)))
read_piece open_ones (Some t) at (actions.Apply operator o) = Some (reading open_ones (Some (Apply t at operator o)))
read_piece open_ones (Some t) at (actions.Transform function) =
    Some (reading open_ones (Some (Transform t at function)))
read_piece open_ones (Some t) at (actions.Open operator) = Some (reading (opened t at operator ∷ open_ones) None)
read_piece (x ∷ open_ones) (Some u) at actions.Close =
    Some (reading open_ones (Some (Deferred x.before x.at x.operator u at)))
read_piece open_ones (Some t) at (actions.Hand f) = Some (reading open_ones (Some (Call t at f [])))
read_piece open_ones (Some t) at (actions.Give f number o) = Some (reading open_ones (Some (given_to t o)))
read_piece open_ones (Some t) at (actions.Invoke f) = Some (reading open_ones (Some t))
read_piece _ _ at _ = None

-- at the end nothing is open
abbrev pub read_whole : {N : Type 0} → List (Open N) → Option (Tree N) → Option (Tree N)
read_whole [] read = read
read_whole (x ∷ open_ones) read = None

abbrev pub read_tree : {N : Type 0} → Option (Reading N) → List (Piece N) → Option (Tree N)
read_tree None ps = None
read_tree (Some r) [] = read_whole r.open_ones r.read
read_tree (Some r) (p ∷ ps) = read_tree (read_piece r.open_ones r.read p.at p.action) ps

abbrev pub or_false : {N : Type 0} → Option (Tree N) → Tree N
or_false None = Load 0 false (operands.Constant (values.Bool false))
or_false (Some t) = t

-- the tree that the pieces spell, and LD FALSE where they spell none
abbrev pub tree_of : {N : Type 0} → List (Piece N) → Tree N
tree_of ps = or_false (read_tree (Some (reading [] None)) ps)

-- a call reads its operands
gives_again : {N : Type 0} (t : Tree N) (at : ℕ) (f : N) (number : ℕ) (done os : List (Operand N))
    (open_ones : List (Open N)) (ps : List (Piece N))
    → read_tree (Some (reading open_ones (Some (Call t at f done)))) (give_pieces at f number os ++ ps)
    ≡ read_tree (Some (reading open_ones (Some (Call t at f (done ++ os))))) ps
gives_again t at f number done [] open_ones ps =
    ap (λ (x : List _). read_tree (Some (reading open_ones (Some (Call t at f x)))) ps) (sym (append-nil done))
gives_again t at f number done (o ∷ os) open_ones ps =
    gives_again t at f (number + 1) (done ++ o ∷ []) os open_ones ps
    ∙ ap (λ (x : List _). read_tree (Some (reading open_ones (Some (Call t at f x)))) ps)
    (append_assoc done (o ∷ []) os)

-- what a tree is written as is read as that tree
read_again : {N : Type 0} (t : Tree N) (open_ones : List (Open N)) (ps : List (Piece N))
    → read_tree (Some (reading open_ones None)) (pieces_of t ++ ps) ≡ read_tree (Some (reading open_ones (Some t))) ps
read_again (Load at negated o) open_ones ps = refl
read_again (Reload t at negated o) open_ones ps =
    ap (read_tree (Some (reading open_ones None)))
    (append_assoc (pieces_of t) (piece at (actions.Load negated o) ∷ []) ps)
    ∙ read_again t open_ones (piece at (actions.Load negated o) ∷ ps)
read_again (Apply t at operator o) open_ones ps =
    ap (read_tree (Some (reading open_ones None)))
    (append_assoc (pieces_of t) (piece at (actions.Apply operator o) ∷ []) ps)
    ∙ read_again t open_ones (piece at (actions.Apply operator o) ∷ ps)
read_again (Transform t at function) open_ones ps =
    ap (read_tree (Some (reading open_ones None)))
    (append_assoc (pieces_of t) (piece at (actions.Transform function) ∷ []) ps)
    ∙ read_again t open_ones (piece at (actions.Transform function) ∷ ps)
read_again (Deferred t at operator u close) open_ones ps =
    let begin = piece at (actions.Open operator) in
    let end = piece close actions.Close in
    ap (read_tree (Some (reading open_ones None)))
    (append_assoc (pieces_of t) (begin ∷ (pieces_of u ++ end ∷ [])) ps)
    ∙ read_again t open_ones (begin ∷ ((pieces_of u ++ end ∷ []) ++ ps))
    ∙ ap (read_tree (Some (reading (opened t at operator ∷ open_ones) None))) (append_assoc (pieces_of u) (end ∷ []) ps)
    ∙ read_again u (opened t at operator ∷ open_ones) (end ∷ ps)
read_again (Call t at f os) open_ones ps =
    let end = piece at (actions.Invoke f) in
    ap (read_tree (Some (reading open_ones None))) (append_assoc (pieces_of t) (call_pieces at f os) ps)
    ∙ read_again t open_ones (call_pieces at f os ++ ps)
    ∙ ap (read_tree (Some (reading open_ones (Some (Call t at f [])))))
    (append_assoc (give_pieces at f 1 os) (end ∷ []) ps)
    ∙ gives_again t at f 1 [] os open_ones (end ∷ ps)

pub tree_again : {N : Type 0} (t : Tree N) → tree_of (pieces_of t) ≡ t
tree_again t = ap (λ ps. tree_of ps) (sym (append-nil (pieces_of t))) ∙ ap or_false (read_again t [] [])
