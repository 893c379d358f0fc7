-- What stands in parentheses, as its pieces are added one after another.
use Rattle.std.proofs.Common.{◌≡◌, ℕ, zero, suc, ◌-◌, Bool, true, false, ◌&&◌, List, [], ◌∷◌, ◌++◌, flat_map}
use Rattle.std.proofs.Common.{◌<◌, length, Option, Some, Result, Ok, Err, refl, sym, ap, ◌∙◌, append_assoc, arith}
use Rattle.std.proofs.lemmas.List.{append-nil}
use Rattle.iltypes.specs.declared.operator.Operator.{Operator}
use Rattle.iltypes.specs.Operators.{may_defer}
use Rattle.ilsource.specs.declared.instruction.Instruction.TheVariants as instructions
use Rattle.ilsource.specs.declared.nested.Piece.{Piece}
use Rattle.ilsource.specs.declared.operand.Operand.{Operand}
use Rattle.ilsource.specs.Trees.{Tree, pieces_of}
use Rattle.ilsource.specs.TreeSteps.{tree_of, tree_again}
use Rattle.iltokens.specs.declared.read_error.ReadError.{ReadError}
use Rattle.iltokens.specs.declared.read_error.ReadError.TheVariants as errors
use Rattle.iltokens.specs.Items.{◌>>=◌, Item, begins, many}
use Rattle.iltokens.specs.Results.{Fails, extend}
use Rattle.ilsource.specs.declared.symbol.Symbol.{Symbol}
use Rattle.iltokens.specs.declared.lexed.Delimiter.TheVariants as delimiters
use Rattle.iltext.specs.declared.token.Token.{Token}
use Rattle.iltext.specs.Terminals.{delimiter, name, closing, ended}
use Rattle.iltext.specs.Operands.{operand}
use Rattle.iltext.specs.Instructions.{TextInstruction, TextLine, line_of, grown, grows, grows_by}
use Rattle.iltext.specs.Instructions.{on_operand, on_content, on_either, beginning, applied, invocation}
use Rattle.iltext.specs.Instructions.{inner_operation, inner_of, inner, content_of, content}
use Rattle.iltext.specs.InstructionSteps.{pieces_at, pieces_in, may_open}
use Rattle.iltext.proofs.Extends.{extend_ok}

abbrev Pieces : Type 0
Pieces = List (Piece Symbol)

-- ---- a tree that grows has more pieces

grown_pieces : (t : Tree Symbol) (at : ℕ) (i : Option TextInstruction)
    → pieces_of (grown t at i) ≡ pieces_of t ++ pieces_at at i
grown_pieces t at (Some (instructions.Load negated o)) = refl
grown_pieces t at (Some (instructions.Apply operator o)) = refl
grown_pieces t at (Some (instructions.Deferred operator u close)) = refl
grown_pieces t at (Some (instructions.Transform function)) = refl
grown_pieces t at (Some (instructions.Limit low high)) = simp append_assoc
grown_pieces t at (Some (instructions.Invoke function os)) = refl
grown_pieces t at _ = sym (append-nil (pieces_of t))

grows_pieces : (t : Tree Symbol) (lines : List TextLine)
    → pieces_of (grows_by t lines) ≡ pieces_of t ++ flat_map pieces_in lines
grows_pieces t [] = sym (append-nil (pieces_of t))
grows_pieces t (line ∷ lines) =
    grows_pieces (grows t line) lines
    ∙ (ap (λ (ps : Pieces). ps ++ flat_map pieces_in lines) (grown_pieces t line.at line.instruction)
    ∙ append_assoc (pieces_of t) (pieces_in line) (flat_map pieces_in lines))

-- ---- the content

abbrev Trees : Type 0
Trees = Result (Tree Symbol × List Token) (List Token)

abbrev Lines : Type 0
Lines = Result (List TextLine × List Token) (List Token)

abbrev grow : Tree Symbol → List TextLine × List Token → Trees
grow t q = Ok (grows_by t q.0, q.1)

joined : (front : Pieces) (t : Tree Symbol) (r : Lines)
    → extend (flat_map pieces_in) (front ++ pieces_of t) r ≡ extend pieces_of front (r >>= grow t)
joined front t (Err d) = refl
joined front t (Ok q) =
    ap (λ (ps : Pieces). Ok (ps, q.1))
    (append_assoc front (pieces_of t) (flat_map pieces_in q.0)
    ∙ ap (λ (ps : Pieces). front ++ ps) (sym (grows_pieces t q.0)))

regrouped : (t : Tree Symbol) (r : Lines)
    → (r >>= grow t)
    ≡ ((r >>= λ q. let x : Result ((Tree Symbol × List TextLine) × List Token) (List Token) = Ok ((t, q.0), q.1) in x)
    >>= λ p. let x : Trees = Ok (grows_by p.0.0 p.0.1, p.1) in x)
regrouped t (Ok q) = refl
regrouped t (Err d) = refl

pub begun : (more at : ℕ) (front : Pieces) (ts rest : List Token) (t : Tree Symbol)
    → (beginning at).read ts ≡ Ok (t, rest)
    → extend (flat_map pieces_in) (front ++ pieces_of t) ((many (ended (inner more))).read rest)
    ≡ extend pieces_of front ((content more at).read ts)
unfolding content_of
begun more at front ts rest t h =
    let r : Lines = (many (ended (inner more))).read rest in
    rw h (joined front t r ∙ ap (extend pieces_of front) (regrouped t r))

pub not_begun : (e : ReadError Token) (more at : ℕ) (front : Pieces) (ts : List Token)
    → Fails e ((beginning at).read ts)
    → Fails e (extend pieces_of front ((content more at).read ts))
unfolding content_of
not_begun errors.Memory more at front ts h = tt
not_begun (errors.Fault d) more at front ts h = rw h refl

-- where nothing is left, no instruction begins
pub none_inner : (more : ℕ) (front : Pieces) (ts : List Token) → length ts < 1
    → extend pieces_in front ((inner more).read ts) ≡ Err ts
unfolding inner_of inner_operation invocation name
none_inner more front [] few = refl
none_inner more front (t ∷ ts) few = absurd (omega arith)

-- ---- what an operator is applied to

module _ (more at : ℕ) (operator : Operator) (ts : List Token) where
  abbrev Reads : Bool → Item Token TextLine → Type 0
  Reads may item = (on_either may (content more) operator at).read ts ≡ item.read ts

  opened : (may opens : Bool) → begins (delimiter delimiters.Open) ts ≡ opens → (may && opens) ≡ true
      → Reads may (on_content (content more) operator at)
  unfolding on_content
  opened true true is e = rw is refl
  opened true false is e = absurd cc
  opened false opens is e = absurd cc

  unopened : (may opens : Bool) → begins (delimiter delimiters.Open) ts ≡ opens → (may && opens) ≡ false
      → Reads may (on_operand operator at)
  unfolding on_content
  unopened true true is e = absurd cc
  unopened true false is e = rw is refl
  unopened false opens is e = refl

pub by_content : (more at : ℕ) (operator : Operator) (ts : List Token) → may_open more operator ts ≡ true
    → (applied more operator at).read ts ≡ (on_content (content (more - 1)) operator at).read ts
unfolding applied
by_content zero at operator ts e = absurd cc
by_content (suc more) at operator ts e =
    let same : more ≡ suc more - 1 = omega arith in
    opened more at operator ts (may_defer operator) (begins (delimiter delimiters.Open) ts) refl e
    ∙ ap (λ (n : ℕ). (on_content (content n) operator at).read ts) same

by_operand : (more at : ℕ) (operator : Operator) (ts : List Token) → may_open more operator ts ≡ false
    → (applied more operator at).read ts ≡ (on_operand operator at).read ts
unfolding applied
by_operand zero at operator ts e = refl
by_operand (suc more) at operator ts e =
    unopened more at operator ts (may_defer operator) (begins (delimiter delimiters.Open) ts) refl e

module _ (more at : ℕ) (operator : Operator) (ts : List Token) (isnt : may_open more operator ts ≡ false) where
  pub operand_fails : (e : ReadError Token) → Fails e (operand.read ts) → Fails e ((applied more operator at).read ts)
  unfolding on_operand
  operand_fails errors.Memory h = tt
  operand_fails (errors.Fault d) h = rw (by_operand more at operator ts isnt, h) refl

  pub operand_applied : (o : Operand Symbol) (rest : List Token) → operand.read ts ≡ Ok (o, rest)
      → (applied more operator at).read ts ≡ Ok (line_of at (instructions.Apply operator o), rest)
  unfolding on_operand
  operand_applied o rest h = rw (by_operand more at operator ts isnt, h) refl

-- ---- the tree that the pieces spell

one_tree : (t u : Tree Symbol) → pieces_of t ≡ pieces_of u → t ≡ u
one_tree t u e = sym (tree_again t) ∙ (ap tree_of e ∙ tree_again u)

pub by_pieces : (content : ℕ → Item Token (Tree Symbol)) (operator : Operator) (at close : ℕ)
    (ts inside rest after : List Token) (front new : Pieces) (nested : Tree Symbol)
    → (delimiter delimiters.Open).read ts ≡ Ok (tt, inside) → front ≡ []
    → extend pieces_of front ((content at).read inside) ≡ Ok (new, rest) → new ≡ pieces_of nested
    → closing.read rest ≡ Ok (close, after)
    → (on_content content operator at).read ts ≡ Ok (line_of at (instructions.Deferred operator nested close), after)
unfolding on_content
by_pieces content operator at close ts inside rest after front new nested opens none h spelled closes =
    let is = extend_ok _ _ pieces_of front new rest ((content at).read inside) h in
    let same : is.0 ≡ nested =
    one_tree is.0 nested (sym (is.2 ∙ ap (λ (ps : Pieces). ps ++ pieces_of is.0) none) ∙ spelled) in
    rw (opens, is.1, closes)
    (ap (λ (t : Tree Symbol). Ok (line_of at (instructions.Deferred operator t close), after)) same)
