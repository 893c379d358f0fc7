-- The calls in parentheses are those that their pieces end.
use Rattle.std.proofs.Common.{◌≡◌, ◌∙◌, ℕ, ◌+◌, List, [], ◌∷◌, ◌++◌, length, ap, refl, sym, append_assoc}
use Rattle.std.proofs.Common.{append-nil, arith, ◌<◌, ◌≤◌, get_or, take}
use Rattle.std.proofs.lemmas.List.{get_or_default}
use Rattle.ildeclared.proofs.Least.{take_more}
use Rattle.ilsource.specs.declared.nested.Action.{Action}
use Rattle.ilsource.specs.declared.nested.Action.TheVariants as actions
use Rattle.ilsource.specs.declared.nested.Piece.{Piece}
use Rattle.ilsource.specs.declared.operand.Operand.{Operand}
use Rattle.ilsource.specs.declared.symbol.Symbol.{Symbol}
use Rattle.ilsource.specs.Trees.{Tree, Load, Reload, Apply, Transform, Deferred, Call, piece, pieces_of, give_pieces}
use Rattle.ilsource.specs.Trees.{call_pieces}
use Rattle.ilscope.specs.Calls.{call, calls_in}
use Rattle.ilscope.specs.CallSteps.{call_ended, calls_ended, given_after}
use Rattle.ilscope.specs.declared.calls.FunctionCall.{FunctionCall}

-- how many operands are given after pieces
abbrev pub given_by : ℕ → List (Piece Symbol) → ℕ
given_by given [] = given
given_by given (p ∷ ps) = given_by (given_after given p.action) ps

pub ended_append : (given : ℕ) (ps qs : List (Piece Symbol))
    → calls_ended given (ps ++ qs) ≡ calls_ended given ps ++ calls_ended (given_by given ps) qs
ended_append given [] qs = refl
ended_append given (p ∷ ps) qs =
    ap (λ (cs : List FunctionCall). call_ended given p.action ++ cs) (ended_append (given_after given p.action) ps qs)
    ∙ sym (append_assoc (call_ended given p.action) (calls_ended (given_after given p.action) ps)
    (calls_ended (given_by (given_after given p.action) ps) qs))

-- a piece that ends no call
ended_one : (given : ℕ) (ps : List (Piece Symbol)) (q : Piece Symbol) (cs : List FunctionCall)
    → calls_ended given ps ≡ cs → call_ended (given_by given ps) q.action ≡ [] → calls_ended given (ps ++ q ∷ []) ≡ cs
ended_one given ps q cs e none =
    ended_append given ps (q ∷ [])
    ∙ ap (λ (xs : List FunctionCall). calls_ended given ps ++ (xs ++ [])) none
    ∙ append-nil (calls_ended given ps)
    ∙ e

-- the operands of a call are counted
gives_ended : (at : ℕ) (f : Symbol) (number given : ℕ) (os : List (Operand Symbol))
    → calls_ended given (give_pieces at f number os ++ piece at (actions.Invoke f) ∷ [])
    ≡ call f (given + length os) ∷ []
gives_ended at f number given [] =
    let same : given ≡ given + 0 = omega arith in
    ap (λ (n : ℕ). call f n ∷ []) same
gives_ended at f number given (o ∷ os) =
    let same : (given + 1) + length os ≡ given + length (o ∷ os) = omega arith in
    gives_ended at f (number + 1) (given + 1) os ∙ ap (λ (n : ℕ). call f n ∷ []) same

-- from any number that is given before
pub calls_are_ended : (t : Tree Symbol) (given : ℕ) → calls_ended given (pieces_of t) ≡ calls_in t
calls_are_ended (Load at negated o) given = refl
calls_are_ended (Reload t at negated o) given =
    ended_one given (pieces_of t) (piece at (actions.Load negated o)) (calls_in t) (calls_are_ended t given) refl
calls_are_ended (Apply t at operator o) given =
    ended_one given (pieces_of t) (piece at (actions.Apply operator o)) (calls_in t) (calls_are_ended t given) refl
calls_are_ended (Transform t at function) given =
    ended_one given (pieces_of t) (piece at (actions.Transform function)) (calls_in t) (calls_are_ended t given) refl
calls_are_ended (Deferred t at operator u close) given =
    let begin = piece at (actions.Open operator) in
    let end = piece close actions.Close in
    let after = given_by given (pieces_of t) in
    ended_append given (pieces_of t) (begin ∷ (pieces_of u ++ end ∷ []))
    ∙ ap (λ (xs : List FunctionCall). xs ++ calls_ended after (pieces_of u ++ end ∷ [])) (calls_are_ended t given)
    ∙ ap (λ (xs : List FunctionCall). calls_in t ++ xs)
    (ended_one after (pieces_of u) end (calls_in u) (calls_are_ended u after) refl)
calls_are_ended (Call t at f os) given =
    let after = given_by given (pieces_of t) in
    let same : 0 + length os ≡ length os = omega arith in
    ended_append given (pieces_of t) (call_pieces at f os)
    ∙ ap (λ (xs : List FunctionCall). xs ++ calls_ended after (call_pieces at f os)) (calls_are_ended t given)
    ∙ ap (λ (xs : List FunctionCall). calls_in t ++ xs)
    (gives_ended at f 1 0 os ∙ ap (λ (n : ℕ). call f n ∷ []) same)

-- with one piece more
pub given_more : (given : ℕ) (ps : List (Piece Symbol)) (q : Piece Symbol)
    → given_by given (ps ++ q ∷ []) ≡ given_after (given_by given ps) q.action
given_more given [] q = refl
given_more given (p ∷ ps) q = given_more (given_after given p.action) ps q

pub ended_more : (given : ℕ) (ps : List (Piece Symbol)) (q : Piece Symbol)
    → calls_ended given (ps ++ q ∷ []) ≡ calls_ended given ps ++ call_ended (given_by given ps) q.action
ended_more given ps q =
    ended_append given ps (q ∷ [])
    ∙ ap (λ (xs : List FunctionCall). calls_ended given ps ++ xs) (append-nil (call_ended (given_by given ps) q.action))

-- with the piece at a place
module _ (pieces : List (Piece Symbol)) (i : ℕ) (d : Piece Symbol) (below : i < length pieces) (given : ℕ)
    (counted : given ≡ given_by 0 (take i pieces)) where
  whole : take (i + 1) pieces ≡ take i pieces ++ get_or pieces i d ∷ []
  whole = take_more pieces i (get_or pieces i d) below (get_or_default pieces i d (get_or pieces i d) below)

  pub ended_next : (old items new : List FunctionCall) → items ≡ old ++ calls_ended 0 (take i pieces)
      → new ≡ items ++ call_ended given (get_or pieces i d).action → new ≡ old ++ calls_ended 0 (take (i + 1) pieces)
  ended_next old items new e n =
      let front = take i pieces in
      let next = get_or pieces i d in
      n
      ∙ ap (λ (xs : List FunctionCall). xs ++ call_ended given next.action) e
      ∙ ap (λ (m : ℕ). (old ++ calls_ended 0 front) ++ call_ended m next.action) counted
      ∙ append_assoc old (calls_ended 0 front) (call_ended (given_by 0 front) next.action)
      ∙ ap (λ (cs : List FunctionCall). old ++ cs) (sym (ended_more 0 front next))
      ∙ ap (λ (ps : List (Piece Symbol)). old ++ calls_ended 0 ps) (sym whole)

  pub counted_next : (after : ℕ) → after ≡ given_after given (get_or pieces i d).action
      → after ≡ given_by 0 (take (i + 1) pieces)
  counted_next after e =
      let front = take i pieces in
      let next = get_or pieces i d in
      e
      ∙ ap (λ (m : ℕ). given_after m next.action) counted
      ∙ sym (given_more 0 front next)
      ∙ ap (λ (ps : List (Piece Symbol)). given_by 0 ps) (sym whole)

-- a piece gives one operand at most
at_most_one : (given : ℕ) (a : Action Symbol) → given_after given a ≤ given + 1
at_most_one given (actions.Load negated o) = omega arith
at_most_one given (actions.Apply operator o) = omega arith
at_most_one given (actions.Transform f) = omega arith
at_most_one given (actions.Open operator) = omega arith
at_most_one given actions.Close = omega arith
at_most_one given (actions.Hand f) = omega arith
at_most_one given (actions.Give f number o) = omega arith
at_most_one given (actions.Invoke f) = omega arith

pub few_next : (given i after : ℕ) (a : Action Symbol) → given ≤ i → after ≡ given_after given a → after ≤ i + 1
few_next given i after a h e = let most = at_most_one given a in omega (arith, h, e, most)
