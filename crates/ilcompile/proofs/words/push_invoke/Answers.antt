use Rattle.std.proofs.Common.{List, [], ◌∷◌, ◌++◌, map, subst}
use Rattle.std.specs.List.{AllByRecursion}
use Rattle.std.proofs.lemmas.List.{map-append}
use Rattle.ilsource.specs.declared.nested.Action.TheVariants as actions
use Rattle.ilsource.specs.declared.nested.Piece.{Piece}
use Rattle.ilsource.specs.declared.operand.Operand.{Operand}
use Rattle.ilsource.specs.Trees.{call_pieces, give_pieces, piece}
use Rattle.ilplan.specs.declared.place.Place.{Place}
use Rattle.ilcode.specs.Words.{HasWord}
use Rattle.ilcompile.specs.Layout.{Numbers, word_of}
use Rattle.ilcompile.specs.LayoutSteps.{gives_from}
use Rattle.ilcompile.proofs.Held.{back, front}
use Rattle.ilcompile.proofs.words.push_invoke.Goals as goal

-- the words behind the first one: the operands are given, and the function is called
behind : (n : Numbers) (f : Place) (os : List (Operand Place))
    → AllByRecursion HasWord (map (λ p. word_of n p.action) (call_pieces 0 f os))
    → AllByRecursion HasWord (gives_from n f 1 os ++ word_of n (actions.Invoke f) ∷ [])
behind n f os near =
    subst (AllByRecursion HasWord)
    (map-append (λ (p : Piece Place). word_of n p.action) (give_pieces 0 f 1 os) (piece 0 (actions.Invoke f) ∷ []))
    near.1

pub push_operands-requires : goal.push_operands-requires
push_operands-requires c =
    let n = c.args.numbers.now in
    let f = c.args.function in
    let os = c.args.operands.now in
    record {
      near = front HasWord (gives_from n f 1 os) (word_of n (actions.Invoke f) ∷ []) (behind n f os c.requires.near);
    }

pub word-requires-2 : goal.word-requires-2
word-requires-2 c =
    let n = c.args.numbers.now in
    let f = c.args.function in
    let os = c.args.operands.now in
    let last = back HasWord (gives_from n f 1 os) (word_of n (actions.Invoke f) ∷ []) (behind n f os c.requires.near) in
    record { near = last.0 }
