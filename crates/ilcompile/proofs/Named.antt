-- What lines name is there, the table has each constant at its number, and the functions that they call may be called.
use Rattle.std.proofs.Common.{◌≡◌, ℕ, ◌+◌, List, [], ◌∷◌, ◌++◌, map, Some}
use Rattle.std.specs.Prelude.{slice_get, flat_map, ⊤}
use Rattle.iltypes.specs.declared.value.Value.{Value}
use Rattle.ilsource.specs.declared.instruction.Instruction.TheVariants as instructions
use Rattle.ilsource.specs.declared.instruction.Line.{Line}
use Rattle.ilsource.specs.declared.nested.Action.TheVariants as actions
use Rattle.ilsource.specs.declared.nested.Piece.{Piece}
use Rattle.ilsource.specs.declared.operand.Operand.{Operand}
use Rattle.ilsource.specs.declared.operand.Operand.TheVariants.{Name, Constant}
use Rattle.ilsource.specs.declared.uses.Purpose.{Purpose}
use Rattle.ilsource.specs.declared.uses.Purpose.TheVariants.{Read, Write, Call, Pass, Invoke}
use Rattle.ilsource.specs.declared.uses.Use.{Use}
use Rattle.ilsource.specs.Trees.{call_pieces, give_pieces, piece}
use Rattle.ilsource.specs.Uses.{read_at, uses_in, uses_of, uses_of_piece}
use Rattle.ilsource.specs.Words.{IsShallow}
use Rattle.ilplan.specs.declared.place.Place.{Place}
use Rattle.ilplan.specs.declared.place.Place.TheVariants as places
use Rattle.ilplan.specs.Plans.{Nameable, GivesAll, HasOperand, HasPlace}
use Rattle.ilcompile.specs.Layout.{constant_number}
use Rattle.ilcompile.proofs.Stands.{Each}

module _ (constants : List Value) (names : Nameable) (May : ℕ → Type 0) where
  abbrev pub IsNamedAs : Purpose → Operand Place → Type 0
  IsNamedAs Read (Name place) = HasPlace names place
  IsNamedAs Read (Constant value) = slice_get constants (constant_number constants value) ≡ Some value
  IsNamedAs Write (Name place) = HasPlace names place
  IsNamedAs Write (Constant value) = ⊤
  IsNamedAs Call o = HasOperand names Call o
  IsNamedAs Pass o = HasOperand names Pass o
  IsNamedAs Invoke (Name (places.Function number)) = May number
  IsNamedAs Invoke o = ⊥

  abbrev pub IsOperand : Operand Place → Type 0
  IsOperand o = IsNamedAs Read o

  abbrev pub AreNamed : List (Use Place) → Type 0
  AreNamed uses = Each (λ u. IsNamedAs u.purpose u.operand) uses

  pub named_front : (a b : List (Use Place)) → AreNamed (a ++ b) → AreNamed a
  named_front [] b h = tt
  named_front (u ∷ a) b h = (h.0, named_front a b h.1)

  pub named_back : (a b : List (Use Place)) → AreNamed (a ++ b) → AreNamed b
  named_back [] b h = h
  named_back (u ∷ a) b h = named_back a b h.1

  -- what the one and the others use
  pub named_each : {X : Type 0} (uses : X → List (Use Place)) (xs : List X) → AreNamed (flat_map uses xs)
      → Each (λ x. AreNamed (uses x)) xs
  named_each uses [] h = tt
  named_each uses (x ∷ xs) h =
      (named_front (uses x) (flat_map uses xs) h, named_each uses xs (named_back (uses x) (flat_map uses xs) h))

  -- what is asked of a line: not too many parentheses, all arguments in its calls, and what it names is there
  abbrev pub IsFit : Line Place ℕ → Type 0
  IsFit line = IsShallow line.instruction × GivesAll names line.instruction × AreNamed (uses_in line)

  -- operands that are read
  pub named_operands : (at : ℕ) (os : List (Operand Place)) → AreNamed (map (read_at at) os) → Each IsOperand os
  named_operands at [] h = tt
  named_operands at (o ∷ os) h = (h.0, named_operands at os h.1)

  abbrev IsPiece : Piece Place → Type 0
  IsPiece x = AreNamed (uses_of_piece x)

  gives_named : (at : ℕ) (f : Place) (number : ℕ) (os : List (Operand Place)) → Each IsOperand os
      → Each IsPiece (give_pieces at f number os)
  gives_named at f number [] h = tt
  gives_named at f number (o ∷ os) h = ((h.0, tt), gives_named at f (number + 1) os h.1)

  with_last : (ps : List (Piece Place)) (last : Piece Place) → Each IsPiece ps → IsPiece last
      → Each IsPiece (ps ++ last ∷ [])
  with_last [] last h g = (g, tt)
  with_last (x ∷ ps) last h g = (h.0, with_last ps last h.1 g)

  -- the pieces of a call name what the call does
  pub call_named : (at k f : ℕ) (os : List (Operand Place))
      → AreNamed (uses_of {L = ℕ} k (instructions.Invoke (places.Function f) os))
      → Each IsPiece (call_pieces at (places.Function f) os)
  call_named at k f os h = (
    (h.0, tt),
    with_last (give_pieces at (places.Function f) 1 os) (piece at (actions.Invoke (places.Function f)))
        (gives_named at (places.Function f) 1 os (named_operands k os h.1)) tt,
  )
