-- What is laid out of lines that call no function are words of files of version 1.
use Rattle.std.proofs.Common.{◌≡◌, ℕ, ◌+◌, ◌<◌, List, [], ◌∷◌, ◌++◌, length, map, Bool, true, false, ◌||◌}
use Rattle.std.proofs.Common.{Option, Some, None, sym, ◌∙◌, subst, arith}
use Rattle.std.specs.Prelude.{⊤, ◌==◌, flat_map}
use Rattle.std.specs.List.{AllByRecursion, cons_option, list_any}
use Rattle.std.specs.Option.{option_map_or}
use Rattle.std.proofs.lemmas.Bool.Decides.{nat_tests}
use Rattle.std.proofs.lemmas.Grind.{flat_map-append}
use Rattle.iltypes.specs.declared.condition.Condition.{Condition}
use Rattle.iltypes.specs.declared.condition.Condition.TheVariants.{Always, IfTrue, IfFalse}
use Rattle.ilsource.specs.declared.arguments.Argument.{Argument}
use Rattle.ilsource.specs.declared.instruction.Instruction.{Instruction}
use Rattle.ilsource.specs.declared.instruction.Instruction.TheVariants as instructions
use Rattle.ilsource.specs.declared.instruction.Line.{Line}
use Rattle.ilsource.specs.declared.nested.Action.TheVariants as actions
use Rattle.ilsource.specs.declared.nested.Piece.{Piece}
use Rattle.ilsource.specs.declared.operand.Operand.{Operand}
use Rattle.ilsource.specs.declared.operand.Operand.TheVariants.{Name, Constant}
use Rattle.ilsource.specs.declared.uses.Purpose.{Purpose}
use Rattle.ilsource.specs.declared.uses.Purpose.TheVariants.{Read, Write, Call as Called, Pass, Invoke}
use Rattle.ilsource.specs.declared.uses.Use.{Use}
use Rattle.ilsource.specs.Trees.{Tree, Load, Reload, Apply, Transform, Deferred, Call, piece, pieces_of, call_pieces}
use Rattle.ilsource.specs.Uses.{uses_in, uses_of, uses_of_piece}
use Rattle.ilsource.specs.Words as counts
use Rattle.ilplan.specs.declared.place.Place.{Place}
use Rattle.ilplan.specs.declared.place.Place.TheVariants as places
use Rattle.ilplan.specs.Functions.{function_in, functions_in, invokes}
use Rattle.ilplan.specs.Plans.{Nameable, PlannedInstance, HasOperand, HasUse, all_lines}
use Rattle.ilcode.specs.Words.{IsOldWord}
use Rattle.ilcode.specs.declared.word.Word.{Word}
use Rattle.ilcode.specs.declared.word.Word.TheVariants as words
use Rattle.ilcompile.specs.Layout.{Numbers, number_of, jump_over, place_of_label, programs_of, word_of}
use Rattle.ilcompile.specs.Layout.{word_of_argument}
use Rattle.ilcompile.specs.Layout.{words_in, words_of, words_of_lines, words_of_programs}
use Rattle.ilcompile.proofs.Held.{both, front, back, each}
use Rattle.ilcompile.proofs.UsedFunctions.{first_one}

abbrev pub AreOld : List Word → Type 0
AreOld ws = AllByRecursion IsOldWord ws

-- no function is called
abbrev CallsNone : Purpose → Type 0
CallsNone Invoke = ⊥
CallsNone purpose = ⊤

abbrev pub NoCalls : List (Use Place) → Type 0
NoCalls uses = AllByRecursion (λ u. CallsNone u.purpose) uses

neither : (b c : Bool) → (b || c) ≡ false → c ≡ false
neither true c e = absurd cc
neither false c e = e

-- what is named is there: where no function that is there is called, none is
module _ (names : Nameable) where
  no_call : (purpose : Purpose) (o : Operand Place) (others : List ℕ) → HasOperand names purpose o
      → ((j : ℕ) → j < length names.inputs
      → list_any (λ other. other == j) (cons_option (function_in purpose o) others) ≡ false)
      → CallsNone purpose
  no_call Read o others has none = tt
  no_call Write o others has none = tt
  no_call Called o others has none = tt
  no_call Pass o others has none = tt
  no_call Invoke (Name (places.Slot slot)) others has none = absurd has
  no_call Invoke (Name (places.Port block port)) others has none = absurd has
  no_call Invoke (Name (places.Block block)) others has none = absurd has
  no_call Invoke (Name (places.Function number)) others has none =
      let t : (number == number) ≡ true = grind (arith, nat_tests) in
      let e = first_one (number == number) (list_any (λ other. other == number) others) t in
      let f = none number has in
      absurd (let q : true ≡ false = sym e ∙ f in cc)
  no_call Invoke (Constant value) others has none = absurd has

  later : (o : Option ℕ) (others : List ℕ) (j : ℕ) → list_any (λ other. other == j) (cons_option o others) ≡ false
      → list_any (λ other. other == j) others ≡ false
  later None others j e = e
  later (Some x) others j e = neither (x == j) (list_any (λ other. other == j) others) e

  pub no_calls : (uses : List (Use Place)) → AllByRecursion (HasUse names) uses
      → ((j : ℕ) → j < length names.inputs → invokes uses j ≡ false) → NoCalls uses
  no_calls [] has none = tt
  no_calls (u ∷ uses) has none = (
    no_call u.purpose u.operand (functions_in uses) has.0 none,
    no_calls uses has.1 (λ j lt. later (function_in u.purpose u.operand) (functions_in uses) j (none j lt)),
  )

module _ (n : Numbers) where
  abbrev IsOldPiece : Piece Place → Type 0
  IsOldPiece p = IsOldWord (word_of n p.action)

  abbrev Calm : Piece Place → Type 0
  Calm p = NoCalls (uses_of_piece p)

  tree_old : (t : Tree Place) → AllByRecursion Calm (pieces_of t) → AllByRecursion IsOldPiece (pieces_of t)
  tree_old (Load at negated o) h = (tt, tt)
  tree_old (Reload t at negated o) h =
      let last = piece at (actions.Load negated o) ∷ [] in
      both IsOldPiece (pieces_of t) last (tree_old t (front Calm (pieces_of t) last h)) (tt, tt)
  tree_old (Apply t at operator o) h =
      let last = piece at (actions.Apply operator o) ∷ [] in
      both IsOldPiece (pieces_of t) last (tree_old t (front Calm (pieces_of t) last h)) (tt, tt)
  tree_old (Transform t at function) h =
      let last = piece {N = Place} at (actions.Transform function) ∷ [] in
      both IsOldPiece (pieces_of t) last (tree_old t (front Calm (pieces_of t) last h)) (tt, tt)
  tree_old (Deferred t at operator u close) h =
      let last = piece {N = Place} close actions.Close ∷ [] in
      let inner = piece at (actions.Open operator) ∷ (pieces_of u ++ last) in
      both IsOldPiece (pieces_of t) inner (tree_old t (front Calm (pieces_of t) inner h)) (
        tt,
        both IsOldPiece (pieces_of u) last
            (tree_old u (front Calm (pieces_of u) last (back Calm (pieces_of t) inner h).1)) (tt, tt),
      )
  tree_old (Call t at f os) h = absurd (back Calm (pieces_of t) (call_pieces at f os) h).0.0

  pieces_old : (ps : List (Piece Place)) → AllByRecursion IsOldPiece ps → AreOld (map (λ p. word_of n p.action) ps)
  pieces_old [] h = tt
  pieces_old (p ∷ ps) h = (h.0, pieces_old ps h.1)

  arguments_old : (xs : List (Argument Place)) → AreOld (map (word_of_argument n) xs)
  arguments_old [] = tt
  arguments_old (x ∷ xs) = (tt, arguments_old xs)

  over_old : (next : ℕ) (condition : Condition) → AreOld (jump_over next condition)
  over_old next Always = tt
  over_old next IfTrue = (tt, tt)
  over_old next IfFalse = (tt, tt)

  instruction_old : (end next : ℕ) (target : ℕ → ℕ) (at : ℕ) (i : Option (Instruction Place ℕ))
      → NoCalls (option_map_or (uses_of at) i []) → AreOld (option_map_or (words_of n end next target) i [])
  instruction_old end next target at None h = tt
  instruction_old end next target at (Some (instructions.Load negated o)) h = (tt, tt)
  instruction_old end next target at (Some (instructions.Apply operator o)) h = (tt, tt)
  instruction_old end next target at (Some (instructions.Deferred operator t close)) h = (
    tt,
    both IsOldWord (map (λ p. word_of n p.action) (pieces_of t)) (words.Close ∷ [])
        (pieces_old (pieces_of t)
        (tree_old t (each (λ (u : Use Place). CallsNone u.purpose) uses_of_piece (pieces_of t) h)))
        (tt, tt),
  )
  instruction_old end next target at (Some (instructions.Transform function)) h = (tt, tt)
  instruction_old end next target at (Some (instructions.Limit low high)) h = (tt, (tt, tt))
  instruction_old end next target at (Some (instructions.Store negated place)) h = (tt, tt)
  instruction_old end next target at (Some (instructions.Set place)) h = (tt, tt)
  instruction_old end next target at (Some (instructions.Reset place)) h = (tt, tt)
  instruction_old end next target at (Some (instructions.Jump condition label)) h = (tt, tt)
  instruction_old end next target at (Some (instructions.Return condition)) h = (tt, tt)
  instruction_old end next target at (Some (instructions.Call condition instance xs)) h =
      both IsOldWord (jump_over next condition) (map (word_of_argument n) xs ++ words.Call (number_of instance) ∷ [])
      (over_old next condition)
      (both IsOldWord (map (word_of_argument n) xs) (words.Call (number_of instance) ∷ []) (arguments_old xs) (tt, tt))
  instruction_old end next target at (Some (instructions.Invoke f os)) h = absurd h.0

  lines_old : (end place : ℕ) (lines : List (Line Place ℕ)) → NoCalls (flat_map uses_in lines)
      → AreOld (words_of_lines n end place lines)
  lines_old end place [] h = tt
  lines_old end place (line ∷ lines) h =
      let next = place + counts.words_in line in
      let target = place_of_label next lines in
      let free = λ (u : Use Place). CallsNone u.purpose in
      both IsOldWord (words_in n end next target line) (words_of_lines n end next lines)
      (instruction_old end next target line.at line.instruction (front free (uses_in line) (flat_map uses_in lines) h))
      (lines_old end next lines (back free (uses_in line) (flat_map uses_in lines) h))

  pub programs_old : (place : ℕ) (instances : List PlannedInstance) → NoCalls (flat_map uses_in (all_lines instances))
      → AreOld (words_of_programs n place (programs_of instances))
  programs_old place [] h = tt
  programs_old place (i ∷ instances) h =
      let end = place + counts.words_of_lines i.lines in
      let mine = flat_map uses_in i.lines in
      let others = flat_map uses_in (all_lines instances) in
      let free = λ (u : Use Place). CallsNone u.purpose in
      let parts = subst NoCalls (flat_map-append uses_in i.lines (all_lines instances)) h in
      both IsOldWord (words_of_lines n end place i.lines) (words_of_programs n end (programs_of instances))
      (lines_old end place i.lines (front free mine others parts))
      (programs_old end instances (back free mine others parts))
