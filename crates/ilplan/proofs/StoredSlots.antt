-- Which slots lines store to: what one line adds, and one line after another.
use Rattle.std.proofs.Common.{◌≡◌, ℕ, ◌<◌, List, [], ◌∷◌, ◌++◌, length, refl, sym, ap, ◌∙◌, subst, arith}
use Rattle.std.proofs.Common.{Bool, true, false, ◌||◌, ◌+◌, ◌≢◌, ◌≤◌, get_or, take, replicate, set}
use Rattle.std.specs.Prelude.{flat_map, map, Option, Some, None, ◌==◌, option_and_then}
use Rattle.std.specs.List.{list_any}
use Rattle.std.specs.Option.{option_map_or}
use Rattle.std.proofs.lemmas.Bool.Decides.{Decides-eqb, not_from_Decides}
use Rattle.std.proofs.lemmas.Bool.{false_from_ne_true}
use Rattle.std.proofs.lemmas.List.{take_more, append-nil, get_or-replicate, get_or-set_other}
use Rattle.std.proofs.lemmas.List.{length-replicate, length-set}
use Rattle.std.proofs.lemmas.List.Folds.{list_any-append}
use Rattle.std.proofs.lemmas.Grind.{flat_map-append, get_or-set_at}
use Rattle.ilsource.specs.declared.arguments.Argument.{Argument}
use Rattle.ilsource.specs.declared.instruction.Instruction.{Instruction}
use Rattle.ilsource.specs.declared.instruction.Instruction.TheVariants as instructions
use Rattle.ilsource.specs.declared.instruction.Line.{Line}
use Rattle.ilsource.specs.declared.nested.Action.{Action}
use Rattle.ilsource.specs.declared.nested.Action.TheVariants as actions
use Rattle.ilsource.specs.declared.nested.Piece.{Piece}
use Rattle.ilsource.specs.declared.operand.Operand.{Operand}
use Rattle.ilsource.specs.declared.uses.Use.{Use}
use Rattle.ilsource.specs.Trees.{pieces_of}
use Rattle.ilsource.specs.Uses.{uses_in, uses_of, uses_of_action, uses_of_piece, uses_of_argument, read_at, write_at}
use Rattle.ilplan.specs.declared.place.Place.{Place}
use Rattle.ilplan.specs.declared.place.Place.TheVariants as places
use Rattle.ilplan.specs.Plans.{PlannedInstance, all_lines, writes_slot}
use Rattle.ilplan.specs.StoreSteps.{Adds, AreStored, slot_of, stored_by, stored_in}

-- ---- what reads writes nothing

or_assoc : (a b c : Bool) → ((a || b) || c) ≡ (a || (b || c))
or_assoc true b c = refl
or_assoc false b c = refl

no_action_writes : (slot at : ℕ) (a : Action Place) → list_any (writes_slot slot) (uses_of_action at a) ≡ false
no_action_writes slot at (actions.Load negated o) = refl
no_action_writes slot at (actions.Apply operator o) = refl
no_action_writes slot at (actions.Open operator) = refl
no_action_writes slot at (actions.Close) = refl
no_action_writes slot at (actions.Transform function) = refl
no_action_writes slot at (actions.Hand f) = refl
no_action_writes slot at (actions.Give f number o) = refl
no_action_writes slot at (actions.Invoke f) = refl

no_piece_writes : (slot : ℕ) (pieces : List (Piece Place))
    → list_any (writes_slot slot) (flat_map uses_of_piece pieces) ≡ false
no_piece_writes slot [] = refl
no_piece_writes slot (p ∷ pieces) =
    list_any-append (writes_slot slot) (uses_of_piece p) (flat_map uses_of_piece pieces)
    ∙ ap (λ b. b || list_any (writes_slot slot) (flat_map uses_of_piece pieces)) (no_action_writes slot p.at p.action)
    ∙ no_piece_writes slot pieces

no_argument_writes : (slot at : ℕ) (arguments : List (Argument Place))
    → list_any (writes_slot slot) (flat_map (uses_of_argument at) arguments) ≡ false
no_argument_writes slot at [] = refl
no_argument_writes slot at (x ∷ arguments) = no_argument_writes slot at arguments

no_operand_writes : (slot at : ℕ) (operands : List (Operand Place))
    → list_any (writes_slot slot) (map (read_at at) operands) ≡ false
no_operand_writes slot at [] = refl
no_operand_writes slot at (o ∷ operands) = no_operand_writes slot at operands

or_none : (b : Bool) → b ≡ (b || false)
or_none true = refl
or_none false = refl

-- a line writes the slot that it stores to, and no other
writes_place : (slot at : ℕ) (place : Place)
    → list_any (writes_slot slot) (write_at at place ∷ [])
    ≡ option_map_or (λ number. number == slot) (slot_of place) false
writes_place slot at (places.Slot number) = sym (or_none (number == slot))
writes_place slot at (places.Port block port) = refl
writes_place slot at (places.Block block) = refl
writes_place slot at (places.Function number) = refl

writes_by : (slot at : ℕ) (i : Instruction Place ℕ)
    → list_any (writes_slot slot) (uses_of at i) ≡ option_map_or (λ number. number == slot) (stored_by i) false
writes_by slot at (instructions.Load negated o) = refl
writes_by slot at (instructions.Apply operator o) = refl
writes_by slot at (instructions.Deferred operator t close) = no_piece_writes slot (pieces_of t)
writes_by slot at (instructions.Transform function) = refl
writes_by slot at (instructions.Limit low high) = refl
writes_by slot at (instructions.Store negated place) = writes_place slot at place
writes_by slot at (instructions.Set place) = writes_place slot at place
writes_by slot at (instructions.Reset place) = writes_place slot at place
writes_by slot at (instructions.Jump condition label) = refl
writes_by slot at (instructions.Return condition) = refl
writes_by slot at (instructions.Call condition place arguments) = no_argument_writes slot at arguments
writes_by slot at (instructions.Invoke f operands) = no_operand_writes slot at operands

writes_in : (slot at : ℕ) (o : Option (Instruction Place ℕ))
    → list_any (writes_slot slot) (option_map_or (uses_of at) o [])
    ≡ option_map_or (λ number. number == slot) (option_and_then stored_by o) false
writes_in slot at None = refl
writes_in slot at (Some i) = writes_by slot at i

-- ---- one after another

pub adds_none : (stored : List Bool) → Adds [] stored stored
adds_none stored = record { many = refl; each = λ slot within. or_none (get_or stored slot false) }

pub adds_both : (one other : List (Use Place)) (a b c : List Bool) → Adds one a b → Adds other b c
    → Adds (one ++ other) a c
adds_both one other a b c first second =
    record {
      many = second.many ∙ first.many;
      each = λ slot within.
          let there : slot < length b = subst (λ n. slot < n) (sym first.many) within in
          let both = list_any-append (writes_slot slot) one other in
          second.each slot there ∙ ap (λ x. x || list_any (writes_slot slot) other) (first.each slot within)
          ∙ or_assoc (get_or a slot false) (list_any (writes_slot slot) one) (list_any (writes_slot slot) other)
          ∙ ap (λ x. get_or a slot false || x) (sym both);
    }

-- one line of a list more
pub adds_more : (lines : List (Line Place ℕ)) (i : ℕ) (line : Line Place ℕ) (a b c : List Bool) → i < length lines
    → line ≡ get_or lines i line → Adds (flat_map uses_in (take i lines)) a b → Adds (uses_in line) b c
    → Adds (flat_map uses_in (take (i + 1) lines)) a c
adds_more lines i line a b c within is first second =
    let one : uses_in line ++ [] ≡ uses_in line = append-nil (uses_in line) in
    let more = take_more lines i line within ∙ ap (λ l. take i lines ++ l ∷ []) (sym is) in
    let uses = ap (λ ls. flat_map uses_in ls) more ∙ flat_map-append uses_in (take i lines) (line ∷ [])
    ∙ ap (λ us. flat_map uses_in (take i lines) ++ us) one in
    subst (λ (us : List (Use Place)). Adds us a c) (sym uses) (adds_both _ (uses_in line) a b c first second)

-- the lines of one instance more
pub adds_instance : (instances : List PlannedInstance) (i : ℕ) (p : PlannedInstance) (a b c : List Bool)
    → i < length instances → p ≡ get_or instances i p → Adds (flat_map uses_in (all_lines (take i instances))) a b
    → Adds (flat_map uses_in p.lines) b c → Adds (flat_map uses_in (all_lines (take (i + 1) instances))) a c
adds_instance instances i p a b c within is first second =
    let lines = λ (q : PlannedInstance). q.lines in
    let before = take i instances in
    let more = take_more instances i p within ∙ ap (λ q. before ++ q ∷ []) (sym is) in
    let uses = ap (λ ps. flat_map uses_in (all_lines ps)) more
    ∙ ap (λ ls. flat_map uses_in ls) (flat_map-append lines before (p ∷ []))
    ∙ ap (λ ls. flat_map uses_in (all_lines before ++ ls)) (append-nil p.lines)
    ∙ flat_map-append uses_in (all_lines before) p.lines in
    subst (λ (us : List (Use Place)). Adds us a c) (sym uses)
    (adds_both _ (flat_map uses_in p.lines) a b c first second)

-- what is added to nothing
pub added_to_none : (instances : List PlannedInstance) (slots : ℕ) (stored : List Bool)
    → Adds (flat_map uses_in (all_lines instances)) (replicate slots false) stored → AreStored instances slots stored
added_to_none instances slots stored h =
    let long = length-replicate slots false in
    record {
      many = h.many ∙ long;
      each = λ slot within.
          h.each slot (subst (λ n. slot < n) (sym long) within)
          ∙ ap (λ b. b || list_any (writes_slot slot) (flat_map uses_in (all_lines instances)))
          (get_or-replicate slots slot false false within);
    }

-- a line that stores to a slot that is there, and one that does not
module _ (line : Line Place ℕ) (stored : List Bool) where
  writes : (k : ℕ) → list_any (writes_slot k) (uses_in line) ≡ option_map_or (λ n. n == k) (stored_in line) false
  writes k = writes_in k line.at line.instruction

  pub adds_slot : (slot : ℕ) → Some slot ≡ stored_in line → slot < length stored
      → Adds (uses_in line) stored (set stored slot true)
  adds_slot slot is within =
      record { many = length-set stored slot true; each = λ k there. at k (slot == k) refl }
    where
      known : (k : ℕ) → list_any (writes_slot k) (uses_in line) ≡ (slot == k)
      known k = writes k ∙ ap (λ o. option_map_or (λ n. n == k) o false) (sym is)

      or_true : (b : Bool) → true ≡ (b || true)
      or_true true = refl
      or_true false = refl

      at : (k : ℕ) (b : Bool) → (slot == k) ≡ b
          → get_or (set stored slot true) k false ≡ (get_or stored k false || list_any (writes_slot k) (uses_in line))
      at k true e =
          let same : slot ≡ k = (Decides-eqb slot k).0 e in
          rw (known k, e) (get_or-set_at stored slot k true false (sym same) within ∙ or_true (get_or stored k false))
      at k false e =
          let other : k ≢ slot = λ same. not_from_Decides (slot == k) (Decides-eqb slot k) e (sym same) in
          rw (known k, e) (get_or-set_other stored slot k true false other ∙ or_none (get_or stored k false))

  nothing_at : (k : ℕ) → list_any (writes_slot k) (uses_in line) ≡ false
      → get_or stored k false ≡ (get_or stored k false || list_any (writes_slot k) (uses_in line))
  nothing_at k e = rw e (or_none (get_or stored k false))

  pub adds_nothing : None ≡ stored_in line → Adds (uses_in line) stored stored
  adds_nothing is =
      record {
        many = refl;
        each = λ k there. nothing_at k (writes k ∙ ap (λ o. option_map_or (λ n. n == k) o false) (sym is));
      }

  pub adds_past : (slot : ℕ) → Some slot ≡ stored_in line → length stored ≤ slot → Adds (uses_in line) stored stored
  adds_past slot is past =
      record {
        many = refl;
        each = λ k there.
            let other : slot ≢ k = λ same. omega (arith, same, there, past) in
            let unlike : (slot == k) ≡ false = false_from_ne_true (slot == k) (λ e. other ((Decides-eqb slot k).0 e)) in
            nothing_at k (writes k ∙ ap (λ o. option_map_or (λ n. n == k) o false) (sym is) ∙ unlike);
      }
