-- The lines of instances of a well-named text name what is there, each where it may stand, and give each function that
-- they call all its arguments.
use Rattle.std.proofs.Common.{◌≡◌, ◌∙◌, ℕ, zero, suc, ◌+◌, ◌<◌, List, [], ◌∷◌, ◌++◌, map, length, refl, sym, ap, subst}
use Rattle.std.proofs.Common.{arith, inl, inr}
use Rattle.std.specs.Prelude.{Option, Some, None, IsSomeAnd, slice_get, flat_map, option_map}
use Rattle.std.specs.List.{AllByRecursion, list_any}
use Rattle.std.specs.Option.{option_map_or}
use Rattle.std.proofs.Math.ListN.{length-map}
use Rattle.std.proofs.lemmas.Grind.{flat_map-append}
use Rattle.wordlines.specs.Wirings.{Wiring}
use Rattle.ilblocks.specs.declared.kind.BlockKind.{BlockKind}
use Rattle.ilblocks.specs.Ports.{most_ports}
use Rattle.ilsource.specs.declared.instruction.Instruction.{Instruction}
use Rattle.ilsource.specs.declared.instruction.Instruction.TheVariants as instructions
use Rattle.ilsource.specs.declared.instruction.Line.{Line}
use Rattle.ilsource.specs.declared.nested.Action.TheVariants as actions
use Rattle.ilsource.specs.declared.nested.Piece.{Piece}
use Rattle.ilsource.specs.declared.operand.Operand.{Operand}
use Rattle.ilsource.specs.declared.operand.Operand.TheVariants.{Name as Named, Constant}
use Rattle.ilsource.specs.declared.uses.Purpose.{Purpose}
use Rattle.ilsource.specs.declared.uses.Purpose.TheVariants.{Read, Write, Call, Pass, Invoke}
use Rattle.ilsource.specs.declared.uses.Use.{Use}
use Rattle.ilsource.specs.Renaming.{NewNames, by_name, rename, rename_line, rename_tree, rename_use}
use Rattle.ilsource.specs.Trees as trees
use Rattle.ilsource.specs.Uses.{invoke_at, uses_in, uses_of as uses_of_instruction, uses_of_piece}
use Rattle.ilsource.proofs.KeptSizes.{uses_kept}
use Rattle.ilsource.specs.Names.{SameName}
use Rattle.ilsource.specs.Programs.{AreSorted, MayBeUsed, MayStand}
use Rattle.ilsource.specs.SourceTrees.{Tree}
use Rattle.ilsource.specs.Words.{AreShallow}
use Rattle.ilsource.specs.declared.name.Name.{Name}
use Rattle.ilsource.specs.declared.symbol.Symbol.{Symbol}
use Rattle.ilsource.specs.declared.symbol.Symbol.TheVariants.{Variable, Port, Block, Function}
use Rattle.ildeclared.specs.Faults.{SomeOf}
use Rattle.ildeclared.specs.declared.fault.NameCause.TheVariants.{BadDeclaration, Unknown}
use Rattle.ilscope.specs.Declarations.{DeclaredFunction, DeclaredProgram, bodies_of, declared_functions}
use Rattle.ilscope.specs.Calls.{call, calls_by, calls_in, calls_of, calls_of_line}
use Rattle.ilscope.specs.declared.calls.FunctionCall.{FunctionCall}
use Rattle.ilscope.specs.UseFaults.{IsCalledWrongly, IsUnknownOperand, IsUnknownUse, functions_above}
use Rattle.ilscope.specs.UseFaults.{place_of_port, port_number}
use Rattle.ilscope.specs.SameNames.{same_name}
use Rattle.ilscope.specs.Uses.{uses_of}
use Rattle.ilscope.proofs.Lists.{at_some}
use Rattle.ilscope.proofs.SameNames.{same_as}
use Rattle.ilplan.specs.Plans.{AreLinesOf, GivesAll, HasOperand, HasPort, HasUse, IsGiven, Nameable, Takes, all_lines}
use Rattle.ilplan.specs.declared.instance.FunctionBlock.{FunctionBlock}
use Rattle.ilplan.specs.declared.place.Place.{Place}
use Rattle.ilplan.specs.declared.slot.Slot.{Slot}
use Rattle.ilsyms.specs.Faults.{IsWellNamed}
use Rattle.ilsyms.specs.Meaning.{block_in_store, function_in_text, place_in_store, place_of, port_of_block}
use Rattle.ilsyms.specs.PlanningSteps.{AreApart}
use Rattle.ilsyms.specs.Resolved.{label_number, new_places, planned_instance, planned_instances}
use Rattle.ilsyms.specs.Tasks.{NamedProgram}
use Rattle.ilsyms.specs.Variables.{blocks_of, lines_of, slots_of}
use Rattle.ilsyms.proofs.FunctionNames.{IsKnownFunction, function_there}
use Rattle.ilsyms.proofs.Instances.{externals_known}
use Rattle.ilsyms.proofs.Lists.{below_end, either}
use Rattle.ilsyms.proofs.Named.{back, block_found, block_there, both, declared_block, front, none_of, port_there}
use Rattle.ilsyms.proofs.Named.{variable_there}
use Rattle.ilsyms.proofs.NumberingLines.{all_shallow, planned, renamed}
use Rattle.ilsyms.proofs.TextBodies.{IsOfText, in_bodies}

-- ---- numbers and lists

equal : (m n : ℕ) → ¬ (¬ (m ≡ n)) → m ≡ n
equal zero zero h = refl
equal zero (suc n) h = absurd (h (λ e. cc))
equal (suc m) zero h = absurd (h (λ e. cc))
equal (suc m) (suc n) h = ap suc (equal m n (λ other. h (λ e. other (omega (arith, e)))))

-- where none has a property at any place, each has it at no place
none_each : {X : Type 0} (P : ℕ → X → Type 0) (xs : List X) → ((place : ℕ) → ¬ SomeOf (P place) xs)
    → AllByRecursion (λ x. (place : ℕ) → ¬ P place x) xs
none_each P [] h = tt
none_each P (x ∷ xs) h = ((λ place p. h place (inl p)), none_each P xs (λ place s. h place (inr s)))

both_hold : {X : Type 0} (P Q : X → Type 0) (xs : List X) → AllByRecursion P xs → AllByRecursion Q xs
    → AllByRecursion (λ x. P x × Q x) xs
both_hold P Q [] h k = tt
both_hold P Q (x ∷ xs) h k = ((h.0, k.0), both_hold P Q xs h.1 k.1)

module _ (tree : Tree) (wiring : Wiring) (well : IsWellNamed tree wiring) (names : Nameable) (is : List NamedProgram)
    (apart : AreApart tree.text is) (slots : names.slots ≡ length (slots_of tree is))
    (kinds : names.kinds ≡ map (λ b. b.kind) (blocks_of is)) where
  -- each function above the program has as many inputs as are named
  abbrev pub HasInputs : NamedProgram → Type 0
  HasInputs i =
      (k : ℕ) (f : DeclaredFunction) → k < i.program.functions → slice_get (declared_functions tree) k ≡ Some f
      → slice_get names.inputs k ≡ Some (length f.inputs)

  abbrev all_slots : List Slot
  all_slots = slots_of tree is

  abbrev all_blocks : List FunctionBlock
  all_blocks = blocks_of is

  -- ---- one of the instances

  module _ (n : ℕ) (i : NamedProgram) (there : slice_get is n ≡ Some i) (of_text : IsOfText tree i)
      (inputs : HasInputs i) where
    abbrev p : DeclaredProgram
    p = i.program

    abbrev place : Symbol → Place
    place = place_of tree all_slots all_blocks i

    abbrev new : NewNames Symbol Place
    new = new_places tree all_slots all_blocks i

    its_body : (d : ℕ) × (slice_get (bodies_of tree) d ≡ Some p)
    its_body = in_bodies tree i of_text

    -- what is used is known and may stand there; and a call has an operand for each further input
    abbrev IsRight : Use Symbol → Type 0
    IsRight u = MayBeUsed u × ((at : ℕ) → ¬ IsUnknownUse tree p at u)

    abbrev IsFull : FunctionCall → Type 0
    IsFull c = (at : ℕ) → ¬ IsCalledWrongly tree p at c.operands c.function

    all_right : AreSorted p.program.lines → AllByRecursion IsRight (uses_of p.program.lines)
    all_right sorted =
        both_hold MayBeUsed (λ u. (at : ℕ) → ¬ IsUnknownUse tree p at u) (uses_of p.program.lines) sorted
        (none_each (λ at u. IsUnknownUse tree p at u) (uses_of p.program.lines)
        (λ at s. well at Unknown (inr (at_some _ (bodies_of tree) its_body.0 p its_body.1 s))))

    all_full : AllByRecursion IsFull (calls_of p.program.lines)
    all_full =
        none_each (λ at c. IsCalledWrongly tree p at c.operands c.function) (calls_of p.program.lines)
        (λ at s. well at BadDeclaration (inr (at_some _ (bodies_of tree) its_body.0 p its_body.1 s)))

    -- ---- what is named

    has_port : (block port : Name) → ¬ (port_number tree.text p block port ≡ None)
        → HasPort names (block_in_store tree.text all_blocks i.name block)
        (option_map_or (port_of_block tree.text port)
        (slice_get all_blocks (block_in_store tree.text all_blocks i.name block)) most_ports)
    has_port block port known =
        port_there tree is n i there names kinds (block_in_store tree.text all_blocks i.name block) port
        (declared_block tree is n i there block) (block_found tree is n i there apart block) known

    has_variable : (name : Name) (purpose : Purpose)
        → ((at : ℕ) → ¬ IsUnknownOperand tree p at purpose (Named (Variable name)))
        → place_in_store tree all_slots i name < names.slots
    has_variable name purpose known =
        subst (λ m. place_in_store tree all_slots i name < m) (sym slots)
        (variable_there tree is n i there name (externals_known tree wiring well i of_text)
        (λ none. known name.from (none, refl)))

    has_block : (name : Name) → ((at : ℕ) → ¬ IsUnknownOperand tree p at Call (Named (Block name)))
        → block_in_store tree.text all_blocks i.name name < length names.kinds
    has_block name known =
        let there = block_there tree is n i there name (λ none. known name.from (none, refl)) in
        let many = ap (λ (ks : List BlockKind). length ks) kinds in
        let same = length-map all_blocks (λ b. b.kind) in
        omega (arith, there, many, same)

    is_known : (name : Name) → ((at : ℕ) → ¬ IsUnknownOperand tree p at Invoke (Named (Function name)))
        → IsKnownFunction tree p name
    is_known name known =
        either (list_any (λ f. same_name tree.text name f.function.name) (functions_above tree p))
        (λ t. t)
        (λ f. absurd (known name.from (
          none_of (λ (g : DeclaredFunction). SameName tree.text name g.function.name)
              (λ g. same_name tree.text name g.function.name) (λ g e. same_as tree.text name g.function.name e)
              (functions_above tree p) f,
          refl,
        )))

    has_function : (name : Name) → ((at : ℕ) → ¬ IsUnknownOperand tree p at Invoke (Named (Function name)))
        → function_in_text tree name < length names.inputs
    has_function name known =
        let its = function_there tree p name (is_known name known) in
        below_end names.inputs (function_in_text tree name) (length its.function.inputs)
        (inputs (function_in_text tree name) its.function its.above its.there)

    has : (purpose : Purpose) (o : Operand Symbol) → MayStand purpose o
        → ((at : ℕ) → ¬ IsUnknownOperand tree p at purpose o) → HasOperand names purpose (by_name place o)
    has Read (Constant v) may known = tt
    has Read (Named (Variable name)) may known = has_variable name Read known
    has Read (Named (Port block port)) may known =
        has_port block port (λ none. known (place_of_port Read block port) (none, refl))
    has Read (Named (Block name)) may known = absurd may
    has Read (Named (Function name)) may known = absurd may
    has Write (Constant v) may known = tt
    has Write (Named (Variable name)) may known = has_variable name Write known
    has Write (Named (Port block port)) may known =
        has_port block port (λ none. known (place_of_port Write block port) (none, refl))
    has Write (Named (Block name)) may known = absurd may
    has Write (Named (Function name)) may known = absurd may
    has Call (Constant v) may known = absurd may
    has Call (Named (Variable name)) may known = absurd may
    has Call (Named (Port block port)) may known = absurd may
    has Call (Named (Block name)) may known = has_block name known
    has Call (Named (Function name)) may known = absurd may
    has Pass (Constant v) may known = absurd may
    has Pass (Named (Variable name)) may known = absurd may
    has Pass (Named (Port block port)) may known =
        has_port block port (λ none. known (place_of_port Pass block port) (none, refl))
    has Pass (Named (Block name)) may known = absurd may
    has Pass (Named (Function name)) may known = absurd may
    has Invoke (Constant v) may known = absurd may
    has Invoke (Named (Variable name)) may known = absurd may
    has Invoke (Named (Port block port)) may known = absurd may
    has Invoke (Named (Block name)) may known = absurd may
    has Invoke (Named (Function name)) may known = has_function name known

    uses_have : (us : List (Use Symbol)) → AllByRecursion IsRight us
        → AllByRecursion (HasUse names) (map (rename_use new) us)
    uses_have [] right = tt
    uses_have (u ∷ us) right = (has u.purpose u.operand right.0.0 right.0.1, uses_have us right.1)

    lines_have : (label : Name → ℕ) (lines : List (Line Symbol Name))
        → AllByRecursion IsRight (flat_map uses_in lines)
        → AllByRecursion (HasUse names) (flat_map uses_in (renamed tree all_slots all_blocks i label lines))
    lines_have label [] right = tt
    lines_have label (line ∷ lines) right =
        let kept = uses_kept new label (λ name. refl) line.at line.instruction in
        both (HasUse names) (uses_in (rename_line new label line))
        (flat_map uses_in (renamed tree all_slots all_blocks i label lines))
        (subst (AllByRecursion (HasUse names)) (sym kept)
        (uses_have (uses_in line) (front IsRight (uses_in line) (flat_map uses_in lines) right)))
        (lines_have label lines (back IsRight (uses_in line) (flat_map uses_in lines) right))

    -- ---- calls of functions

    takes : (f : Symbol) (operands at : ℕ) → IsRight (invoke_at at f) → IsFull (call f operands)
        → Takes names (place f) (operands + 1)
    takes (Variable name) operands at right full = absurd right.0
    takes (Port block port) operands at right full = absurd right.0
    takes (Block name) operands at right full = absurd right.0
    takes (Function name) operands at right full =
        let its = function_there tree p name (is_known name right.1) in
        let many : length its.function.inputs ≡ operands + 1 =
        equal (length its.function.inputs) (operands + 1)
        (λ other. full name.from (
          subst (λ (o : Option DeclaredFunction). IsSomeAnd o (λ f. ¬ (length f.inputs ≡ operands + 1)))
              (sym its.called) other,
          refl,
        ))
        in
        inputs (function_in_text tree name) its.function its.above its.there ∙ ap (λ m. Some m) many

    takes_all : (f : Symbol) (os : List (Operand Symbol)) (at : ℕ) → IsRight (invoke_at at f)
        → IsFull (call f (length os)) → Takes names (place f) (length (map new.operand os) + 1)
    takes_all f os at right full =
        subst (λ m. Takes names (place f) (m + 1)) (sym (length-map os new.operand)) (takes f (length os) at right full)

    parts : (xs ys : List (Piece Symbol)) → AllByRecursion IsRight (flat_map uses_of_piece (xs ++ ys))
        → AllByRecursion IsRight (flat_map uses_of_piece xs) × AllByRecursion IsRight (flat_map uses_of_piece ys)
    parts xs ys right =
        let all = subst (AllByRecursion IsRight) (flat_map-append uses_of_piece xs ys) right in (
          front IsRight (flat_map uses_of_piece xs) (flat_map uses_of_piece ys) all,
          back IsRight (flat_map uses_of_piece xs) (flat_map uses_of_piece ys) all,
        )

    tree_given : (t : trees.Tree Symbol) → AllByRecursion IsRight (flat_map uses_of_piece (trees.pieces_of t))
        → AllByRecursion IsFull (calls_in t) → IsGiven names (rename_tree new t)
    tree_given (trees.Load at negated o) right full = tt
    tree_given (trees.Reload t at negated o) right full =
        tree_given t (parts (trees.pieces_of t) (trees.piece at (actions.Load negated o) ∷ []) right).0 full
    tree_given (trees.Apply t at operator o) right full =
        tree_given t (parts (trees.pieces_of t) (trees.piece at (actions.Apply operator o) ∷ []) right).0 full
    tree_given (trees.Transform t at function) right full =
        tree_given t (parts (trees.pieces_of t) (trees.piece at (actions.Transform function) ∷ []) right).0 full
    tree_given (trees.Deferred t at operator u close) right full =
        let closing = trees.piece close actions.Close ∷ [] in
        let opened = trees.piece at (actions.Open operator) ∷ (trees.pieces_of u ++ closing) in
        let outer = parts (trees.pieces_of t) opened right in
        let inner = parts (trees.pieces_of u) closing outer.1 in (
          tree_given t outer.0 (front IsFull (calls_in t) (calls_in u) full),
          tree_given u inner.0 (back IsFull (calls_in t) (calls_in u) full),
        )
    tree_given (trees.Call t at f os) right full =
        let its = parts (trees.pieces_of t) (trees.call_pieces at f os) right in
        let last = back IsFull (calls_in t) (call f (length os) ∷ []) full in (
          tree_given t its.0 (front IsFull (calls_in t) (call f (length os) ∷ []) full),
          takes_all f os at its.1.0 last.0,
        )

    gives_all : (label : Name → ℕ) (at : ℕ) (instruction : Option (Instruction Symbol Name))
        → AllByRecursion IsRight (option_map_or (uses_of_instruction at) instruction [])
        → AllByRecursion IsFull (option_map_or calls_by instruction [])
        → GivesAll names (option_map (rename new label) instruction)
    gives_all label at (Some (instructions.Deferred operator t close)) right full = tree_given t right full
    gives_all label at (Some (instructions.Invoke f os)) right full = takes_all f os at right.0 full.0
    gives_all label at _ right full = tt

    lines_give : (label : Name → ℕ) (lines : List (Line Symbol Name))
        → AllByRecursion IsRight (flat_map uses_in lines) → AllByRecursion IsFull (calls_of lines)
        → AllByRecursion (λ line. GivesAll names line.instruction) (renamed tree all_slots all_blocks i label lines)
    lines_give label [] right full = tt
    lines_give label (line ∷ lines) right full = (
      gives_all label line.at line.instruction (front IsRight (uses_in line) (flat_map uses_in lines) right)
          (front IsFull (calls_of_line line) (calls_of lines) full),
      lines_give label lines (back IsRight (uses_in line) (flat_map uses_in lines) right)
          (back IsFull (calls_of_line line) (calls_of lines) full),
    )

    instance_has : AreSorted p.program.lines
        → AllByRecursion (HasUse names) (flat_map uses_in (planned_instance tree all_slots all_blocks i).lines)
    instance_has sorted =
        lines_have (label_number tree.text p.program.lines) p.program.lines (all_right sorted)

    instance_gives : AreSorted p.program.lines
        → AllByRecursion (λ line. GivesAll names line.instruction)
        (planned_instance tree all_slots all_blocks i).lines
    instance_gives sorted =
        lines_give (label_number tree.text p.program.lines) p.program.lines (all_right sorted) all_full

  -- ---- all of them

  abbrev Among : List NamedProgram → ℕ → Type 0
  Among js m = (k : ℕ) (j : NamedProgram) → slice_get js k ≡ Some j → slice_get is (m + k) ≡ Some j

  among_later : (j : NamedProgram) (js : List NamedProgram) (m : ℕ) → Among (j ∷ js) m → Among js (m + 1)
  among_later j js m among k x e =
      let next : m + 1 + k ≡ m + suc k = omega arith in ap (slice_get is) next ∙ among (suc k) x e

  sorted_parts : (j : NamedProgram) (js : List NamedProgram) → AreSorted (lines_of (j ∷ js))
      → AreSorted j.program.program.lines × AreSorted (lines_of js)
  sorted_parts j js sorted =
      let own = j.program.program.lines in
      let all = subst (AllByRecursion MayBeUsed) (flat_map-append uses_in own (lines_of js)) sorted in (
        front MayBeUsed (flat_map uses_in own) (flat_map uses_in (lines_of js)) all,
        back MayBeUsed (flat_map uses_in own) (flat_map uses_in (lines_of js)) all,
      )

  instances_have : (js : List NamedProgram) (m : ℕ) → Among js m → AllByRecursion (IsOfText tree) js
      → AllByRecursion HasInputs js → AreSorted (lines_of js)
      → AllByRecursion (HasUse names) (flat_map uses_in (planned tree all_slots all_blocks js))
  instances_have [] m among of_text inputs sorted = tt
  instances_have (j ∷ js) m among of_text inputs sorted =
      let mine = (planned_instance tree all_slots all_blocks j).lines in
      let others = planned tree all_slots all_blocks js in
      let its = sorted_parts j js sorted in
      subst (AllByRecursion (HasUse names)) (sym (flat_map-append uses_in mine others))
      (both (HasUse names) (flat_map uses_in mine) (flat_map uses_in others)
      (instance_has (m + 0) j (among 0 j refl) of_text.0 inputs.0 its.0)
      (instances_have js (m + 1) (among_later j js m among) of_text.1 inputs.1 its.1))

  instances_give : (js : List NamedProgram) (m : ℕ) → Among js m → AllByRecursion (IsOfText tree) js
      → AllByRecursion HasInputs js → AreSorted (lines_of js)
      → AllByRecursion (λ line. GivesAll names line.instruction) (planned tree all_slots all_blocks js)
  instances_give [] m among of_text inputs sorted = tt
  instances_give (j ∷ js) m among of_text inputs sorted =
      let its = sorted_parts j js sorted in
      both (λ (line : Line Place ℕ). GivesAll names line.instruction)
      (planned_instance tree all_slots all_blocks j).lines (planned tree all_slots all_blocks js)
      (instance_gives (m + 0) j (among 0 j refl) of_text.0 inputs.0 its.0)
      (instances_give js (m + 1) (among_later j js m among) of_text.1 inputs.1 its.1)

  pub all_lines_named : AllByRecursion (IsOfText tree) is → AllByRecursion HasInputs is → AreShallow (lines_of is)
      → AreSorted (lines_of is) → AreLinesOf names (all_lines (planned_instances tree is))
  all_lines_named of_text inputs shallow sorted =
      let among : Among is 0 = λ k j e. let f : 0 + k ≡ k = omega arith in ap (slice_get is) f ∙ e in
      record {
        named = instances_have is 0 among of_text inputs sorted;
        given = instances_give is 0 among of_text inputs sorted;
        shallow = all_shallow tree all_slots all_blocks is shallow;
      }
