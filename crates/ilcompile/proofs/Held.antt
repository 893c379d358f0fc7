-- What lines say are words that 32 bits hold, where a task's numbers are no greater than the limits.
use Rattle.std.proofs.Common.{◌≡◌, ℕ, ◌+◌, ◌<◌, ◌≤◌, ◌^◌, List, [], ◌∷◌, ◌++◌, length, map, Bool, true, false, cond}
use Rattle.std.proofs.Common.{Option, Some, None, subst, arith, refl, ◌||◌}
use Rattle.std.specs.Prelude.{IfSome, IsSomeAnd, IsTrue, ⊤, ◌==◌, flat_map, not, slice_get, take}
use Rattle.std.specs.List.{AllByRecursion, list_any}
use Rattle.std.specs.Option.{option_map_or}
use Rattle.std.proofs.lemmas.Grind.{flat_map-append}
use Rattle.std.proofs.lemmas.List.{length-take}
use Rattle.std.proofs.lemmas.List.Sums.{count_by-le-length}
use Rattle.std.proofs.lemmas.Option.{slice_get_within}
use Rattle.iltypes.specs.declared.value.Value.{Value}
use Rattle.iltypes.specs.Operators.{may_defer}
use Rattle.iltypes.specs.declared.condition.Condition.{Condition}
use Rattle.iltypes.specs.declared.condition.Condition.TheVariants.{Always, IfTrue, IfFalse}
use Rattle.ilsource.specs.declared.arguments.Argument.{Argument}
use Rattle.ilsource.specs.declared.instruction.Instruction.{Instruction}
use Rattle.ilsource.specs.declared.instruction.Instruction.TheVariants as instructions
use Rattle.ilsource.specs.declared.instruction.Line.{Line}
use Rattle.ilsource.specs.declared.nested.Action.{Action}
use Rattle.ilsource.specs.declared.nested.Action.TheVariants as actions
use Rattle.ilsource.specs.declared.nested.Piece.{Piece}
use Rattle.ilsource.specs.declared.operand.Operand.{Operand}
use Rattle.ilsource.specs.declared.operand.Operand.TheVariants.{Name, Constant}
use Rattle.ilsource.specs.declared.uses.Purpose.{Purpose}
use Rattle.ilsource.specs.declared.uses.Purpose.TheVariants.{Read, Write, Call as Called, Pass, Invoke}
use Rattle.ilsource.specs.declared.uses.Use.{Use}
use Rattle.ilsource.specs.Passes.{has_label}
use Rattle.ilsource.specs.Trees.{Tree, Load, Reload, Apply, Transform, Deferred, Call, piece, pieces_of, give_pieces}
use Rattle.ilsource.specs.Trees.{call_pieces}
use Rattle.ilsource.specs.Uses.{read_at, uses_in, uses_of, uses_of_action, uses_of_argument, uses_of_piece}
use Rattle.ilsource.specs.Words.{MayDefer, IsShallow, AreShallow}
use Rattle.ilsource.specs.Words as counts
use Rattle.ilsource.specs.Places.{line_at}
use Rattle.ilblocks.specs.Ports.{ports_of}
use Rattle.ilblocks.specs.declared.kind.BlockKind.{BlockKind}
use Rattle.ilblocks.specs.declared.kind.BlockKind.TheVariants as kinds
use Rattle.ilplan.specs.Constants.{same_value, constant_in, AreAmong}
use Rattle.ilplan.specs.PlanMeaning.{number_same}
use Rattle.ilplan.specs.Plans.{PlannedInstance, Nameable, GivesAll, HasOperand, HasPlace, HasUse, IsGiven}
use Rattle.ilplan.specs.Plans.{Takes, all_lines}
use Rattle.ilplan.specs.declared.place.Place.{Place}
use Rattle.ilplan.specs.declared.place.Place.TheVariants as places
use Rattle.ilcode.specs.Words.{HasWord, IsNear, IsNearPort, IsNearTarget}
use Rattle.ilcode.specs.declared.word.Word.{Word}
use Rattle.ilcode.specs.declared.word.Word.TheVariants as words
use Rattle.ilcompile.specs.declared.numbers.Placed.{Placed}
use Rattle.ilcompile.specs.Layout.{Numbers, constant_number, number_of, operand_of, variable_of, jump_over}
use Rattle.ilcompile.specs.Layout.{place_in_code}
use Rattle.ilcompile.specs.Layout.{place_of_label, word_of, word_of_argument, words_in, words_of, words_of_lines}
use Rattle.ilcompile.specs.Layout.{programs_of, words_of_programs}
use Rattle.ilcompile.proofs.Sizes.{count_both, count_more}

-- ---- lists

module _ {X : Type 0} (P : X → Type 0) where
  pub both : (xs ys : List X) → AllByRecursion P xs → AllByRecursion P ys → AllByRecursion P (xs ++ ys)
  both [] ys h k = k
  both (x ∷ xs) ys h k = (h.0, both xs ys h.1 k)

  pub front : (xs ys : List X) → AllByRecursion P (xs ++ ys) → AllByRecursion P xs
  front [] ys h = tt
  front (x ∷ xs) ys h = (h.0, front xs ys h.1)

  pub back : (xs ys : List X) → AllByRecursion P (xs ++ ys) → AllByRecursion P ys
  back [] ys h = h
  back (x ∷ xs) ys h = back xs ys h.1

  -- of each of what makes them
  pub each : {Y : Type 0} (f : Y → List X) (ys : List Y) → AllByRecursion P (flat_map f ys)
      → AllByRecursion (λ y. AllByRecursion P (f y)) ys
  each f [] h = tt
  each f (y ∷ ys) h = (front (f y) (flat_map f ys) h, each f ys (back (f y) (flat_map f ys) h))

-- ---- what words can name

few_ports : (kind : BlockKind) → length (ports_of kind) ≤ 5
few_ports kinds.RTrig = omega arith
few_ports kinds.Ctu = omega arith
few_ports kinds.Ton = omega arith
few_ports kinds.GearLevel = omega arith
few_ports kinds.GearDo = omega arith
few_ports kinds.GearSet = omega arith
few_ports kinds.GearPair = omega arith
few_ports kinds.GearAsk = omega arith
few_ports kinds.GearRead = omega arith
few_ports kinds.DevDo = omega arith
few_ports kinds.DevScheme = omega arith
few_ports kinds.DevAsk = omega arith

-- a constant that is in the table has a number within it
pub number_within : (v : Value) (constants : List Value) → list_any (same_value v) constants ≡ true
    → constant_number constants v < length constants
number_within v [] e = absurd cc
number_within v (c ∷ constants) e = by (same_value v c) (number_within v constants) e
  where
    by : (b : Bool)
        → (list_any (same_value v) constants ≡ true → constant_number constants v < length constants)
        → (b || list_any (same_value v) constants) ≡ true
        → cond (not b) (1 + constant_number constants v) 0 < length (c ∷ constants)
    by true later h = omega arith
    by false later h = let lt = later h in omega arith

-- a word holds the number of a function that stands here, and those of so many slots
abbrev pub IsNearPlaced : Placed → ℕ → Type 0
IsNearPlaced p many = (p.number < 4096) × (p.first + many ≤ 4096)

abbrev pub AreWords : List Word → Type 0
AreWords ws = AllByRecursion HasWord ws

module _ (n : Numbers) where
  -- a variable or a port, as a word holds its numbers
  abbrev IsHeldPlace : Place → Type 0
  IsHeldPlace (places.Slot slot) = n.own + slot < 4096
  IsHeldPlace (places.Port block port) = IsNearPort port block
  IsHeldPlace (places.Block block) = ⊥
  IsHeldPlace (places.Function number) = ⊥

  -- a word holds what is named, which may stand there
  abbrev IsHeldAs : Purpose → Operand Place → Type 0
  IsHeldAs Read (Constant value) = constant_number n.constants value < 4096
  IsHeldAs Read (Name place) = IsHeldPlace place
  IsHeldAs Write (Constant value) = ⊤
  IsHeldAs Write (Name place) = IsHeldPlace place
  IsHeldAs Called (Name (places.Block block)) = block < 4096
  IsHeldAs Called operand = ⊥
  IsHeldAs Pass (Name (places.Port block port)) = IsNearPort port block
  IsHeldAs Pass operand = ⊥
  IsHeldAs Invoke operand = ⊤

  abbrev IsHeld : Use Place → Type 0
  IsHeld u = IsHeldAs u.purpose u.operand

  abbrev pub AreHeld : List (Use Place) → Type 0
  AreHeld uses = AllByRecursion IsHeld uses

  -- ---- what may be named

  module _ (names : Nameable) (few_constants : length n.constants ≤ 4096) (few_slots : n.own + names.slots ≤ 4096)
      (few_blocks : length names.kinds ≤ 256) where
    port_near : (block port : ℕ) (o : Option BlockKind) → slice_get names.kinds block ≡ o
        → IsSomeAnd o (λ kind. port < length (ports_of kind)) → IsNearPort port block
    port_near block port None e has = absurd has
    port_near block port (Some kind) e has =
        let few = few_ports kind in
        let within = slice_get_within names.kinds block kind e in
        (omega arith, omega arith)

    place_held : (place : Place) → HasPlace names place → IsHeldPlace place
    place_held (places.Slot slot) has = omega arith
    place_held (places.Port block port) has = port_near block port (slice_get names.kinds block) refl has
    place_held (places.Block block) has = absurd has
    place_held (places.Function number) has = absurd has

    operand_held : (purpose : Purpose) (o : Operand Place)
        → IfSome (constant_in o) (λ v. list_any (same_value v) n.constants ≡ true) → HasOperand names purpose o
        → IsHeldAs purpose o
    operand_held Read (Name place) among has = place_held place has
    operand_held Read (Constant value) among has =
        let within = number_within value n.constants among in omega arith
    operand_held Write (Name place) among has = place_held place has
    operand_held Write (Constant value) among has = tt
    operand_held Called (Name (places.Slot slot)) among has = absurd has
    operand_held Called (Name (places.Port block port)) among has = absurd has
    operand_held Called (Name (places.Block block)) among has = omega arith
    operand_held Called (Name (places.Function number)) among has = absurd has
    operand_held Called (Constant value) among has = absurd has
    operand_held Pass (Name (places.Slot slot)) among has = absurd has
    operand_held Pass (Name (places.Port block port)) among has =
        port_near block port (slice_get names.kinds block) refl has
    operand_held Pass (Name (places.Block block)) among has = absurd has
    operand_held Pass (Name (places.Function number)) among has = absurd has
    operand_held Pass (Constant value) among has = absurd has
    operand_held Invoke o among has = tt

    pub all_held : (uses : List (Use Place)) → AreAmong n.constants uses → AllByRecursion (HasUse names) uses
        → AreHeld uses
    all_held [] among has = tt
    all_held (u ∷ uses) among has =
        (operand_held u.purpose u.operand among.0 has.0, all_held uses among.1 has.1)

  -- ---- words

  operand_near : (o : Operand Place) → IsHeldAs Read o → IsNear (operand_of n o)
  operand_near (Name (places.Slot slot)) h = h
  operand_near (Name (places.Port block port)) h = h
  operand_near (Name (places.Block block)) h = absurd h
  operand_near (Name (places.Function number)) h = absurd h
  operand_near (Constant value) h = h

  target_near : (place : Place) → IsHeldPlace place → IsNearTarget (variable_of n place)
  target_near (places.Slot slot) h = h
  target_near (places.Port block port) h = h
  target_near (places.Block block) h = absurd h
  target_near (places.Function number) h = absurd h

  -- an operator is deferred that may be, and the function of a call stands near
  abbrev MayStand : Action Place → Type 0
  MayStand (actions.Open operator) = IsTrue (may_defer operator)
  MayStand (actions.Hand f) = (place_in_code n f).first < 4096
  MayStand (actions.Give f number o) = (place_in_code n f).first + number < 4096
  MayStand (actions.Invoke f) = (place_in_code n f).number < 4096
  MayStand action = ⊤

  abbrev PieceMay : Piece Place → Type 0
  PieceMay p = MayStand p.action

  give_may : (at : ℕ) (f : Place) (number : ℕ) (os : List (Operand Place))
      → (place_in_code n f).first + number + length os ≤ 4096 → AllByRecursion PieceMay (give_pieces at f number os)
  give_may at f number [] h = tt
  give_may at f number (o ∷ os) h = (omega arith, give_may at f (number + 1) os (omega arith))

  call_may : (at : ℕ) (f : Place) (os : List (Operand Place)) → IsNearPlaced (place_in_code n f) (length os + 1)
      → AllByRecursion PieceMay (call_pieces at f os)
  call_may at f os h =
      let first = h.1 in (
        omega arith,
        both PieceMay (give_pieces at f 1 os) (piece at (actions.Invoke f) ∷ []) (give_may at f 1 os (omega arith))
            (h.0, tt),
      )

  action_word : (at : ℕ) (action : Action Place) → AreHeld (uses_of_action at action) → MayStand action
      → HasWord (word_of n action)
  action_word at (actions.Load negated o) h may = operand_near o h.0
  action_word at (actions.Apply operator o) h may = operand_near o h.0
  action_word at (actions.Transform function) h may = tt
  action_word at (actions.Open operator) h may = may
  action_word at actions.Close h may = tt
  action_word at (actions.Hand f) h may = may
  action_word at (actions.Give f number o) h may = (operand_near o h.0, may)
  action_word at (actions.Invoke f) h may = may

  piece_words : (ps : List (Piece Place)) → AllByRecursion (λ p. AreHeld (uses_of_piece p)) ps
      → AllByRecursion PieceMay ps → AreWords (map (λ p. word_of n p.action) ps)
  piece_words [] h may = tt
  piece_words (p ∷ ps) h may = (action_word p.at p.action h.0 may.0, piece_words ps h.1 may.1)

  -- a call of a function uses its operands
  abbrev PieceHeld : Piece Place → Type 0
  PieceHeld p = AreHeld (uses_of_piece p)

  gives_held : (at here : ℕ) (f : Place) (number : ℕ) (os : List (Operand Place)) → AreHeld (map (read_at here) os)
      → AllByRecursion PieceHeld (give_pieces at f number os)
  gives_held at here f number [] h = tt
  gives_held at here f number (o ∷ os) h = ((h.0, tt), gives_held at here f (number + 1) os h.1)

  call_held : (at here : ℕ) (f : Place) (os : List (Operand Place)) → AreHeld (map (read_at here) os)
      → AllByRecursion PieceHeld (call_pieces at f os)
  call_held at here f os h = (
    (tt, tt),
    both PieceHeld (give_pieces at f 1 os) (piece at (actions.Invoke f) ∷ []) (gives_held at here f 1 os h) (tt, tt),
  )

  pass_word : (port : Place) (o : Operand Place) → IsHeldAs Pass (Name port) → IsHeldAs Read o
      → HasWord (word_of_argument n (record { port = port; operand = o }))
  pass_word (places.Slot slot) o h k = absurd h
  pass_word (places.Port block port) o h k = (h, operand_near o k)
  pass_word (places.Block block) o h k = absurd h
  pass_word (places.Function number) o h k = absurd h

  argument_words : (at : ℕ) (xs : List (Argument Place)) → AreHeld (flat_map (uses_of_argument at) xs)
      → AreWords (map (word_of_argument n) xs)
  argument_words at [] h = tt
  argument_words at (x ∷ xs) h = (pass_word x.port x.operand h.0 h.1.0, argument_words at xs h.1.1)

  called_word : (instance : Place) → IsHeldAs Called (Name instance) → HasWord (words.Call (number_of instance))
  called_word (places.Slot slot) h = absurd h
  called_word (places.Port block port) h = absurd h
  called_word (places.Block block) h = h
  called_word (places.Function number) h = absurd h

  -- a label is not past the lines
  label_within : (place : ℕ) (lines : List (Line Place ℕ)) (label : ℕ)
      → place_of_label place lines label ≤ place + counts.words_of_lines lines
  label_within place [] label = omega arith
  label_within place (line ∷ lines) label =
      let more = label_within (place + counts.words_in line) lines label in
      let counted = count_more line lines in
      by (has_label number_same label line.label) (omega arith)
    where
      by : (b : Bool) → place_of_label (place + counts.words_in line) lines label
          ≤ place + counts.words_of_lines (line ∷ lines)
          → cond b place (place_of_label (place + counts.words_in line) lines label)
          ≤ place + counts.words_of_lines (line ∷ lines)
      by true h = omega arith
      by false h = h

  -- what the lines call stands near
  module _ (names : Nameable)
      (near_calls : (f : Place) (many : ℕ) → Takes names f many → IsNearPlaced (place_in_code n f) many) where
    pieces_may : (t : Tree Place) → MayDefer t → IsGiven names t → AllByRecursion PieceMay (pieces_of t)
    pieces_may (Load at negated o) h g = (tt, tt)
    pieces_may (Reload t at negated o) h g =
        both PieceMay (pieces_of t) (piece at (actions.Load negated o) ∷ []) (pieces_may t h g) (tt, tt)
    pieces_may (Apply t at operator o) h g =
        both PieceMay (pieces_of t) (piece at (actions.Apply operator o) ∷ []) (pieces_may t h g) (tt, tt)
    pieces_may (Transform t at function) h g =
        both PieceMay (pieces_of t) (piece at (actions.Transform function) ∷ []) (pieces_may t h g) (tt, tt)
    pieces_may (Deferred t at operator u close) h g =
        both PieceMay (pieces_of t) (piece at (actions.Open operator) ∷ (pieces_of u ++ piece close actions.Close ∷ []))
        (pieces_may t h.0 g.0)
        (h.1, both PieceMay (pieces_of u) (piece close actions.Close ∷ []) (pieces_may u h.2 g.1) (tt, tt))
    pieces_may (Call t at f os) h g =
        both PieceMay (pieces_of t) (call_pieces at f os) (pieces_may t h g.0)
        (call_may at f os (near_calls f (length os + 1) g.1))

    -- the words of an instruction, whose jumps lead to near places
    module _ (end next : ℕ) (target : ℕ → ℕ) (near_end : end < 2 ^ 24) (near_next : next < 2 ^ 24)
        (near : (label : ℕ) → target label < 2 ^ 24) where
      over_words : (condition : Condition) → AreWords (jump_over next condition)
      over_words Always = tt
      over_words IfTrue = (near_next, tt)
      over_words IfFalse = (near_next, tt)

      instruction_words : (at : ℕ) (i : Option (Instruction Place ℕ)) → IsShallow i → GivesAll names i
          → AreHeld (option_map_or (uses_of at) i []) → AreWords (option_map_or (words_of n end next target) i [])
      instruction_words at None shallow given h = tt
      instruction_words at (Some (instructions.Load negated o)) shallow given h = (operand_near o h.0, tt)
      instruction_words at (Some (instructions.Apply operator o)) shallow given h = (operand_near o h.0, tt)
      instruction_words at (Some (instructions.Deferred operator t close)) shallow given h = (
        shallow.0,
        both HasWord (map (λ p. word_of n p.action) (pieces_of t)) (words.Close ∷ [])
            (piece_words (pieces_of t) (each IsHeld uses_of_piece (pieces_of t) h)
            (pieces_may t shallow.1 given))
            (tt, tt),
      )
      instruction_words at (Some (instructions.Transform function)) shallow given h = (tt, tt)
      instruction_words at (Some (instructions.Limit low high)) shallow given h =
          (operand_near low h.0, (operand_near high h.1.0, tt))
      instruction_words at (Some (instructions.Store negated place)) shallow given h = (target_near place h.0, tt)
      instruction_words at (Some (instructions.Set place)) shallow given h = (target_near place h.0, tt)
      instruction_words at (Some (instructions.Reset place)) shallow given h = (target_near place h.0, tt)
      instruction_words at (Some (instructions.Jump condition label)) shallow given h = (near label, tt)
      instruction_words at (Some (instructions.Return condition)) shallow given h = (near_end, tt)
      instruction_words at (Some (instructions.Call condition instance xs)) shallow given h =
          both HasWord (jump_over next condition)
          (map (word_of_argument n) xs ++ words.Call (number_of instance) ∷ []) (over_words condition)
          (both HasWord (map (word_of_argument n) xs) (words.Call (number_of instance) ∷ [])
          (argument_words at xs h.1) (called_word instance h.0, tt))
      instruction_words at (Some (instructions.Invoke f os)) shallow given h =
          piece_words (call_pieces 0 f os) (call_held 0 at f os h.1)
          (call_may 0 f os (near_calls f (length os + 1) given))

    -- ---- lines

    pub line_words : (lines : List (Line Place ℕ)) (place end : ℕ) → end ≤ 65536
        → place + counts.words_of_lines lines ≤ end → AreShallow lines
        → AllByRecursion (λ line. GivesAll names line.instruction) lines
        → AreHeld (flat_map uses_in lines) → AreWords (words_of_lines n end place lines)
    line_words [] place end few within shallow given h = tt
    line_words (line ∷ lines) place end few within shallow given h =
        let counted = count_more line lines in
        let next = place + counts.words_in line in
        let target = place_of_label next lines in
        both HasWord (words_in n end next target line) (words_of_lines n end next lines)
        (instruction_words end next target (omega arith) (omega arith)
        (λ label. let inside = label_within next lines label in omega arith) line.at line.instruction shallow.0 given.0
        (front IsHeld (uses_in line) (flat_map uses_in lines) h))
        (line_words lines next end few (omega arith) shallow.1 given.1
        (back IsHeld (uses_in line) (flat_map uses_in lines) h))

    shallow_front : (a b : List (Line Place ℕ)) → AreShallow (a ++ b) → AreShallow a
    shallow_front [] b h = tt
    shallow_front (line ∷ a) b h = (h.0, shallow_front a b h.1)

    shallow_back : (a b : List (Line Place ℕ)) → AreShallow (a ++ b) → AreShallow b
    shallow_back [] b h = h
    shallow_back (line ∷ a) b h = shallow_back a b h.1

    pub program_words : (instances : List PlannedInstance) (place : ℕ)
        → place + counts.words_of_lines (all_lines instances) ≤ 65536 → AreShallow (all_lines instances)
        → AllByRecursion (λ line. GivesAll names line.instruction) (all_lines instances)
        → AreHeld (flat_map uses_in (all_lines instances))
        → AreWords (words_of_programs n place (programs_of instances))
    program_words [] place few shallow given h = tt
    program_words (i ∷ instances) place few shallow given h =
        let counted = count_both i.lines (all_lines instances) in
        let end = place + counts.words_of_lines i.lines in
        let mine = flat_map uses_in i.lines in
        let others = flat_map uses_in (all_lines instances) in
        let parts = subst AreHeld (flat_map-append uses_in i.lines (all_lines instances)) h in
        both HasWord (words_of_lines n end place i.lines) (words_of_programs n end (programs_of instances))
        (line_words i.lines place end (omega arith) (omega arith)
        (shallow_front i.lines (all_lines instances) shallow)
        (front (λ line. GivesAll names line.instruction) i.lines (all_lines instances) given)
        (front IsHeld mine others parts))
        (program_words instances end (omega arith) (shallow_back i.lines (all_lines instances) shallow)
        (back (λ line. GivesAll names line.instruction) i.lines (all_lines instances) given)
        (back IsHeld mine others parts))

-- ---- lines of the text

pub line_numbers_small : (text : List ℕ) (places : List ℕ) → length text ≤ 1048576
    → AllByRecursion (λ line. line < 2 ^ 32) (map (line_at text) places)
line_numbers_small text [] short = tt
line_numbers_small text (at ∷ places) short =
    let feeds = count_by-le-length (λ (byte : ℕ). byte == 10) (take at text) in
    let many = length-take at text in
    (omega arith, line_numbers_small text places short)
