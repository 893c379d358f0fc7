-- Which functions lines call: what one of them adds, and one after another.
use Rattle.std.proofs.Common.{◌≡◌, ℕ, zero, suc, ◌+◌, ◌<◌, ◌≤◌, List, [], ◌∷◌, ◌++◌, length, refl, sym, ap, ◌∙◌}
use Rattle.std.proofs.Common.{subst, arith, cond, drop-cons, Bool, true, false, ◌||◌, get_or, take, replicate, map}
use Rattle.std.specs.Prelude.{flat_map, Option, Some, None, ◌==◌, ◌&&◌, nat_lt, drop, is_some}
use Rattle.std.specs.List.{list_any}
use Rattle.std.specs.Option.{option_map_or, option_and_then}
use Rattle.std.proofs.lemmas.Bool.Decides.{nat_tests}
use Rattle.std.proofs.lemmas.List.{take_more, append-nil, drop_all, get_or_default, get_or-replicate, length-replicate}
use Rattle.std.proofs.lemmas.List.Elements.{filter_map-append}
use Rattle.std.proofs.lemmas.List.Folds.{list_any-append}
use Rattle.std.proofs.lemmas.Grind.{flat_map-append}
use Rattle.ilsource.specs.declared.arguments.Argument.{Argument}
use Rattle.ilsource.specs.declared.instruction.Instruction.{Instruction}
use Rattle.ilsource.specs.declared.instruction.Instruction.TheVariants as instructions
use Rattle.ilsource.specs.declared.instruction.Line.{Line}
use Rattle.ilsource.specs.declared.nested.Action.{Action}
use Rattle.ilsource.specs.declared.nested.Action.TheVariants as actions
use Rattle.ilsource.specs.declared.nested.Piece.{Piece}
use Rattle.ilsource.specs.declared.operand.Operand.{Operand}
use Rattle.ilsource.specs.declared.uses.Use.{Use}
use Rattle.ilsource.specs.Trees.{pieces_of}
use Rattle.ilsource.specs.Uses.{invoke_at, read_at, uses_in, uses_of, uses_of_action, uses_of_argument, uses_of_piece}
use Rattle.ilplan.specs.declared.place.Place.{Place}
use Rattle.ilplan.specs.declared.place.Place.TheVariants as places
use Rattle.ilplan.specs.Functions.{PlannedFunction, calls, function_used, functions_in, invokes, is_number, those_in}
use Rattle.ilplan.specs.Functions.{used_from}
use Rattle.ilplan.specs.Plans.{PlannedInstance, all_lines}
use Rattle.ilplan.specs.UsageSteps.{AreAdded, AreFound, callee_by, callee_in, pieces_by, pieces_in}

or_none : (b : Bool) → (b || false) ≡ b
or_none true = refl
or_none false = refl

and_none : (b : Bool) → (b && false) ≡ false
and_none true = refl
and_none false = refl

or_assoc : (a b c : Bool) → ((a || b) || c) ≡ (a || (b || c))
or_assoc true b c = refl
or_assoc false b c = refl

-- ---- one after another

spread : (w a b : Bool) → ((w && a) || (w && b)) ≡ (w && (a || b))
spread true a b = refl
spread false a b = refl

pub none_added : (below : ℕ) (called : ℕ → Bool) (used : List Bool) → ((n : ℕ) → called n ≡ false)
    → AreAdded below called used used
none_added below called used none =
    record {
      many = refl;
      each = λ n within.
          sym (ap (λ b. get_or used n false || (nat_lt n below && b)) (none n)
          ∙ ap (λ b. get_or used n false || b) (and_none (nat_lt n below)) ∙ or_none (get_or used n false));
    }

pub both_added : (below : ℕ) (one other both : ℕ → Bool) (a b c : List Bool)
    → ((n : ℕ) → both n ≡ (one n || other n)) → AreAdded below one a b → AreAdded below other b c
    → AreAdded below both a c
both_added below one other both a b c is first second =
    record {
      many = second.many ∙ first.many;
      each = λ n within.
          let there : n < length b = subst (λ m. n < m) (sym first.many) within in
          let w = nat_lt n below in
          second.each n there ∙ ap (λ x. x || (w && other n)) (first.each n within)
          ∙ or_assoc (get_or a n false) (w && one n) (w && other n)
          ∙ ap (λ x. get_or a n false || x) (spread w (one n) (other n) ∙ ap (λ x. w && x) (sym (is n)));
    }

pub same_added : (below : ℕ) (one other : ℕ → Bool) (a b : List Bool) → ((n : ℕ) → other n ≡ one n)
    → AreAdded below one a b → AreAdded below other a b
same_added below one other a b is added =
    record {
      many = added.many;
      each = λ n within.
          added.each n within ∙ ap (λ x. get_or a n false || (nat_lt n below && x)) (sym (is n));
    }

-- what some uses and others invoke
pub invokes_both : (one other : List (Use Place)) (n : ℕ)
    → invokes (one ++ other) n ≡ (invokes one n || invokes other n)
invokes_both one other n =
    ap (list_any (λ m. m == n)) (filter_map-append function_used one other)
    ∙ list_any-append (λ m. m == n) (functions_in one) (functions_in other)

-- one element of a list more
pub one_more_added : {X : Type 0} (below : ℕ) (uses : X → List (Use Place)) (xs : List X) (i : ℕ) (x : X)
    (a b c : List Bool) → i < length xs → x ≡ get_or xs i x
    → AreAdded below (invokes (flat_map uses (take i xs))) a b → AreAdded below (invokes (uses x)) b c
    → AreAdded below (invokes (flat_map uses (take (i + 1) xs))) a c
one_more_added {X} below uses xs i x a b c within is first second =
    let before = take i xs in
    let one : uses x ++ [] ≡ uses x = append-nil (uses x) in
    let more = take_more xs i x within ∙ ap (λ (y : X). before ++ y ∷ []) (sym is) in
    let all = ap (λ (ys : List X). flat_map uses ys) more ∙ flat_map-append uses before (x ∷ [])
    ∙ ap (λ us. flat_map uses before ++ us) one in
    both_added below (invokes (flat_map uses before)) (invokes (uses x)) (invokes (flat_map uses (take (i + 1) xs))) a b c
    (λ n. ap (λ us. invokes us n) all ∙ invokes_both (flat_map uses before) (uses x) n) first second

-- ---- what a line calls

named_alone : (at : ℕ) (f : Place) (n : ℕ) → invokes (invoke_at at f ∷ []) n ≡ is_number f n
named_alone at (places.Slot slot) n = refl
named_alone at (places.Port block port) n = refl
named_alone at (places.Block block) n = refl
named_alone at (places.Function number) n = or_none (number == n)

operands_call_none : (at : ℕ) (os : List (Operand Place)) (n : ℕ) → invokes (map (read_at at) os) n ≡ false
operands_call_none at [] n = refl
operands_call_none at (o ∷ os) n = operands_call_none at os n

arguments_call_none : (at : ℕ) (xs : List (Argument Place)) (n : ℕ)
    → invokes (flat_map (uses_of_argument at) xs) n ≡ false
arguments_call_none at [] n = refl
arguments_call_none at (x ∷ xs) n = arguments_call_none at xs n

-- the function that an instruction calls, and each operand
pub invoke_calls : (at : ℕ) (f : Place) (os : List (Operand Place)) (n : ℕ)
    → invokes (uses_of {L = ℕ} at (instructions.Invoke f os)) n ≡ is_number f n
invoke_calls at f os n =
    invokes_both (invoke_at at f ∷ []) (map (read_at at) os) n
    ∙ ap (λ b. invokes (invoke_at at f ∷ []) n || b) (operands_call_none at os n)
    ∙ or_none (invokes (invoke_at at f ∷ []) n) ∙ named_alone at f n

-- what a line calls: in its parentheses, or itself
pub line_calls : (line : Line Place ℕ) (n : ℕ)
    → invokes (uses_in line) n
    ≡ (invokes (flat_map uses_of_piece (pieces_in line)) n || option_map_or (λ f. is_number f n) (callee_in line) false)
line_calls line n = by line.instruction
  where
    by_one : (i : Instruction Place ℕ)
        → invokes (uses_of line.at i) n
        ≡ (invokes (flat_map uses_of_piece (pieces_by i)) n || option_map_or (λ f. is_number f n) (callee_by i) false)
    by_one (instructions.Load negated o) = refl
    by_one (instructions.Apply operator o) = refl
    by_one (instructions.Deferred operator t close) =
        sym (or_none (invokes (flat_map uses_of_piece (pieces_of t)) n))
    by_one (instructions.Transform function) = refl
    by_one (instructions.Limit low high) = refl
    by_one (instructions.Store negated place) = refl
    by_one (instructions.Set place) = refl
    by_one (instructions.Reset place) = refl
    by_one (instructions.Jump condition label) = refl
    by_one (instructions.Return condition) = refl
    by_one (instructions.Call condition place xs) = arguments_call_none line.at xs n
    by_one (instructions.Invoke f os) = invoke_calls line.at f os n

    by : (i : Option (Instruction Place ℕ))
        → invokes (option_map_or (uses_of line.at) i []) n
        ≡ (invokes (flat_map uses_of_piece (option_map_or pieces_by i [])) n
        || option_map_or (λ f. is_number f n) (option_and_then callee_by i) false)
    by None = refl
    by (Some i) = by_one i

-- what a line adds: what its pieces do, and the function that it calls, if it calls one
pub callee_added : (below : ℕ) (line : Line Place ℕ) (f : Place) (a b c : List Bool) → Some f ≡ callee_in line
    → AreAdded below (invokes (flat_map uses_of_piece (pieces_in line))) a b → AreAdded below (is_number f) b c
    → AreAdded below (invokes (uses_in line)) a c
callee_added below line f a b c is first second =
    both_added below (invokes (flat_map uses_of_piece (pieces_in line))) (is_number f) (invokes (uses_in line)) a b c
    (λ n. line_calls line n
    ∙ ap
    (λ o. invokes (flat_map uses_of_piece (pieces_in line)) n || option_map_or (λ g. is_number g n) o false) (sym is))
    first second

pub no_callee_added : (below : ℕ) (line : Line Place ℕ) (a b : List Bool) → None ≡ callee_in line
    → AreAdded below (invokes (flat_map uses_of_piece (pieces_in line))) a b → AreAdded below (invokes (uses_in line)) a b
no_callee_added below line a b is first =
    same_added below (invokes (flat_map uses_of_piece (pieces_in line))) (invokes (uses_in line)) a b
    (λ n. line_calls line n
    ∙ (ap
    (λ o. invokes (flat_map uses_of_piece (pieces_in line)) n || option_map_or (λ g. is_number g n) o false) (sym is)
    ∙ or_none (invokes (flat_map uses_of_piece (pieces_in line)) n)))
    first

-- ---- pieces

-- the function that the first piece of a call hands to
abbrev pub handed_to : Action Place → Option Place
handed_to (actions.Hand f) = Some f
handed_to action = None

pub piece_calls : (p : Piece Place) (n : ℕ)
    → invokes (uses_of_piece p) n ≡ option_map_or (λ f. is_number f n) (handed_to p.action) false
piece_calls p n = by p.at p.action
  where
    by : (at : ℕ) (action : Action Place)
        → invokes (uses_of_action at action) n ≡ option_map_or (λ f. is_number f n) (handed_to action) false
    by at (actions.Load negated o) = refl
    by at (actions.Apply operator o) = refl
    by at (actions.Transform function) = refl
    by at (actions.Open operator) = refl
    by at actions.Close = refl
    by at (actions.Hand f) = named_alone at f n
    by at (actions.Give f number o) = refl
    by at (actions.Invoke f) = refl

-- ---- all instances

-- the lines of one instance more
pub instance_added : (below : ℕ) (instances : List PlannedInstance) (i : ℕ) (p : PlannedInstance) (a b c : List Bool)
    → i < length instances → p ≡ get_or instances i p → AreAdded below (calls (all_lines (take i instances))) a b
    → AreAdded below (calls p.lines) b c → AreAdded below (calls (all_lines (take (i + 1) instances))) a c
instance_added below instances i p a b c within is first second =
    let lines = λ (q : PlannedInstance). q.lines in
    let before = take i instances in
    let more = take_more instances i p within ∙ ap (λ (q : PlannedInstance). before ++ q ∷ []) (sym is) in
    let uses = ap (λ (ps : List PlannedInstance). flat_map uses_in (all_lines ps)) more
    ∙ ap (λ ls. flat_map uses_in ls) (flat_map-append lines before (p ∷ []))
    ∙ ap (λ ls. flat_map uses_in (all_lines before ++ ls)) (append-nil p.lines)
    ∙ flat_map-append uses_in (all_lines before) p.lines in
    both_added below (calls (all_lines before)) (calls p.lines) (calls (all_lines (take (i + 1) instances))) a b c
    (λ n. ap (λ us. invokes us n) uses
    ∙ invokes_both (flat_map uses_in (all_lines before)) (flat_map uses_in p.lines) n) first second

-- ---- from the last function to the first

-- lists that are alike from a place on
drops_alike : (xs ys : List Bool) (k : ℕ) → length xs ≡ length ys
    → ((n : ℕ) → k ≤ n → n < length ys → get_or xs n false ≡ get_or ys n false) → drop k xs ≡ drop k ys
drops_alike [] [] k e same = refl
drops_alike [] (y ∷ ys) k e same = absurd (omega arith)
drops_alike (x ∷ xs) [] k e same = absurd (omega arith)
drops_alike (x ∷ xs) (y ∷ ys) zero e same =
    let first : x ≡ y = same 0 (omega arith) (omega arith) in
    ap (λ z. z ∷ xs) first
    ∙ ap (λ zs. y ∷ zs)
    (drops_alike xs ys 0 (omega arith) (λ n le lt. same (suc n) (omega arith) (omega arith)))
drops_alike (x ∷ xs) (y ∷ ys) (suc k) e same =
    drops_alike xs ys k (omega arith) (λ n le lt. same (suc n) (omega arith) (omega arith))

-- at first nothing is known but what the lines call
pub first_found : (lines : List (Line Place ℕ)) (functions : List PlannedFunction) (used : List Bool)
    → AreAdded (length functions) (calls lines) (replicate (length functions) false) used
    → AreFound lines functions (length functions) used
first_found lines functions used added =
    let long = length-replicate (length functions) false in
    let many : length used ≡ length functions = added.many ∙ long in
    let none = drop_all (length functions) functions (omega arith) in
    record {
      many = many;
      found = drop_all (length functions) used (omega arith)
          ∙ sym (ap (λ fs. map is_some (used_from lines (length functions) fs)) none);
      called = λ n lt within.
          let w : nat_lt n (length functions) ≡ true = grind (arith, nat_tests) in
          added.each n (omega arith)
          ∙ ap (λ b. b || (nat_lt n (length functions) && calls lines n))
          (get_or-replicate (length functions) n false false within)
          ∙ ap (λ b. b && calls lines n) w
          ∙ sym (ap
          (λ fs. calls lines n || list_any (λ g. calls g.lines n) (those_in (used_from lines (length functions) fs)))
          none
          ∙ or_none (calls lines n));
    }

module _ (lines : List (Line Place ℕ)) (functions : List PlannedFunction) (i : ℕ) (f : PlannedFunction)
    (within : i < length functions) (is : f ≡ get_or functions i f) (used : List Bool)
    (h : AreFound lines functions (i + 1) used) where
  abbrev later : List (Option PlannedFunction)
  later = used_from lines (i + 1) (drop (i + 1) functions)

  here : drop i functions ≡ f ∷ drop (i + 1) functions
  here =
      let z : suc i ≡ i + 1 = omega arith in
      drop-cons functions i f within ∙ (ap (λ y. y ∷ drop (suc i) functions) (sym is) ∙ ap (λ n. f ∷ drop n functions) z)

  -- whether the function is used, as it is known when it is met
  abbrev is_used : Bool
  is_used = calls lines i || list_any (λ g. calls g.lines i) (those_in later)

  used_here : (d : Bool) → get_or used i d ≡ is_used
  used_here d =
      let many = h.many in
      let lt : i < i + 1 = omega arith in
      get_or_default used i d false (omega arith) ∙ h.called i lt within

  all_from : (b : Bool) → is_used ≡ b → used_from lines i (drop i functions) ≡ cond b (Some f) None ∷ later
  all_from b e = ap (used_from lines i) here ∙ ap (λ x. cond x (Some f) None ∷ later) e

  found_here : (after : List Bool) (b : Bool) → is_used ≡ b → length after ≡ length functions
      → get_or after i false ≡ b → drop (i + 1) after ≡ drop (i + 1) used
      → drop i after ≡ map is_some (used_from lines i (drop i functions))
  found_here after b e long mine same =
      let z : suc i ≡ i + 1 = omega arith in
      drop-cons after i false (omega arith)
      ∙ (ap (λ x. x ∷ drop (suc i) after) mine
      ∙ (ap (λ n. b ∷ drop n after) z
      ∙ (ap (λ bs. b ∷ bs) (same ∙ h.found)
      ∙ (by b ∙ sym (ap (map is_some) (all_from b e))))))
    where
      by : (b : Bool) → (b ∷ map is_some later) ≡ map is_some (cond b (Some f) None ∷ later)
      by true = refl
      by false = refl

  -- one that is not used adds nothing
  pub not_used : get_or used i false ≡ false → AreFound lines functions i used
  not_used isnt =
      let e : is_used ≡ false = sym (used_here false) ∙ isnt in
      record {
        many = h.many;
        found = found_here used false e h.many isnt refl;
        called = λ n lt there.
            h.called n (omega arith) there
            ∙ sym (ap (λ fs. calls lines n || list_any (λ g. calls g.lines n) (those_in fs)) (all_from false e));
      }

  -- one that is adds what it calls, of those before it
  pub is_used_too : (after : List Bool) → get_or used i false ≡ true → AreAdded i (calls f.lines) used after
      → AreFound lines functions i after
  is_used_too after used_one added =
      let e : is_used ≡ true = sym (used_here false) ∙ used_one in
      let many = h.many in
      let long : length after ≡ length functions = added.many ∙ h.many in
      record {
        many = long;
        found = found_here after true e long (kept i (omega arith) (omega arith) ∙ used_one) rest;
        called = λ n lt there.
            let w : nat_lt n i ≡ true = grind (arith, nat_tests) in
            added.each n (omega arith)
            ∙ ap (λ b. get_or used n false || (b && calls f.lines n)) w
            ∙ ap (λ b. b || calls f.lines n) (h.called n (omega arith) there)
            ∙ swapped (calls lines n) (list_any (λ g. calls g.lines n) (those_in later)) (calls f.lines n)
            ∙ sym (ap (λ fs. calls lines n || list_any (λ g. calls g.lines n) (those_in fs)) (all_from true e));
      }
    where
      -- from the function on nothing changes
      kept : (n : ℕ) → i ≤ n → n < length functions → get_or after n false ≡ get_or used n false
      kept n le lt =
          let many = h.many in
          let w : nat_lt n i ≡ false = grind (arith, nat_tests) in
          added.each n (omega arith) ∙ ap (λ b. get_or used n false || (b && calls f.lines n)) w
          ∙ or_none (get_or used n false)

      rest : drop (i + 1) after ≡ drop (i + 1) used
      rest =
          let many = h.many in
          drops_alike after used (i + 1) (added.many)
          (λ n le lt. kept n (omega arith) (omega arith))

      swapped : (a b c : Bool) → ((a || b) || c) ≡ (a || (c || b))
      swapped true b c = refl
      swapped false true true = refl
      swapped false true false = refl
      swapped false false true = refl
      swapped false false false = refl
