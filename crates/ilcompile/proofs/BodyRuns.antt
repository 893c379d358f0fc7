-- The calls of a function give what its body means, where those of the functions before it do.
use Rattle.std.proofs.Common.{◌≡◌, ℕ, ◌+◌, ◌<◌, ◌≤◌, List, [], ◌∷◌, ◌++◌, length, map, Bool, true, false, cond}
use Rattle.std.proofs.Common.{Option, Some, None, refl, sym, ap, ◌∙◌, subst, arith, length-append}
use Rattle.std.specs.Prelude.{slice_get, ◌==◌, ◌&&◌, ◌||◌, nat_lt}
use Rattle.std.specs.Option.{option_and_then}
use Rattle.std.proofs.lemmas.Bool.Decides.{nat_tests}
use Rattle.std.proofs.lemmas.List.{length-map}
use Rattle.limits.specs.Limits.{most_calls}
use Rattle.iltypes.specs.declared.value.IlType.{IlType}
use Rattle.iltypes.specs.declared.value.Value.{Value}
use Rattle.iltypes.specs.Slots.{is_of}
use Rattle.ilsource.specs.declared.operand.Operand.{Operand}
use Rattle.ilsource.specs.declared.operand.Operand.TheVariants.{Name, Constant}
use Rattle.ilsource.specs.Functions.{FunctionMeaning, are_of, variables_alone, given_by}
use Rattle.ilsource.specs.Meaning.{Access, On, joined}
use Rattle.ilsource.specs.Passes.{passes}
use Rattle.ilblocks.specs.Stores.{Store}
use Rattle.ilplan.specs.declared.place.Place.{Place}
use Rattle.ilplan.specs.declared.place.Place.TheVariants as places
use Rattle.ilplan.specs.Functions.{PlannedFunction, function_types, slots_of_function, starting_values}
use Rattle.ilplan.specs.Functions.{words_of_function}
use Rattle.ilplan.specs.PlanMeaning.{body_shape, function_value, number_same, places_of}
use Rattle.ilplan.specs.Plans.{Nameable, Takes, in_body, inputs_of}
use Rattle.ilcode.specs.declared.function.FunctionBody.{FunctionBody}
use Rattle.ilcode.specs.declared.nesting.Opened.{Opened}
use Rattle.ilcode.specs.declared.word.Word.{Word}
use Rattle.ilcode.specs.Listings.{Listing, end_of, result_slot}
use Rattle.ilcode.specs.Steps.{Configuration, OpenCall, at, is_target, landed}
use Rattle.ilcode.specs.Steps.{left_by, open_call, value_of}
use Rattle.ilcompile.specs.declared.numbers.Placed.{Placed}
use Rattle.ilcompile.specs.Layout.{Numbers, body_at, constant_number, numbers_of, operand_of, placed, words_of_body}
use Rattle.ilcompile.specs.Layout.{words_of_lines, words_of_values}
use Rattle.ilcompile.proofs.Named.{IsFit}
use Rattle.ilcompile.proofs.Sizes.{types_long, values_words_long}
use Rattle.ilcompile.proofs.Stands.{Each, HasWords, words_front, words_back}
use Rattle.ilcompile.proofs.Slots.{Holds, holds_back, holds_both, there}
use Rattle.ilcompile.proofs.Reaches.{Reaches, Region, in_body as region_in, reaches_then, reaches_as, stuck_later}
use Rattle.ilcompile.proofs.Shows.{Shows, Served, Callee, Returns, Kept, kept_all, kept_wider, input_types}
use Rattle.ilcompile.proofs.Gives.{filled, Fills, AllGood, GiveWords, all_values, gives_run}
use Rattle.ilcompile.proofs.LineRuns.{Passes, lines_run}
use Rattle.ilcompile.proofs.Seen.{Seen, shows_body}

are_of_both : (ts us : List IlType) (vs ws : List Value) → length vs ≡ length ts
    → are_of (ts ++ us) (vs ++ ws) ≡ (are_of ts vs && are_of us ws)
are_of_both [] us [] ws e = refl
are_of_both [] us (v ∷ vs) ws e = absurd (omega arith)
are_of_both (t ∷ ts) us [] ws e = absurd (omega arith)
are_of_both (t ∷ ts) us (v ∷ vs) ws e =
    ap (λ b. is_of t v && b) (are_of_both ts us vs ws (omega arith)) ∙ by (is_of t v)
  where
    by : (b : Bool) → (b && (are_of ts vs && are_of us ws)) ≡ ((b && are_of ts vs) && are_of us ws)
    by true = refl
    by false = refl

abbrev own_types : PlannedFunction → List IlType
own_types g = map (λ v. v.value_type) g.variables

-- a function that a body calls: it stands before, and is less deep
pub record Below (code : Listing) (functions : List (Option Placed)) (base first number depth j many : ℕ)
    (m : FunctionMeaning) : Type 0 where
  pub deep : ℕ
  pub function : PlannedFunction
  pub served : Served code functions base first j deep function m
  pub inputs : length function.inputs ≡ many
  pub before : served.stands.number < number
  pub less : deep + 1 ≤ depth

-- one function, where those that it calls are served
module _ (code : Listing) (functions : List (Option Placed)) (constants : List Value)
    (base first place number f depth : ℕ) (g : PlannedFunction) (known : List FunctionMeaning)
    (before : List PlannedFunction) (May : ℕ → Type 0) (in_table : constants ≡ code.constants)
    (is : slice_get code.functions number ≡ Some (body_at place first g))
    (is_placed : slice_get functions f ≡ Some (Some (placed number first)))
    (ends : end_of code (number + 1) ≡ place + words_of_function g)
    (lawful : (p q : ℕ) → place ≤ p → p < q → q ≤ end_of code (number + 1) → is_target code p q ≡ true)
    (typed : Holds code.slots first (function_types g)) (room : first + length (function_types g) ≤ length code.slots)
    (from : base ≤ first) (some : 1 ≤ depth) (has_result : 1 ≤ length g.variables)
    (has : HasWords code.instructions place (words_of_body (numbers_of constants first functions) place g))
    (starting : Each (λ v. slice_get constants (constant_number constants v) ≡ Some v) (starting_values g))
    (fits : Each (IsFit constants (in_body before g) May) g.lines)
    (below : (j many : ℕ) → May j → Takes (in_body before g) (places.Function j) many
    → Below code functions base first number depth j many (given_by known j)) where
  abbrev body : FunctionBody
  body = body_at place first g

  abbrev numbers : Numbers
  numbers = numbers_of constants first functions

  abbrev end : ℕ
  end = place + words_of_function g

  abbrev top : ℕ
  top = first + length (function_types g)

  abbrev many : ℕ
  many = length g.variables

  abbrev access : Access Place Store
  access = places_of (body_shape g) known

  abbrev names : Nameable
  names = in_body before g

  values_long : length (starting_values g) ≡ many
  values_long = length-map g.variables (λ v. v.initial)

  abbrev result : Store → Option Value
  result s = slice_get s.slots (length g.inputs)

  -- what is left of a store that may be none
  abbrev Ended : Option Store → Option Value
  Ended o = option_and_then result (option_and_then (passes number_same access g.lines On None) o)

  -- arguments of other types have no value
  strict : (vs : List Value) → length vs ≡ length g.inputs → are_of (input_types g) vs ≡ false
      → function_value known g vs ≡ None
  strict vs long e =
      let inputs_long = length-map g.inputs (λ i. i.value_type) in
      let q = are_of_both (input_types g) (own_types g) vs (starting_values g) (long ∙ sym inputs_long)
      ∙ ap (λ b. b && are_of (own_types g) (starting_values g)) e in
      ap (λ b. Ended (cond b (Some (variables_alone (vs ++ starting_values g))) None)) q

  module _ (outer : List OpenCall) (back : ℕ) (n : List Opened) (t : Store) (vs : List Value)
      (size_t : length t.slots ≡ length code.slots) (deep : length outer + depth ≤ most_calls)
      (long : length vs ≡ length g.inputs) (typed_vs : are_of (input_types g) vs ≡ true) (held : Holds t.slots first vs)
    where
      abbrev frames : List OpenCall
      frames = open_call number back n ∷ outer

      region : Region code frames place end
      region = subst (Region code frames place) ends (region_in code (open_call number back n) outer place lawful)

      abbrev c : Configuration
      c = at place t None [] frames

      -- what its lines call
      callees : (j arguments : ℕ) → May j → Takes names (places.Function j) arguments
          → Callee code functions base first frames j arguments (access.give (places.Function j))
      callees j arguments may takes =
          let b = below j arguments may takes in
          let lower = b.before in
          let less = b.less in
          let test : nat_lt (b.served.stands.number + 1) (number + 1) ≡ true = grind (arith, nat_tests) in
          record {
            depth = b.deep;
            function = b.function;
            served = b.served;
            inputs = b.inputs;
            callable = ap (λ x. ((number + 1) == 0) || x) test ∙ or_true ((number + 1) == 0);
            room = omega arith;
          }
        where
          or_true : (b : Bool) → (b || true) ≡ true
          or_true true = refl
          or_true false = refl

      abbrev Here : Store → Store → Type 0
      Here = Seen code first (length (function_types g)) base top t

      shows : Shows code numbers base first frames access Here names May
      shows =
          shows_body code numbers base first base top frames t (function_types g) (slots_of_function g) known
          (inputs_of before) May (sym (types_long g)) in_table typed room from (omega arith) (omega arith) (omega arith)
          (omega arith) callees

      -- ---- the starting values are given

      abbrev IsConstant : Operand Place → Type 0
      IsConstant o = (v : Value) × (o ≡ Constant v) × (slice_get constants (constant_number constants v) ≡ Some v)

      abbrev val : Operand Place → Option Value
      val (Name place) = None
      val (Constant v) = Some v

      abbrev as_operands : List Value → List (Operand Place)
      as_operands ws = map (λ v. Constant v) ws

      reads : (o : Operand Place) → IsConstant o → (u : Store) → Kept base top t u
          → value_of code u (operand_of numbers o) ≡ val o
      reads (Name place) h u same = absurd (let e = h.1 in cc)
      reads (Constant v) h u same =
          let e : v ≡ h.0 = (let q = h.1 in cc) in
          ap (λ cs. slice_get cs (constant_number constants v)) (sym in_table)
          ∙ subst (λ w. slice_get constants (constant_number constants w) ≡ Some w) (sym e) h.2

      all_constant : (ws : List Value) → Each (λ v. slice_get constants (constant_number constants v) ≡ Some v) ws
          → AllGood code frames place end region None [] (operand_of numbers) val IsConstant base top t reads
          (as_operands ws)
      all_constant [] h = tt
      all_constant (w ∷ ws) h = ((w, refl, h.0), all_constant ws h.1)

      values_same : (ws : List Value)
          → all_values code frames place end region None [] (operand_of numbers) val IsConstant base top t reads
          (as_operands ws) ≡ Some ws
      values_same [] = refl
      values_same (w ∷ ws) = ap (joined (Some w)) (values_same ws)

      given_words : (ws : List Value) (p slot : ℕ) → HasWords code.instructions p (words_of_values constants slot ws)
          → GiveWords code frames place end region None [] (operand_of numbers) val IsConstant base top t reads p slot
          (as_operands ws)
      given_words [] p slot h = tt
      given_words (w ∷ ws) p slot h = (h.0, given_words ws (p + 1) (slot + 1) h.2)

      abbrev slot : ℕ
      slot = first + length g.inputs

      abbrev giving : List Word
      giving = words_of_values constants slot (starting_values g)

      abbrev lines : List Word
      lines = words_of_lines numbers end (place + many) g.lines

      lines_part : HasWords code.instructions (place + many) lines
      lines_part =
          let z : place + length giving ≡ place + many =
          ap (λ x. place + x) (values_words_long constants slot (starting_values g) ∙ values_long) in
          subst (λ x. HasWords code.instructions x lines) z (words_back code.instructions place giving lines has)

      abbrev Goal : Option Value → Type 0
      Goal o = Returns code c base top back t n outer o

      -- what the body leaves is handed back
      handed : (s u : Store) (r : Option Value) → Here s u → Reaches code c (at end u r [] frames)
          → (o : Option Value) → result s ≡ o → Goal o
      handed s u r seen l None e =
          let m : length s.slots ≡ length (function_types g) = seen.many in
          let k = types_long g in
          let variables = has_result in
          let h = there s.slots (length g.inputs) (omega arith) in absurd (let q = h.1 in cc)
      handed s u r seen l (Some v) e =
          let m : length s.slots ≡ length (function_types g) = seen.many in
          let k = types_long g in
          let variables = has_result in
          let value : slice_get u.slots (first + length g.inputs) ≡ Some v =
          seen.held (length g.inputs) (omega arith) ∙ e in
          let left : left_by code u number ≡ Some v =
          ap (option_and_then (λ (b : FunctionBody). slice_get u.slots (result_slot b))) is ∙ value in
          let same : (end == end_of code (number + 1)) ≡ true = grind (arith, nat_tests) in
          let go = ap
          (λ b. cond b (landed code back u (left_by code u number) n outer) (Some (at end u r [] frames))) same
          ∙ ap (λ x. landed code back u x n outer) left in
          (u, seen.frame, reaches_as code c (at end u r [] frames) (at back u (Some v) n outer) go l)

      -- the initial values stand in their slots
      values_filled : Fills code frames place end region None [] c (place + many) slot many t
          (filled (own_types g) (Some (starting_values g)))
      values_filled =
          let k = types_long g in
          let m : length (as_operands (starting_values g)) ≡ many =
          length-map (starting_values g) (λ (v : Value). Constant v) ∙ values_long in
          let own : length (own_types g) ≡ many = length-map g.variables (λ v. v.value_type) in
          let inputs_long = length-map g.inputs (λ i. i.value_type) in
          let behind : Holds code.slots slot (own_types g) =
          subst (λ x. Holds code.slots (first + x) (own_types g)) inputs_long
          (holds_back code.slots first (input_types g) (own_types g) typed) in
          let run = gives_run code frames place end region None [] (operand_of numbers) val IsConstant base top t reads
          (as_operands (starting_values g)) (own_types g) place slot t (kept_all base top t)
          (all_constant (starting_values g) starting)
          (given_words (starting_values g) place slot (words_front code.instructions place giving lines has)) behind
          (m ∙ sym own) (omega arith) (omega arith) (omega arith) size_t (omega arith) (omega arith)
          (λ u lt. region.first u lt) in
          subst
          (λ x. Fills code frames place end region None [] c (place + x) slot x t
          (filled (own_types g) (Some (starting_values g)))) m
          (subst
          (λ o. Fills code frames place end region None [] c (place + length (as_operands (starting_values g))) slot
          (length (as_operands (starting_values g))) t (filled (own_types g) o)) (values_same (starting_values g)) run)

      by_lines : (d : Configuration) → Reaches code c d → (o : Option Store)
          → Passes code numbers base first frames access Here names May shows place end region (omega arith) d o
          → Goal (option_and_then result o)
      by_lines d l None h = stuck_later code c d l h
      by_lines d l (Some s) h =
          handed s h.0 h.1 h.2 (reaches_then code c d (at end h.0 h.1 [] frames) l h.3) (result s) refl

      -- the variables stand in the slots
      begins : (u : Store) → Holds u.slots slot (starting_values g) → Kept slot (slot + many) t u
          → Here (variables_alone (vs ++ starting_values g)) u
      begins u h same =
          let k = types_long g in
          let v = values_long in
          let both = length-append vs (starting_values g) in
          let z : first + length vs ≡ slot = omega arith in
          record {
            long = same.slots.long ∙ size_t;
            many = omega arith;
            held = holds_both u.slots first vs (starting_values g)
                (λ i lt. same.slots.below (first + i) (omega arith) ∙ held i lt)
                (subst (λ x. Holds u.slots x (starting_values g)) (sym z) h);
            frame = kept_wider slot (slot + many) base top t u (omega arith) (omega arith) same;
          }

      runs_by : (b : Bool) → are_of (own_types g) (starting_values g) ≡ b
          → Fills code frames place end region None [] c (place + many) slot many t (cond b (Some (starting_values
          g)) None)
          → Goal (Ended (cond b (Some (variables_alone (vs ++ starting_values g))) None))
      runs_by false e h = h
      runs_by true e h =
          let u = h.0 in
          let d = at (place + many) u None [] frames in
          let s = variables_alone (vs ++ starting_values g) in
          let run = lines_run code numbers base first frames access Here names May shows place end region (omega arith)
          g.lines (place + many) lines_part fits (omega arith) (omega arith) On None s u (begins u h.1 h.2) (λ e.
          refl) in
          by_lines d h.3 (passes number_same access g.lines On None s) run.2

      runs : Goal (function_value known g vs)
      runs =
          let inputs_long = length-map g.inputs (λ i. i.value_type) in
          let q = are_of_both (input_types g) (own_types g) vs (starting_values g) (long ∙ sym inputs_long)
          ∙ ap (λ b. b && are_of (own_types g) (starting_values g)) typed_vs in
          subst (λ b. Goal (Ended (cond b (Some (variables_alone (vs ++ starting_values g))) None))) (sym q)
          (runs_by (are_of (own_types g) (starting_values g)) refl values_filled)

  pub one_served : Served code functions base top f depth g (function_value known g)
  one_served =
      record {
        stands = placed number first;
        body = body;
        is_placed = is_placed;
        is = is;
        typed = typed;
        from = from;
        to = omega arith;
        some = some;
        strict = strict;
        runs = λ outer back n t vs size_t deep long typed_vs held. runs outer back n t vs size_t deep long typed_vs
            held;
      }

  pub one_number : one_served.stands.number ≡ number
  unfolding one_served
  one_number = refl
