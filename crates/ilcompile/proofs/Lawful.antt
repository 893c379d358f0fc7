-- What is laid out for a task that keeps the limits has the shape of a code.
use Rattle.std.proofs.Common.{◌≡◌, ℕ, zero, suc, ◌+◌, ◌<◌, ◌≤◌, List, [], ◌∷◌, ◌++◌, length, length-append, get_or}
use Rattle.std.proofs.Common.{refl, sym, ap, ◌∙◌, arith, map, subst, Bool, true, false, ◌||◌, cond, Option}
use Rattle.std.proofs.Common.{Some, None}
use Rattle.std.specs.Prelude.{All, MatchOption, slice_get, flat_map, sum_by, IsTrue, ◌==◌, ◌&&◌, nat_le}
use Rattle.std.specs.List.{AllByRecursion, list_any}
use Rattle.std.specs.List.Sorted.{IsNonDecreasing}
use Rattle.std.proofs.lemmas.Bool.Decides.{nat_tests}
use Rattle.std.proofs.lemmas.List.{length-map}
use Rattle.std.proofs.lemmas.List.Sums.{sum_by-cons}
use Rattle.std.proofs.lemmas.Grind.{flat_map-append}
use Rattle.std.proofs.lemmas.List.Elements.{All-nil, All-cons}
use Rattle.limits.specs.Limits as limits
use Rattle.iltypes.specs.declared.value.IlType.{IlType}
use Rattle.iltypes.specs.declared.value.Value.{Value}
use Rattle.ilsource.specs.declared.instruction.Line.{Line}
use Rattle.ilsource.specs.Places.{line_at}
use Rattle.ilsource.specs.Uses.{uses_in}
use Rattle.ilsource.specs.Words.{places_in}
use Rattle.ilsource.specs.Words as counts
use Rattle.ilblocks.specs.declared.kind.BlockKind.{BlockKind}
use Rattle.ilplan.specs.declared.place.Place.{Place}
use Rattle.ilplan.specs.Functions.{PlannedFunction, calls, function_types, slots_of_function, those_in, used_from}
use Rattle.ilplan.specs.Functions.{words_of_function}
use Rattle.ilplan.specs.Plans.{PlannedInstance, PlannedTask, AreFunctions as ArePlanned, KeepsLimits, all_lines}
use Rattle.ilplan.specs.Plans.{functions_of, in_task, inputs_of, kinds_of, types_of, used_functions}
use Rattle.ilcode.specs.declared.function.FunctionBody.{FunctionBody}
use Rattle.ilcode.specs.declared.word.Word.{Word}
use Rattle.ilcode.specs.Listings.{IsLawful, first_or, is_old, listing_of, start_or}
use Rattle.ilcode.specs.Words.{HasWord, IsOldWord}
use Rattle.ilcompile.specs.declared.numbers.Placed.{Placed}
use Rattle.ilcompile.specs.Layout.{Numbers, bodies_from, body_at, laid_out, numbers_of, placed_from, placed_or}
use Rattle.ilcompile.specs.Layout.{places_of_body, places_of_programs, programs_of, starts_from}
use Rattle.ilcompile.specs.Layout.{words_of_bodies, words_of_programs}
use Rattle.ilcompile.proofs.BodyWords.{bodies_words, near_call, near_functions}
use Rattle.ilcompile.proofs.Held.{IsNearPlaced, all_held, both, line_numbers_small, program_words}
use Rattle.ilcompile.proofs.Known.{bodies_known, lines_known}
use Rattle.ilcompile.proofs.OldWords.{AreOld, no_calls, programs_old}
use Rattle.ilcompile.proofs.Sizes.{all_types_long, bodies_counted, bodies_long, bodies_placed, count_both}
use Rattle.ilcompile.proofs.Sizes.{places_counted}
use Rattle.ilcompile.proofs.Sizes.{programs_long}
use Rattle.ilcompile.proofs.UsedFunctions.{few_used, none_called, none_used}

joined : {X Y Z : Type 0} (f : Y → List Z) (g : X → List Y) (xs : List X)
    → flat_map (λ ys. flat_map f ys) (map g xs) ≡ flat_map f (flat_map g xs)
joined f g [] = refl
joined f g (x ∷ xs) =
    ap (λ zs. flat_map f (g x) ++ zs) (joined f g xs) ∙ sym (flat_map-append f (g x) (flat_map g xs))

-- ---- starts

-- no start is before the first
starts_above : (n : ℕ) (programs : List (List (Line Place ℕ))) (j d : ℕ) → j < length (starts_from n programs)
    → n ≤ get_or (starts_from n programs) j d
starts_above n [] j d h = absurd (omega arith)
starts_above n (p ∷ ps) zero d h = omega arith
starts_above n (p ∷ ps) (suc j) d h =
    let later = starts_above (n + counts.words_of_lines p) ps j d (omega arith) in omega (arith, later)

starts_ordered : (n : ℕ) (programs : List (List (Line Place ℕ))) → IsNonDecreasing (starts_from n programs)
starts_ordered n [] i j d le h = absurd (omega arith)
starts_ordered n (p ∷ ps) zero zero d le h = omega arith
starts_ordered n (p ∷ ps) zero (suc j) d le h =
    let later = starts_above (n + counts.words_of_lines p) ps j d (omega arith) in omega (arith, later)
starts_ordered n (p ∷ ps) (suc i) zero d le h = absurd (omega arith)
starts_ordered n (p ∷ ps) (suc i) (suc j) d le h =
    starts_ordered (n + counts.words_of_lines p) ps i j d (omega arith) (omega arith)

starts_within : (n most : ℕ) (instances : List PlannedInstance)
    → n + counts.words_of_lines (all_lines instances) ≤ most
    → All (λ start. start ≤ most) (starts_from n (programs_of instances))
starts_within n most [] h = All-nil (λ start. start ≤ most)
starts_within n most (i ∷ instances) h =
    let both = count_both i.lines (all_lines instances) in
    All-cons (λ start. start ≤ most) n _ (omega arith)
    (starts_within (n + counts.words_of_lines i.lines) most instances (omega (arith, both)))

length-starts : (n : ℕ) (programs : List (List (Line Place ℕ))) → length (starts_from n programs) ≡ length programs
length-starts n [] = refl
length-starts n (p ∷ ps) = let more = length-starts (n + counts.words_of_lines p) ps in omega (arith, more)

-- a code without programs has no words: then no function is used
first_start : (n : Numbers) (constants : List Value) (stand : List (Option Placed)) (end first : ℕ)
    (functions : List PlannedFunction) (instances : List PlannedInstance)
    → MatchOption (slice_get (starts_from 0 (programs_of instances)) 0)
    (words_of_programs n 0 (programs_of instances)
    ++ words_of_bodies constants stand end first (those_in (used_from (all_lines instances) 0 functions)) ≡ [])
    (λ start. start ≡ 0)
first_start n constants stand end first functions [] =
    ap (words_of_bodies constants stand end first) (none_used functions 0)
first_start n constants stand end first functions (i ∷ instances) = refl

-- ---- functions

-- a function has inputs, no more than the limit, and a result
record HasResult (f : PlannedFunction) : Type 0 where
  some_input : 1 ≤ length f.inputs
  most_inputs : length f.inputs ≤ limits.most_inputs
  result : 1 ≤ length f.variables

have_results : (lines : List (Line Place ℕ)) (fs before : List PlannedFunction) (k : ℕ) → ArePlanned before fs
    → AllByRecursion HasResult (those_in (used_from lines k fs))
have_results lines [] before k h = tt
have_results lines (f ∷ fs) before k h =
    by (calls lines k || list_any (λ g. calls g.lines k) (those_in later))
    (have_results lines fs (before ++ f ∷ []) (k + 1) h.1)
  where
    later : List (Option PlannedFunction)
    later = used_from lines (k + 1) fs

    by : (b : Bool) → AllByRecursion HasResult (those_in later)
        → AllByRecursion HasResult (those_in (cond b (Some f) None ∷ later))
    by true others =
        (record { some_input = h.0.some_input; most_inputs = h.0.most_inputs; result = h.0.result }, others)
    by false others = others

-- one of these bodies, whose words and slots end where those of the next begin
record IsLaid (bodies : List FunctionBody) (last top number : ℕ) (b : FunctionBody) : Type 0 where
  some_input : 1 ≤ b.inputs
  most_inputs : b.inputs ≤ limits.most_inputs
  result : b.inputs < b.slots
  words : b.start ≤ start_or (slice_get bodies (number + 1)) last
  slots : b.first + b.slots ≡ first_or (slice_get bodies (number + 1)) top

first_laid : (g : PlannedFunction) (gs : List PlannedFunction) (place first last top : ℕ) → HasResult g
    → place + sum_by words_of_function (g ∷ gs) ≡ last → first + sum_by slots_of_function (g ∷ gs) ≡ top
    → IsLaid (bodies_from place first (g ∷ gs)) last top 0 (body_at place first g)
first_laid g [] place first last top h w s =
    let none : sum_by words_of_function [] ≡ 0 = refl in
    let no_slots : sum_by slots_of_function [] ≡ 0 = refl in
    let words = sum_by-cons words_of_function g [] in
    let slots = sum_by-cons slots_of_function g [] in
    let result = h.result in
    record {
      some_input = h.some_input;
      most_inputs = h.most_inputs;
      result = omega arith;
      words = omega arith;
      slots = omega arith;
    }
first_laid g (next ∷ gs) place first last top h w s =
    let result = h.result in
    record {
      some_input = h.some_input;
      most_inputs = h.most_inputs;
      result = omega arith;
      words = omega arith;
      slots = refl;
    }

each_laid : (gs : List PlannedFunction) (place first last top : ℕ) → AllByRecursion HasResult gs
    → place + sum_by words_of_function gs ≡ last → first + sum_by slots_of_function gs ≡ top
    → (number : ℕ) (b : FunctionBody) → slice_get (bodies_from place first gs) number ≡ Some b
    → IsLaid (bodies_from place first gs) last top number b
each_laid [] place first last top h w s number b e = absurd cc
each_laid (g ∷ gs) place first last top h w s zero b e =
    let is : body_at place first g ≡ b = cc in
    subst (IsLaid (bodies_from place first (g ∷ gs)) last top 0) is (first_laid g gs place first last top h.0 w s)
each_laid (g ∷ gs) place first last top h w s (suc number) b e =
    let words = sum_by-cons words_of_function g gs in
    let slots = sum_by-cons slots_of_function g gs in
    let rest = each_laid gs (place + words_of_function g) (first + slots_of_function g) last top h.1 (omega arith)
    (omega arith) number b e in
    let z : suc (number + 1) ≡ suc number + 1 = omega arith in
    let bodies = bodies_from place first (g ∷ gs) in
    record {
      some_input = rest.some_input;
      most_inputs = rest.most_inputs;
      result = rest.result;
      words = subst (λ n. b.start ≤ start_or (slice_get bodies n) last) z rest.words;
      slots = subst (λ n. b.first + b.slots ≡ first_or (slice_get bodies n) top) z rest.slots;
    }

-- the programs end where the first function begins, or with the last word
programs_end : (gs : List PlannedFunction) (place first last : ℕ) → place + sum_by words_of_function gs ≡ last
    → start_or (slice_get (bodies_from place first gs) 0) last ≡ place
programs_end [] place first last w = let none : sum_by words_of_function [] ≡ 0 = refl in omega arith
programs_end (g ∷ gs) place first last w = refl

-- ---- files of version 1

without_functions : (buses place first : ℕ) (gs : List PlannedFunction)
    → IsTrue (is_old buses (bodies_from place first gs)) → gs ≡ []
without_functions buses place first [] old = refl
without_functions buses place first (g ∷ gs) old = absurd (by (nat_le buses limits.few_buses) old)
  where
    rest : List FunctionBody
    rest = bodies_from (place + words_of_function g) (first + slots_of_function g) gs

    some : (length (body_at place first g ∷ rest) == 0) ≡ false
    some = grind (arith, nat_tests)

    by : (b : Bool) → IsTrue (b && (length (body_at place first g ∷ rest) == 0)) → ⊥
    by false h = absurd cc
    by true h = let none : false ≡ true = sym some ∙ h in absurd cc

-- ---- the code

module _ (buses : ℕ) (text : List ℕ) (functions : List PlannedFunction) (t : PlannedTask) (low : 1 ≤ buses)
    (high : buses ≤ limits.most_buses) (short : length text ≤ limits.most_bytes)
    (few : length functions ≤ limits.most_functions) (are : ArePlanned [] functions) (k : KeepsLimits functions t) where
  abbrev lines : List (Line Place ℕ)
  lines = all_lines t.instances

  abbrev bodies : List PlannedFunction
  bodies = functions_of functions t

  abbrev slots : ℕ
  slots = length t.slots

  abbrev end : ℕ
  end = counts.words_of_lines lines

  abbrev stand : List (Option Placed)
  stand = placed_from 0 slots (used_functions functions t)

  abbrev numbers : Numbers
  numbers = numbers_of t.constants 0 stand

  abbrev programs : List (List (Line Place ℕ))
  programs = programs_of t.instances

  abbrev program_part : List Word
  program_part = words_of_programs numbers 0 programs

  abbrev body_part : List Word
  body_part = words_of_bodies t.constants stand end slots bodies

  abbrev all_words : List Word
  all_words = program_part ++ body_part

  words_counted : length all_words ≡ end + sum_by words_of_function bodies
  words_counted =
      omega (
        arith,
        length-append program_part body_part,
        programs_long numbers 0 t.instances,
        bodies_long t.constants stand end slots bodies,
      )

  slots_counted : length (types_of t ++ flat_map function_types bodies) ≡ slots + sum_by slots_of_function bodies
  slots_counted =
      omega (
        arith,
        length-append (types_of t) (flat_map function_types bodies),
        length-map t.slots (λ s. s.value_type),
        all_types_long bodies,
      )

  abbrev all_places : List ℕ
  all_places = places_of_programs programs ++ flat_map places_of_body bodies

  lines_counted : length (map (line_at text) all_places) ≡ length all_words
  lines_counted =
      let its = ap length (joined (places_in {N = Place} {L = ℕ}) (λ (i : PlannedInstance). i.lines) t.instances) in
      omega (
        arith,
        length-map all_places (line_at text),
        length-append (places_of_programs programs) (flat_map places_of_body bodies),
        its,
        places_counted lines,
        bodies_placed bodies,
        words_counted,
      )

  near : (j many : ℕ) → slice_get (inputs_of functions) j ≡ Some many
      → IsNearPlaced (placed_or (slice_get stand j)) many
  near = near_functions lines functions slots (omega (arith, few)) are k.most_slots

  pub programs_held : AllByRecursion HasWord program_part
  programs_held =
      let most_slots = k.most_slots in
      let most_words = k.most_words in
      program_words numbers (in_task functions t)
      (near_call t.constants stand functions k.most_constants near 0 (in_task functions t) (λ j many e. e))
      t.instances 0
      (omega arith) k.lines.shallow k.lines.given
      (all_held numbers (in_task functions t) k.most_constants (omega arith)
      (let kinds = length-map t.blocks (λ b. b.kind) in omega (arith, kinds, k.most_blocks))
      (flat_map uses_in lines) (lines_known functions t k) k.lines.named)

  pub bodies_held : AllByRecursion HasWord body_part
  bodies_held =
      bodies_words t.constants stand functions k.most_constants near lines functions [] 0 end slots refl are
      (bodies_known functions t k) k.most_words k.most_slots

  words_held : AllByRecursion HasWord all_words
  words_held = both HasWord program_part body_part programs_held bodies_held

  old_words : IsTrue (is_old buses (bodies_from end slots bodies)) → AllByRecursion IsOldWord all_words
  old_words old =
      let none = without_functions buses end slots bodies old in
      both IsOldWord program_part body_part
      (programs_old numbers 0 t.instances
      (no_calls (in_task functions t) (flat_map uses_in lines) k.lines.named
      (λ j lt. none_called lines functions none j
      (let many = length-map functions (λ (f : PlannedFunction). length f.inputs) in omega arith))))
      (subst (λ gs. AreOld (words_of_bodies t.constants stand end slots gs)) (sym none) tt)

  pub laid_out_lawful : IsLawful (laid_out buses text functions t)
  laid_out_lawful =
      let kinds = length-map t.blocks (λ b. b.kind) in
      let starts = length-starts 0 programs in
      let instances = length-map t.instances (λ (i : PlannedInstance). i.lines) in
      let used = few_used lines functions 0 in
      let counted = bodies_counted end slots bodies in
      let first = programs_end bodies end slots (length all_words) (sym words_counted) in
      record {
        bus = low;
        most_buses = high;
        most_constants = k.most_constants;
        most_slots = omega (arith, slots_counted, k.most_slots);
        most_blocks = omega (arith, kinds, k.most_blocks);
        most_starts = omega (arith, starts, instances, k.most_instances);
        most_instructions = omega (arith, words_counted, k.most_words);
        words = words_held;
        lines = lines_counted;
        numbers = line_numbers_small text all_places short;
        starts = record {
          ordered = starts_ordered 0 programs;
          within = starts_within 0 (length all_words) t.instances (omega (arith, words_counted));
          first = first_start numbers t.constants stand end slots functions t.instances;
        };
        functions = record {
          most = omega (arith, used, counted, few);
          each = λ number b e.
              let laid = each_laid bodies end slots (length all_words)
              (length (types_of t ++ flat_map function_types bodies)) (have_results lines functions [] 0 are)
              (sym words_counted) (sym slots_counted) number b e in
              record {
                some_input = laid.some_input;
                most_inputs = laid.most_inputs;
                result = laid.result;
                words = laid.words;
                slots = laid.slots;
              };
          programs = starts_within 0 (start_or (slice_get (bodies_from end slots bodies) 0) (length all_words))
              t.instances (omega (arith, first));
        };
        old = old_words;
      }

-- parts that are laid out so make that code
pub parts_are : (buses : ℕ) (text : List ℕ) (functions : List PlannedFunction) (t : PlannedTask)
    (constants : List Value) (slots : List IlType) (kinds : List BlockKind) (starts : List ℕ) (ws : List Word)
    (numbers : List ℕ) (bodies : List FunctionBody) → constants ≡ t.constants
    → slots ≡ types_of t ++ flat_map function_types (functions_of functions t) → kinds ≡ kinds_of t
    → starts ≡ starts_from 0 (programs_of t.instances)
    → ws ≡ words_of_programs (numbers_of t.constants 0 (placed_from 0 (length t.slots) (used_functions functions t))) 0
    (programs_of t.instances)
    ++ words_of_bodies t.constants (placed_from 0 (length t.slots) (used_functions functions t))
    (counts.words_of_lines (all_lines t.instances)) (length t.slots) (functions_of functions t)
    → numbers ≡ map (line_at text)
    (places_of_programs (programs_of t.instances) ++ flat_map places_of_body (functions_of functions t))
    → bodies ≡ bodies_from (counts.words_of_lines (all_lines t.instances)) (length t.slots) (functions_of functions t)
    → listing_of buses constants slots kinds starts ws numbers bodies ≡ laid_out buses text functions t
parts_are buses text functions t constants slots kinds starts ws numbers bodies a b c d e f g =
    rw (a, b, c, d, e, f, g) refl
