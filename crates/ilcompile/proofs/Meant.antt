-- The code of a task does what the task means: its programs are carried out one after another, and the functions that
-- they call stand behind them.
use Rattle.std.proofs.Common.{◌≡◌, ℕ, ◌+◌, ◌≤◌, List, [], ◌∷◌, ◌++◌, length, map, true, Option, Some, None, refl}
use Rattle.std.proofs.Common.{sym, ap, ◌∙◌, subst, arith, length-append}
use Rattle.std.specs.Prelude.{All, slice_get, flat_map, drop, sum_by}
use Rattle.std.proofs.lemmas.List.{length-map, take_at, drop_at}
use Rattle.std.proofs.lemmas.List.Elements.{All-get_or}
use Rattle.std.proofs.lemmas.Option.{get_or_from_slice_get, slice_get_within}
use Rattle.limits.specs.Limits.{most_calls}
use Rattle.iltypes.specs.declared.value.IlType.{IlType}
use Rattle.ilsource.specs.declared.instruction.Line.{Line}
use Rattle.ilsource.specs.Functions.{given_by}
use Rattle.ilsource.specs.Meaning.{Access}
use Rattle.ilsource.specs.Words as counts
use Rattle.ilblocks.specs.Stores.{Store}
use Rattle.ilplan.specs.declared.place.Place.{Place}
use Rattle.ilplan.specs.declared.place.Place.TheVariants as places
use Rattle.ilplan.specs.Constants.{constants_in}
use Rattle.ilplan.specs.Functions.{PlannedFunction, calls, constants_of_function, depths_from, function_types}
use Rattle.ilplan.specs.Functions.{starting_values, words_of_function}
use Rattle.ilplan.specs.PlanMeaning.{functions_given, places_of, plan_scan}
use Rattle.ilplan.specs.Plans.{PlannedInstance, PlannedTask, AreFunctions, IsFunction, KeepsLimits, Takes}
use Rattle.ilplan.specs.Plans.{all_lines, functions_of, in_body, in_task, inputs_of, shape_of, types_of}
use Rattle.ilplan.specs.Plans.{used_functions}
use Rattle.ilcode.specs.Lasting.{HasLasting, begun, least_of}
use Rattle.ilcode.specs.Listings.{Listing, end_of, first_or, lasting_types, slots_end}
use Rattle.ilcode.specs.Steps.{at}
use Rattle.ilcode.specs.declared.word.Word.{Word}
use Rattle.ilcompile.specs.declared.numbers.Placed.{Placed}
use Rattle.ilcompile.specs.Layout.{Numbers, bodies_from, laid_out, numbers_of, placed_from, programs_of, starts_from}
use Rattle.ilcompile.specs.Layout.{words_of_bodies, words_of_programs}
use Rattle.ilcompile.specs.Meant.{IsMeant}
use Rattle.ilcompile.proofs.BodyStarts.{body_starts, bodies_jump, functions_from_on, programs_end, programs_up_to}
use Rattle.ilcompile.proofs.CodeEnds.{Comes, back, forth}
use Rattle.ilcompile.proofs.Functions.{AreGood, AreLaid, AreServedTo, IsGood, all_served, found}
use Rattle.ilcompile.proofs.NamedLines.{IsInTable, each_back, each_front, each_of, each_part, in_table, lines_fit}
use Rattle.ilcompile.proofs.Named.{IsFit}
use Rattle.ilcompile.proofs.ScanRuns.{Done, Left, programs_run, words_of_all}
use Rattle.ilcompile.proofs.Seen.{SeenWhole, shows_task}
use Rattle.ilcompile.proofs.Shows.{Callee, Shows}
use Rattle.ilcompile.proofs.Sizes.{bodies_long, count_both, programs_long}
use Rattle.ilcompile.proofs.Slots.{Holds, get_back, get_front}
use Rattle.ilcompile.proofs.Stands.{Each, HasWords, has_rest, words_front}
use Rattle.ilcompile.proofs.Starts.{FromOn, UpTo}
use Rattle.ilcompile.proofs.UsedFunctions.{used_by_lines}

-- the instances' words are as many as those of all their lines
words_counted : (instances : List PlannedInstance)
    → words_of_all (programs_of instances) ≡ counts.words_of_lines (all_lines instances)
words_counted [] = refl
words_counted (i ∷ instances) =
    omega (arith, words_counted instances, count_both i.lines (all_lines instances))

module _ (buses : ℕ) (text : List ℕ) (functions : List PlannedFunction) (t : PlannedTask)
    (are : AreFunctions [] functions) (deep : All (λ depth. depth ≤ most_calls) (depths_from [] functions))
    (keeps : KeepsLimits functions t) where
  abbrev lines : List (Line Place ℕ)
  lines = all_lines t.instances

  abbrev used : List (Option PlannedFunction)
  used = used_functions functions t

  abbrev bodies : List PlannedFunction
  bodies = functions_of functions t

  abbrev slots : ℕ
  slots = length t.slots

  abbrev end : ℕ
  end = counts.words_of_lines lines

  abbrev stand : List (Option Placed)
  stand = placed_from 0 slots used

  abbrev numbers : Numbers
  numbers = numbers_of t.constants 0 stand

  abbrev programs : List (List (Line Place ℕ))
  programs = programs_of t.instances

  abbrev code : Listing
  code = laid_out buses text functions t

  abbrev hi : ℕ
  hi = length code.slots

  -- ---- its words and its slots

  abbrev first_words : List Word
  first_words = words_of_programs numbers 0 programs

  abbrev last_words : List Word
  last_words = words_of_bodies t.constants stand end slots bodies

  first_long : length first_words ≡ end
  first_long = programs_long numbers 0 t.instances

  code_long : length code.instructions ≡ end + sum_by words_of_function bodies
  code_long =
      omega (arith, length-append first_words last_words, first_long, bodies_long t.constants stand end slots bodies)

  up_to : UpTo end (starts_from 0 programs)
  up_to = programs_up_to programs 0 end (omega (arith, words_counted t.instances))

  last_place : end_of code 0 ≡ end
  last_place = programs_end code end slots bodies refl code_long up_to

  abbrev types : List IlType
  types = types_of t

  abbrev further : List IlType
  further = flat_map function_types bodies

  types_long : length types ≡ slots
  types_long = length-map t.slots (λ s. s.value_type)

  lasting : slots_end code 0 ≡ length types
  lasting = by bodies
    where
      by : (fs : List PlannedFunction)
          → first_or (slice_get (bodies_from end slots fs) 0) (length (types ++ flat_map function_types fs)) ≡ length
          types
      by [] = omega (arith, length-append types [])
      by (f ∷ fs) = sym types_long

  -- ---- what its lines name

  in_constants : Each (IsInTable t.constants) (constants_in lines ++ flat_map constants_of_function bodies)
  in_constants =
      let all = constants_in lines ++ flat_map constants_of_function bodies in
      subst (λ cs. Each (IsInTable cs) all) (sym keeps.constants) (in_table all)

  abbrev May : ℕ → Type 0
  May j = calls lines j ≡ true

  programs_fit : Each (Each (IsFit t.constants (in_task functions t) May)) programs
  programs_fit =
      each_part (IsFit t.constants (in_task functions t) May) (λ (i : PlannedInstance). i.lines) t.instances
      (lines_fit t.constants (in_task functions t) May lines keeps.lines
      (each_front (IsInTable t.constants) (constants_in lines) (flat_map constants_of_function bodies) in_constants)
      (λ j e. e))

  is_good : (before : List PlannedFunction) (f : PlannedFunction) (n : ℕ) → IsFunction before f
      → slice_get used n ≡ Some (Some f) → IsGood code stand t.constants slots lines functions before f
  is_good before f n is e =
      let K = IsInTable t.constants in
      let its : Each K (constants_of_function f) =
      each_of K constants_of_function used n f e
      (each_back K (constants_in lines) (flat_map constants_of_function bodies) in_constants) in
      record {
        has_result = is.result;
        starting = each_front K (starting_values f) (constants_in f.lines) its;
        fits = lines_fit t.constants (in_body before f) (λ j. calls f.lines j ≡ true) f.lines is.lines
            (each_back K (starting_values f) (constants_in f.lines) its) (λ j e. e);
      }

  good : (fs before : List PlannedFunction) → AreFunctions before fs
      → AreGood code stand t.constants slots lines functions before fs
  good [] before h = tt
  good (f ∷ fs) before h =
      (λ e. is_good before f (length before) h.0 e, good fs (before ++ f ∷ []) h.1)

  -- ---- its functions

  zero_less : (i : ℕ) → 0 + i ≡ i
  zero_less i = omega arith

  laid : AreLaid code stand t.constants slots lines functions 0 0 end slots used
  laid =
      record {
        is_kept = λ i. ap (slice_get used) (zero_less i);
        stand = λ i. ap (slice_get stand) (zero_less i);
        bodies = λ i. ap (slice_get code.functions) (zero_less i);
        words = subst (λ n. HasWords code.instructions n last_words) first_long (has_rest last_words first_words);
        last = omega (arith, length-append first_words last_words, first_long);
        typed = subst (λ n. Holds code.slots n further) types_long (λ i lt. get_back types further i);
        room = omega (arith, length-append types further, types_long);
        from = omega arith;
      }

  served : AreServedTo code stand t.constants slots lines functions (0 + length functions) hi (0 + length bodies)
      (functions_given functions) (depths_from [] functions)
  served =
      all_served code stand t.constants slots lines functions refl
      (bodies_jump code end slots bodies refl code_long up_to) functions [] [] [] 0 0 end slots refl refl refl refl laid
      (good functions [] are) (λ j g lt e. absurd (omega arith))

  callees : (f many : ℕ) → May f → Takes (in_task functions t) (places.Function f) many
      → Callee code stand slots hi [] f many (given_by (functions_given functions) f)
  callees f many may takes =
      let depths = depths_from [] functions in
      let g = found functions f many takes in
      let there : slice_get used f ≡ Some (Some g.function) =
      used_by_lines lines functions 0 f g.function g.is (ap (calls lines) (zero_less f) ∙ may) in
      let below = g.below in
      let s = served f g.function (omega arith) there in
      let few = subst (λ d. d ≤ most_calls) (get_or_from_slice_get depths f s.depth 0 s.is_depth)
      (All-get_or (λ d. d ≤ most_calls) depths f 0 (slice_get_within depths f s.depth s.is_depth) deep) in
      record {
        depth = s.depth;
        function = g.function;
        served = s.served;
        inputs = g.inputs;
        callable = refl;
        room = omega (arith, few);
      }

  -- ---- its runs

  abbrev access : Access Place Store
  access = places_of (shape_of buses t) (functions_given functions)

  abbrev Whole : Store → Store → Type 0
  Whole = SeenWhole code (length types)

  shows : Shows code numbers slots hi [] access Whole (in_task functions t) May
  shows =
      shows_task code numbers slots hi types (functions_given functions) slots (inputs_of functions) May
      (sym types_long) refl refl (λ i lt. ap (slice_get code.slots) (zero_less i) ∙ get_front types further i lt)
      (omega (arith, length-append types further)) (omega (arith, types_long)) callees

  abbrev tail : List ℕ
  tail = body_starts code.functions

  behind : FromOn (end_of code 0) tail
  behind = functions_from_on code end slots bodies refl code_long up_to

  inside : end_of code 0 ≤ length code.instructions
  inside = omega (arith, last_place, code_long)

  within : hi ≤ length code.slots
  within = omega arith

  left : Left code numbers slots hi access Whole (in_task functions t) May shows within tail behind inside [] 0 programs
  left =
      record {
        words = words_front code.instructions 0 first_words last_words (has_rest code.instructions []);
        starts = refl;
        ends = omega (arith, words_counted t.instances, last_place);
        up_to = tt;
      }

  module _ (from : Store) (has : HasLasting code from) where
    types_last : lasting_types code ≡ types
    types_last = take_at types further (slots_end code 0) (sym lasting)

    whole : Whole from (begun code from)
    whole =
        let least = map least_of (drop (slots_end code 0) code.slots) in
        let dropped : drop (slots_end code 0) code.slots ≡ further =
        drop_at types further (slots_end code 0) (sym lasting) in
        let many : length from.slots ≡ length types = has ∙ ap length types_last in
        record {
          long = omega (
            arith,
            length-append from.slots least,
            length-map (drop (slots_end code 0) code.slots) least_of,
            ap length dropped,
            many,
            length-append types further,
          );
          many = many;
          held = λ i lt.
              ap (slice_get (from.slots ++ least)) (zero_less i) ∙ get_front from.slots least i lt;
          blocks = refl;
          requests = refl;
          moment = refl;
        }

    comes : Comes code (length types) lasting from (plan_scan buses functions t from)
    comes =
        by (plan_scan buses functions t from)
        (programs_run code numbers slots hi access Whole (in_task functions t) May shows within tail behind inside
        programs [] 0 left programs_fit from (begun code from) whole)
      where
        by : (o : Option Store)
            → Done code numbers slots hi access Whole (in_task functions t) May shows within tail behind inside
            (at 0 (begun code from) None [] []) o
            → Comes code (length types) lasting from o
        by None h = h
        by (Some s) h = h

  pub is_meant : IsMeant (plan_scan buses functions t) (laid_out buses text functions t)
  is_meant =
      record {
        runs = λ from to has e.
            forth code (length types) lasting from (plan_scan buses functions t from) to (comes from has) e;
        means = λ from to steps has l.
            back code (length types) lasting from (plan_scan buses functions t from) to steps (comes from has) l;
      }
