-- Each task of a source program that has no fault keeps the limits.
use Rattle.std.proofs.Common.{◌≡◌, ℕ, zero, suc, ◌≤◌, List, [], ◌∷◌, map, length, refl, sym, ap, ◌∙◌, subst, inl, inr}
use Rattle.std.proofs.Common.{◌⊎◌, ◌+◌, ◌++◌, arith, length-append, replicate}
use Rattle.std.specs.Prelude.{Option, Some, None, slice_get, flat_map, filter_map, option_map, sum_by, unwrap_or}
use Rattle.std.specs.List.{cons_option, enumerate_from}
use Rattle.std.specs.Option.{option_map_or}
use Rattle.std.proofs.Math.ListN.{length-map}
use Rattle.std.proofs.lemmas.List.{length-replicate}
use Rattle.std.proofs.lemmas.List.Concat.{length-flat_map}
use Rattle.std.proofs.lemmas.List.Sums.{sum_by-cons}
use Rattle.std.proofs.lemmas.List.FromFn.{length-enumerate_from}
use Rattle.std.proofs.lemmas.Option.{slice_get-map}
use Rattle.wordlines.specs.Wirings.{Wiring}
use Rattle.iltypes.specs.declared.value.Value.{Value}
use Rattle.ilsource.specs.Words.{places_in, words_of_lines, AreShallow}
use Rattle.ilsource.specs.Configurations.{Configured}
use Rattle.ilsource.specs.declared.configuration.TaskDeclaration.{TaskDeclaration}
use Rattle.ilsource.specs.Names.{folded}
use Rattle.ilsource.specs.Programs.{AreSorted}
use Rattle.ilsource.specs.declared.name.Name.{Name}
use Rattle.ilsource.specs.SourceTrees.{Tree}
use Rattle.ildeclared.specs.declared.fault.NameCause.TheVariants.{Twice, TooMany, BadDeclaration}
use Rattle.ilscope.specs.Configured.{global_number, instance_declarations, task_declarations}
use Rattle.ilscope.specs.Declarations.{DeclaredFunction, declared_functions, declared_programs}
use Rattle.ilscope.specs.Faults.{IsBadlyStarted, IsBadTask, IsTwice, IsTwiceIn}
use Rattle.limits.specs.Limits.{most_constants, most_words}
use Rattle.ilplan.specs.declared.activation.Activation.TheVariants.{Cyclic, Event}
use Rattle.ilplan.specs.declared.function.FunctionInput.{FunctionInput}
use Rattle.ilplan.specs.declared.function.FunctionVariable.{FunctionVariable}
use Rattle.ilplan.specs.declared.instance.FunctionBlock.{FunctionBlock}
use Rattle.ilplan.specs.declared.slot.Slot.{Slot}
use Rattle.ilplan.specs.Constants.{constants_in, constants_used, each_once}
use Rattle.ilplan.specs.Functions.{PlannedFunction, constants_of_function, slots_of_function, words_of_function}
use Rattle.ilplan.specs.Plans.{AreLinesOf, KeepsLimits, HasInterval, all_lines, in_task, inputs_of}
use Rattle.ilsource.specs.Uses.{uses_in}
use Rattle.ilscope.proofs.Lists.{at_some}
use Rattle.ilsyms.specs.Faults.{IsTooManyIn, IsWellNamed, all_slot_places, all_uses, all_word_places, instance_names}
use Rattle.ilsyms.specs.Faults.{place_of_slot, slot_places, starting_use, uses_of_function, word_places}
use Rattle.ilsyms.specs.PlanningSteps.{AreApart}
use Rattle.ilsyms.specs.Resolved.{constants_of, functions_used, planned_function, planned_functions, planned_input}
use Rattle.ilsyms.specs.Resolved.{planned_instance, planned_instances, planned_task}
use Rattle.ilsyms.specs.Tasks.{NamedProgram, instance_in, instance_named, SourceTask, declared_task, main_task}
use Rattle.ilsyms.specs.Tasks.{tasks_of}
use Rattle.ilsyms.specs.Variables.{slots_of, blocks_of, lines_of}
use Rattle.ilsyms.proofs.CountingUses.{few_constants, used_append}
use Rattle.ilsyms.proofs.TaskNames.{declared_apart, programs_apart}
use Rattle.ilsyms.proofs.NamedLines.{HasInputs, all_lines_named}
use Rattle.ilsyms.proofs.PlacedLists.{at_each}
use Rattle.ilsyms.proofs.SlotOrder.{ordered}
use Rattle.ilsyms.proofs.NumberingLines.{same_places}
use Rattle.ilsyms.proofs.TaskCases.{IsDeclaredTask, IsMainTask, task_is, typed}
use Rattle.ilsyms.proofs.SlotTypes.{slots_typed}
use Rattle.ilsyms.proofs.TextBodies.{task_of_text}

-- where nothing stands at a place there are at most so many
none_past : {X : Type 0} (xs : List X) (n : ℕ) → slice_get xs n ≡ None → length xs ≤ n
none_past [] n h = omega arith
none_past (x ∷ xs) zero h = absurd cc
none_past (x ∷ xs) (suc n) h = omega (arith, none_past xs n h)

none_at : (o : Option ℕ) → ((place : ℕ) → ¬ (o ≡ Some place)) → o ≡ None
none_at None h = refl
none_at (Some place) h = absurd (h place refl)

pub few : {X : Type 0} (at : X → ℕ) (xs : List X) (n : ℕ) → ((place : ℕ) → ¬ (slice_get (map at xs) n ≡ Some place))
    → length xs ≤ n
few at xs n none =
    let e = none_past (map at xs) n (none_at (slice_get (map at xs) n) none) in
    omega (arith, e, length-map xs at)

one_more : {Y : Type 0} (ys : List Y) (o : Option Y) (n : ℕ) → length ys ≤ n → length (cons_option o ys) ≤ suc n
one_more ys None n h = omega (arith, h)
one_more ys (Some y) n h = omega (arith, h)

fewer : {X Y : Type 0} (f : X → Option Y) (xs : List X) → length (filter_map f xs) ≤ length xs
fewer f [] = omega arith
fewer f (x ∷ xs) = one_more (filter_map f xs) (f x) (length xs) (fewer f xs)

-- a task that is started well has an interval of 1 or more, or none
has_interval : (tree : Tree) (single : Option Name) (interval : Option ℕ) → ¬ IsBadlyStarted single interval
    → HasInterval
    (option_map_or (λ trigger. Event (unwrap_or (global_number tree trigger) 0)) single (Cyclic (unwrap_or interval 0)))
has_interval tree None None h = absurd (h tt)
has_interval tree None (Some zero) h = absurd (h refl)
has_interval tree None (Some (suc n)) h = omega arith
has_interval tree (Some trigger) interval h = tt

-- ---- what functions take

many_places : (places : PlannedFunction → List ℕ) (size : PlannedFunction → ℕ)
    → ((f : PlannedFunction) → length (places f) ≡ size f) → (fs : List PlannedFunction)
    → length (flat_map places fs) ≡ sum_by size fs
many_places places size same [] = refl
many_places places size same (f ∷ fs) =
    let one = same f in
    let rest = many_places places size same fs in
    length-append (places f) (flat_map places fs) ∙ (λ j. one j + rest j) ∙ sym (sum_by-cons size f fs)

slots_counted : (f : PlannedFunction) → length (slot_places f) ≡ slots_of_function f
slots_counted f =
    let inputs = length-map f.inputs (λ (v : FunctionInput). v.name.from) in
    let variables = length-map f.variables (λ (v : FunctionVariable). v.name.from) in
    let both = length-append (map (λ (v : FunctionInput). v.name.from) f.inputs)
    (map (λ (v : FunctionVariable). v.name.from) f.variables) in
    omega (arith, inputs, variables, both)

words_counted : (f : PlannedFunction) → length (word_places f) ≡ words_of_function f
words_counted f =
    let given = length-replicate (length f.variables) f.name.from in
    let lines = length-flat_map places_in f.lines in
    let both = length-append (replicate (length f.variables) f.name.from) (flat_map places_in f.lines) in
    omega (arith, given, lines, both)

starting_constants : (f : PlannedFunction) (vs : List FunctionVariable)
    → constants_used (map (starting_use f) vs) ≡ map (λ v. v.initial) vs
starting_constants f [] = refl
starting_constants f (v ∷ vs) = ap (λ (rest : List Value). v.initial ∷ rest) (starting_constants f vs)

constants_counted : (fs : List PlannedFunction)
    → constants_used (flat_map uses_of_function fs) ≡ flat_map constants_of_function fs
constants_counted [] = refl
constants_counted (f ∷ fs) =
    let one = starting_constants f f.variables in
    let rest = constants_counted fs in
    used_append (uses_of_function f) (flat_map uses_of_function fs)
    ∙ ap (λ vs. vs ++ constants_used (flat_map uses_of_function fs))
    (used_append (map (starting_use f) f.variables) (flat_map uses_in f.lines))
    ∙ (λ j. (one j ++ constants_in f.lines) ++ rest j)

-- the constants of a task are the different ones of all that it uses
pub constants_are : (tree : Tree) (is : List NamedProgram)
    → each_once (constants_used (all_uses tree is)) ≡ constants_of tree is
constants_are tree is =
    let uses = flat_map uses_in (all_lines (planned_instances tree is)) in
    let functions = functions_used tree is in
    ap each_once
    (used_append uses (flat_map uses_of_function functions)
    ∙ ap (λ (vs : List Value). constants_used uses ++ vs) (constants_counted functions))

module _ (tree : Tree) (wiring : Wiring) (named : IsWellNamed tree wiring) where
  -- a task that is declared is none at fault
  pub not_bad : (c : Configured) → tree.configuration ≡ Some c → (n : ℕ) (d : TaskDeclaration)
      → slice_get c.tasks n ≡ Some d → ¬ IsBadTask d
  not_bad c e n d there bad =
      let tasks : slice_get (task_declarations tree) n ≡ Some d =
      ap (λ o. slice_get (option_map_or (λ (x : Configured). x.tasks) o []) n) e ∙ there
      in
      named d.name.from BadDeclaration
      (inl (inr (inr (inr (inl (at_some _ (task_declarations tree) n d tasks (bad, refl)))))))

  few_tasks_by : (o : Option Configured) → length (option_map_or (λ c. c.tasks) o []) ≤ 16
      → length (option_map_or (λ c. map (declared_task tree c) (enumerate_from 0 c.tasks)) o (main_task tree ∷ [])) ≤ 16
  few_tasks_by None h = omega arith
  few_tasks_by (Some c) h =
      let one = length-map (enumerate_from 0 c.tasks) (declared_task tree c) in
      let other = length-enumerate_from 0 c.tasks in
      omega (arith, h, one, other)

  pub few_tasks : length (tasks_of tree) ≤ 16
  few_tasks =
      few_tasks_by tree.configuration
      (few (λ (t : TaskDeclaration). t.name.from) (task_declarations tree) 16
      (λ place e. named place TooMany (inr (inl e))))

  few_names : length (instance_names tree) ≤ 64
  few_names = few (λ (n : Name). n.from) (instance_names tree) 64 (λ place e. named place TooMany (inr (inr (inl e))))

  not_twice : (place : ℕ) → ¬ IsTwice tree place
  not_twice place s = named place Twice (inl s)

  declared_twice : (c : Configured) → tree.configuration ≡ Some c → (place : ℕ)
      → IsTwiceIn (folded tree.text) (map (λ i. i.name) c.instances) place
      → IsTwiceIn (folded tree.text) (map (λ i. i.name) (instance_declarations tree)) place
  declared_twice c e place s =
      subst
      (λ o. IsTwiceIn (folded tree.text) (map (λ i. i.name) (option_map_or (λ (x : Configured). x.instances) o []))
      place)
      (sym e) s

  module _ (number : ℕ) (t : SourceTask) (at : slice_get (tasks_of tree) number ≡ Some t) where
    few_instances : length t.instances ≤ 64
    few_instances = by (task_is tree number t at)
      where
        by : IsDeclaredTask tree number t ⊎ IsMainTask tree number t → length t.instances ≤ 64
        by (inl d) =
            let is = ap (λ (s : SourceTask). length s.instances) d.is in
            let all = fewer (instance_in tree number) d.configuration.instances in
            let names = ap (λ o. length
            (option_map_or (λ (c : Configured). map (λ i. i.name) c.instances) o
            (map (λ p. p.program.name) (declared_programs tree)))) d.configured
            in
            let many = length-map d.configuration.instances (λ i. i.name) in
            omega (arith, few_names, is, all, names, many)
        by (inr m) =
            let is = ap (λ (s : SourceTask). length s.instances) m.is in
            let names = ap (λ o. length
            (option_map_or (λ (c : Configured). map (λ i. i.name) c.instances) o
            (map (λ p. p.program.name) (declared_programs tree)))) m.none
            in
            let many = length-map (declared_programs tree) (λ p. p.program.name) in
            let own = length-map (declared_programs tree) (λ p. instance_named p.program.name p) in
            omega (arith, few_names, is, names, many, own)

    interval : HasInterval t.activation
    interval = by (task_is tree number t at)
      where
        by : IsDeclaredTask tree number t ⊎ IsMainTask tree number t → HasInterval t.activation
        by (inl d) =
            subst (λ (s : SourceTask). HasInterval s.activation) (sym d.is)
            (has_interval tree d.declared.single d.declared.interval
            (λ bad. not_bad d.configuration d.configured number d.declared d.there (inl bad)))
        by (inr m) = subst (λ (s : SourceTask). HasInterval s.activation) (sym m.is) (omega arith)

    pub names_apart : AreApart tree.text t.instances
    names_apart = by (task_is tree number t at)
      where
        by : IsDeclaredTask tree number t ⊎ IsMainTask tree number t → AreApart tree.text t.instances
        by (inl d) =
            subst (λ (s : SourceTask). AreApart tree.text s.instances) (sym d.is)
            (declared_apart tree d.configuration.instances number
            (λ place s. not_twice place (inr (inr
            (inr (inr (inr (inl (declared_twice d.configuration d.configured place s)))))))))
        by (inr m) =
            subst (λ (s : SourceTask). AreApart tree.text s.instances) (sym m.is) (programs_apart tree not_twice)

    abbrev its_functions : List PlannedFunction
    its_functions = functions_used tree t.instances

    not_many : (place : ℕ) → ¬ IsTooManyIn tree place t.instances
    not_many place many = named place TooMany (inr (inr (inr (inl (at_some _ (tasks_of tree) number t at many)))))

    most_slots : length (slots_of tree t.instances) + sum_by slots_of_function its_functions ≤ 4096
    most_slots =
        let places = all_slot_places tree t.instances in
        let least = none_past places 4096 (none_at (slice_get places 4096) (λ place e. not_many place (inl e))) in
        let own = map (λ (s : Slot). place_of_slot tree s.variable) (slots_of tree t.instances) in
        let both = length-append own (flat_map slot_places its_functions) in
        let slots = length-map (slots_of tree t.instances) (λ (s : Slot). place_of_slot tree s.variable) in
        let functions = many_places slot_places slots_of_function slots_counted its_functions in
        omega (arith, least, both, slots, functions)

    pub few_slots : length (slots_of tree t.instances) ≤ 4096
    few_slots = let most = most_slots in omega (arith, most)

    pub few_blocks : length (blocks_of t.instances) ≤ 256
    few_blocks =
        few (λ (b : FunctionBlock). b.name.from) (blocks_of t.instances) 256
        (λ place e. not_many place (inr (inl e)))

    few_words : words_of_lines (all_lines (planned_task tree t).instances)
        + sum_by words_of_function its_functions ≤ most_words
    few_words =
        let slots = slots_of tree t.instances in
        let blocks = blocks_of t.instances in
        let places = all_word_places tree t.instances in
        let least = none_past places most_words
        (none_at (slice_get places most_words) (λ place e. not_many place (inr (inr (inl e))))) in
        let both = length-append (flat_map places_in (lines_of t.instances)) (flat_map word_places its_functions) in
        let same = ap (λ (ns : List ℕ). length ns) (same_places tree slots blocks t.instances) in
        let counted = length-flat_map places_in (all_lines (planned_task tree t).instances) in
        let functions = many_places word_places words_of_function words_counted its_functions in
        omega (arith, least, both, same, counted, functions)

    few_values : length (constants_of tree t.instances) ≤ most_constants
    few_values =
        subst (λ (vs : List Value). length vs ≤ most_constants) (constants_are tree t.instances)
        (few_constants (all_uses tree t.instances) (λ place m. not_many place (inr (inr (inr m)))))

    -- the functions above each program are those that are named
    has_inputs : (k : ℕ) (f : DeclaredFunction) → slice_get (declared_functions tree) k ≡ Some f
        → slice_get (inputs_of (planned_functions tree)) k ≡ Some (length f.inputs)
    has_inputs k f there =
        slice_get-map (λ (h : PlannedFunction). length h.inputs) (planned_functions tree) k
        ∙ ap (option_map (λ (h : PlannedFunction). length h.inputs))
        (slice_get-map (planned_function tree) (declared_functions tree) k
        ∙ ap (option_map (planned_function tree)) there)
        ∙ ap (λ n. Some n) (length-map f.inputs planned_input)

    lines_named : AreShallow (lines_of t.instances) → AreSorted (lines_of t.instances)
        → AreLinesOf (in_task (planned_functions tree) (planned_task tree t))
        (all_lines (planned_task tree t).instances)
    lines_named shallow sorted =
        let names = in_task (planned_functions tree) (planned_task tree t) in
        all_lines_named tree wiring named names t.instances names_apart refl refl (task_of_text tree number t at)
        (at_each (HasInputs tree wiring named names t.instances names_apart refl refl) t.instances
        (λ n i there k f below is. has_inputs k f is))
        shallow sorted

    pub keeps_limits : AreShallow (lines_of t.instances) → AreSorted (lines_of t.instances)
        → KeepsLimits (planned_functions tree) (planned_task tree t)
    keeps_limits shallow sorted =
        let slots = slots_of tree t.instances in
        let blocks = blocks_of t.instances in
        record {
          most_instances =
              let e = few_instances in
              omega (arith, e, length-map t.instances (planned_instance tree slots blocks));
          most_slots = most_slots;
          most_blocks = few_blocks;
          most_constants = few_values;
          most_words = few_words;
          lines = lines_named shallow sorted;
          constants = refl;
          initials = slots_typed tree t.instances (typed tree number t at);
          ordered = ordered tree t.instances;
          interval = interval;
        }
