-- Which functions a task uses, found by the names in lines, and how deep functions are.
use Rattle.std.proofs.Common.{◌≡◌, ℕ, zero, suc, ◌+◌, ◌<◌, ◌≤◌, List, [], ◌∷◌, ◌++◌, length, map, take}
use Rattle.std.proofs.Common.{get_or, replicate, Bool, true, false, ◌||◌, refl, sym, ap, ◌∙◌, subst, arith}
use Rattle.std.specs.Prelude.{Option, Some, None, ◌==◌, All, flat_map, max, nat_lt, option_map, slice_get}
use Rattle.std.specs.Prelude.{unwrap_or}
use Rattle.std.specs.Option.{option_map_or}
use Rattle.std.specs.Ordering.{nat_cmp, ord_max}
use Rattle.std.specs.List.{cons_option, list_any}
use Rattle.std.proofs.Math.ListN.{length-map}
use Rattle.std.proofs.lemmas.Bool.Decides.{nat_tests}
use Rattle.std.proofs.lemmas.Grind.{flat_map-append}
use Rattle.std.proofs.lemmas.List.{get_or_default, map-append}
use Rattle.std.proofs.lemmas.List.Folds.{list_any-append}
use Rattle.std.proofs.lemmas.Option.{get_or_from_slice_get, slice_get-map, unwrap_or-slice_get}
use Rattle.ilsource.specs.SourceTrees.{Tree}
use Rattle.ilsource.specs.Uses.{uses_in}
use Rattle.ilsource.specs.declared.instruction.Line.{Line}
use Rattle.ildeclared.proofs.Least.{take_more}
use Rattle.ilscope.specs.Declarations.{DeclaredFunction, DeclaredProgram, declared_functions, declared_programs}
use Rattle.ilscope.specs.Uses.{uses_of}
use Rattle.ilplan.specs.declared.instance.FunctionBlock.{FunctionBlock}
use Rattle.ilplan.specs.declared.place.Place.{Place}
use Rattle.ilplan.specs.declared.slot.Slot.{Slot}
use Rattle.ilplan.specs.Functions.{PlannedFunction, calls, depth_in, depth_of, depths_from, functions_in, greatest}
use Rattle.ilplan.specs.Functions.{invokes}
use Rattle.ilplan.specs.Plans.{all_lines}
use Rattle.ilplan.specs.UsageSteps.{AreAdded, AreFound}
use Rattle.ilplan.proofs.CallsAdded.{first_found, invokes_both, is_used_too, not_used, same_added}
use Rattle.ilsyms.specs.FunctionSteps.{Needs, calls_at, calls_of_program, functions_named, needs_of}
use Rattle.ilsyms.specs.Resolved.{planned_function, planned_functions, planned_instance}
use Rattle.ilsyms.specs.TaskSetSteps.{is_among}
use Rattle.ilsyms.specs.TaskSteps.{instance_at, instances_of}
use Rattle.ilsyms.specs.Tasks.{NamedProgram, instance_named}
use Rattle.ilsyms.specs.Variables.{alone, as_instance, blocks_of, slots_of}
use Rattle.ilsyms.specs.declared.tasks.TaskInstance.{TaskInstance}
use Rattle.ilsyms.proofs.Lists.{below_end, either, or_false}
use Rattle.ilsyms.proofs.PlannedUses.{functions_planned}

-- the element with a number below how many there are
pub element : {X : Type 0} (xs : List X) (k : ℕ) → k < length xs → (x : X) × (slice_get xs k ≡ Some x)
element [] k low = absurd (omega (arith, low))
element (x ∷ xs) zero low = (x, refl)
element (x ∷ xs) (suc k) low = element xs k (omega (arith, low))

-- ---- what the lines of instances call

module _ (tree : Tree) (slots : List Slot) (blocks : List FunctionBlock) where
  abbrev planned : NamedProgram → List (Line Place ℕ)
  planned i = (planned_instance tree slots blocks i).lines

  abbrev all_planned : List NamedProgram → List (Line Place ℕ)
  all_planned is = all_lines (map (planned_instance tree slots blocks) is)

  -- the lines of one
  called_same : (i : NamedProgram) (n : ℕ)
      → calls (planned i) n ≡ is_among n (functions_named tree (uses_of i.program.program.lines))
  called_same i n = ap (λ ns. is_among n ns) (functions_planned tree slots blocks i)

  -- and of all
  pub all_called : (given : List TaskInstance) (n : ℕ)
      → list_any
      (λ i. is_among n (calls_at (map (calls_of_program tree) (declared_programs tree)) i.program)) given
      ≡ calls (all_planned (instances_of tree given)) n
  all_called [] n = refl
  all_called (i ∷ given) n = by (slice_get (declared_programs tree) i.program) refl (all_called given n)
    where
      all : List (List ℕ)
      all = map (calls_of_program tree) (declared_programs tree)

      others : Bool
      others = list_any (λ i. is_among n (calls_at all i.program)) given

      rest : List NamedProgram
      rest = instances_of tree given

      at : slice_get all i.program ≡ option_map (calls_of_program tree) (slice_get (declared_programs tree) i.program)
      at = slice_get-map (calls_of_program tree) (declared_programs tree) i.program

      by : (o : Option DeclaredProgram) → slice_get (declared_programs tree) i.program ≡ o
          → others ≡ calls (all_planned rest) n
          → (is_among n (calls_at all i.program) || others)
          ≡ calls (all_planned (cons_option (instance_at tree i) rest)) n
      by None e more =
          ap (λ o. is_among n (unwrap_or o []) || others) (at ∙ ap (option_map (calls_of_program tree)) e)
          ∙ more
          ∙ sym (ap (λ o. calls (all_planned (cons_option (option_map (instance_named i.name) o) rest)) n) e)
      by (Some p) e more =
          let x = instance_named i.name p in
          ap (λ o. is_among n (unwrap_or o []) || others) (at ∙ ap (option_map (calls_of_program tree)) e)
          ∙ ap (λ b. is_among n (calls_of_program tree p) || b) more
          ∙ ap (λ b. b || calls (all_planned rest) n) (sym (called_same x n))
          ∙ sym (invokes_both (flat_map uses_in (planned x)) (flat_map uses_in (all_planned rest)) n)
          ∙ ap (λ us. invokes us n) (sym (flat_map-append uses_in (planned x) (all_planned rest)))
          ∙ sym (ap (λ o. calls (all_planned (cons_option (option_map (instance_named i.name) o) rest)) n) e)

-- what the lines of one instance more call
pub calls_more : (all : List (List ℕ)) (given : List TaskInstance) (i : ℕ) (d : TaskInstance) (own e : List ℕ)
    → i < length given → (get_or given i d).program < length all → own ≡ get_or all (get_or given i d).program e
    → (n : ℕ)
    → list_any (λ x. is_among n (calls_at all x.program)) (take (i + 1) given)
    ≡ (list_any (λ x. is_among n (calls_at all x.program)) (take i given) || is_among n own)
calls_more all given i d own e below low is n =
    let x = get_or given i d in
    let test : TaskInstance → Bool = λ y. is_among n (calls_at all y.program) in
    let its : own ≡ calls_at all x.program =
    is ∙ get_or_default all x.program e [] low ∙ sym (unwrap_or-slice_get all x.program []) in
    ap (λ (xs : List TaskInstance). list_any test xs)
    (take_more given i x below (get_or_default given i d x below))
    ∙ list_any-append test (take i given) (x ∷ [])
    ∙ ap (λ b. list_any test (take i given) || b)
    (or_false (test x) ∙ ap (λ ns. is_among n ns) (sym its))

-- ---- from the last function to the first

module _ (tree : Tree) where
  abbrev Found : List (Line Place ℕ) → ℕ → List Bool → Type 0
  Found lines from used = AreFound lines (planned_functions tree) from used

  many_planned : length (planned_functions tree) ≡ length (declared_functions tree)
  many_planned = length-map (declared_functions tree) (planned_function tree)

  -- what the lines call is known at first
  pub found_at_first : (lines : List (Line Place ℕ)) (test : ℕ → Bool) (count : ℕ) (used : List Bool)
      → ((n : ℕ) → test n ≡ calls lines n) → count ≡ length (declared_functions tree)
      → AreAdded count test (replicate count false) used → Found lines count used
  found_at_first lines test count used same e h =
      let size : count ≡ length (planned_functions tree) = e ∙ sym many_planned in
      subst (λ (n : ℕ). Found lines n used) (sym size)
      (first_found lines (planned_functions tree) used
      (subst (λ (n : ℕ). AreAdded n (calls lines) (replicate n false) used) size
      (same_added count test (calls lines) (replicate count false) used (λ n. sym (same n)) h)))

  module _ (lines : List (Line Place ℕ)) (i : ℕ) (one : Needs) (below : i < length (declared_functions tree))
      (is : one ≡ get_or (map (needs_of tree) (declared_functions tree)) i one) (used : List Bool)
      (h : Found lines (i + 1) used) where
    found : (f : DeclaredFunction) × (slice_get (declared_functions tree) i ≡ Some f)
    found = element (declared_functions tree) i below

    abbrev f : DeclaredFunction
    f = found.0

    abbrev g : PlannedFunction
    g = planned_function tree f

    its : one ≡ needs_of tree f
    its =
        is
        ∙ get_or_from_slice_get (map (needs_of tree) (declared_functions tree)) i (needs_of tree f) one
        (slice_get-map (needs_of tree) (declared_functions tree) i ∙ ap (option_map (needs_of tree)) found.1)

    here : g ≡ get_or (planned_functions tree) i g
    here =
        sym (get_or_from_slice_get (planned_functions tree) i g g
        (slice_get-map (planned_function tree) (declared_functions tree) i
        ∙ ap (option_map (planned_function tree)) found.1))

    within : i < length (planned_functions tree)
    within = let many = many_planned in omega (arith, below, many)

    its_calls : (n : ℕ) → is_among n one.calls ≡ calls g.lines n
    its_calls n =
        ap (λ (o : Needs). is_among n o.calls) its
        ∙ sym (ap (λ ns. is_among n ns)
        (functions_planned tree (slots_of tree (alone f)) (blocks_of (alone f)) (as_instance f)))

    pub not_used_more : get_or used i false ≡ false → Found lines i used
    not_used_more e = not_used lines (planned_functions tree) i g within here used h e

    pub used_more : (after : List Bool) → get_or used i false ≡ true
        → AreAdded i (λ n. is_among n one.calls) used after → Found lines i after
    used_more after e added =
        is_used_too lines (planned_functions tree) i g within here used h after e
        (same_added i (λ n. is_among n one.calls) (calls g.lines) used after (λ n. sym (its_calls n)) added)

-- ---- how deep functions are

depths_more : (known : List ℕ) (fs : List PlannedFunction) (f : PlannedFunction)
    → depths_from known (fs ++ f ∷ []) ≡ depths_from known fs ++ depth_of (depths_from known fs) f ∷ []
depths_more known [] f = refl
depths_more known (g ∷ fs) f = depths_more (known ++ depth_of known g ∷ []) fs f

-- with one function more
pub one_deeper : (tree : Tree) (i : ℕ) (one : Needs) (depths : List ℕ) → i < length (declared_functions tree)
    → one ≡ get_or (map (needs_of tree) (declared_functions tree)) i one
    → depths ≡ depths_from [] (take i (planned_functions tree))
    → depths ++ (greatest (map (depth_in depths) one.calls) + 1) ∷ []
    ≡ depths_from [] (take (i + 1) (planned_functions tree))
one_deeper tree i one depths below is e =
    let fs = declared_functions tree in
    let found = element fs i below in
    let f = found.0 in
    let g = planned_function tree f in
    let many = length-map fs (planned_function tree) in
    let its : one ≡ needs_of tree f = is
    ∙ get_or_from_slice_get (map (needs_of tree) fs) i (needs_of tree f) one
    (slice_get-map (needs_of tree) fs i ∙ ap (option_map (needs_of tree)) found.1) in
    let here : g ≡ get_or (planned_functions tree) i g =
    sym (get_or_from_slice_get (planned_functions tree) i g g
    (slice_get-map (planned_function tree) fs i ∙ ap (option_map (planned_function tree)) found.1)) in
    let called : one.calls ≡ functions_in (flat_map uses_in g.lines) = ap (λ (o : Needs). o.calls) its
    ∙ sym (functions_planned tree (slots_of tree (alone f)) (blocks_of (alone f)) (as_instance f)) in
    ap (λ ns. depths ++ (greatest (map (depth_in depths) ns) + 1) ∷ []) called
    ∙ ap (λ (ds : List ℕ). ds ++ depth_of ds g ∷ []) e
    ∙ sym (depths_more [] (take i (planned_functions tree)) g)
    ∙ ap (λ (gs : List PlannedFunction). depths_from [] gs)
    (sym (take_more (planned_functions tree) i g (omega (arith, below, many)) here))

-- the greater of two numbers, as code finds it
pub greater_is : (a b : ℕ) → ord_max nat_cmp a b ≡ max a b
greater_is a b =
    either (nat_lt b a)
    (λ t. let lt : b < a = grind (arith, nat_tests, t) in let e : a ≡ max a b = omega (arith, lt) in rw t e)
    (λ f.
    let le : a ≤ b = grind (arith, nat_tests, f) in
    let e : b ≡ max a b = omega (arith, le) in
    rw f (either (b == a) (λ t. rw t e) (λ g. rw g e)))

-- the deepest of some calls and one more
pub deepest_more : (known ns : List ℕ) (n : ℕ)
    → greatest (map (depth_in known) (ns ++ n ∷ [])) ≡ max (greatest (map (depth_in known) ns)) (depth_in known n)
deepest_more known ns n =
    ap greatest (map-append (depth_in known) ns (n ∷ [])) ∙ by (map (depth_in known) ns) (depth_in known n)
  where
    by : (ds : List ℕ) (d : ℕ) → greatest (ds ++ d ∷ []) ≡ max (greatest ds) d
    by [] d = omega arith
    by (e ∷ ds) d = let rest = by ds d in omega (arith, rest)

-- none is deeper than there are functions before
pub not_deeper : (known : List ℕ) (most : ℕ) → All (λ d. d ≤ most) known → (ns : List ℕ)
    → greatest (map (depth_in known) ns) ≤ most
not_deeper known most all [] = omega arith
not_deeper known most all (n ∷ ns) =
    let rest = not_deeper known most all ns in
    let one = by (slice_get known n) refl in
    omega (arith, rest, one)
  where
    by : (o : Option ℕ) → slice_get known n ≡ o → depth_in known n ≤ most
    by None e =
        let none : depth_in known n ≡ 0 = ap (λ o. option_map_or (λ d. d) o 0) e in
        omega (arith, none)
    by (Some d) e =
        let is : depth_in known n ≡ d = ap (λ o. option_map_or (λ d. d) o 0) e in
        let read : get_or known n 0 ≡ d = get_or_from_slice_get known n d 0 e in
        let low = all n 0 (below_end known n d e) in
        omega (arith, is, read, low)
