-- Of functions those that are marked: gone through from front to back, and as functions of the plan.
use Rattle.std.proofs.Common.{◌≡◌, ℕ, zero, suc, ◌+◌, ◌<◌, List, [], ◌∷◌, ◌++◌, length, map, take, replicate, get_or}
use Rattle.std.proofs.Common.{Bool, true, false, refl, sym, ap, ◌∙◌, arith, append-nil}
use Rattle.std.specs.Prelude.{Option, Some, None, ◌||◌, flat_map, is_some, if◌then◌else◌, min}
use Rattle.std.specs.List.{list_any}
use Rattle.std.proofs.Math.ListN.{length-map}
use Rattle.std.proofs.lemmas.Grind.{flat_map-append}
use Rattle.std.proofs.lemmas.List.{map-append}
use Rattle.std.proofs.lemmas.Simd.{map-map}
use Rattle.ildeclared.specs.declared.variable.DeclaredVariable.{DeclaredVariable}
use Rattle.ilscope.specs.Declarations.{DeclaredFunction, declared_functions}
use Rattle.ilsource.specs.SourceTrees.{Tree}
use Rattle.ilsource.specs.Uses.{uses_in}
use Rattle.ilsource.specs.declared.instruction.Line.{Line}
use Rattle.ilsource.specs.declared.uses.Use.{Use}
use Rattle.ilscope.specs.Uses.{uses_of}
use Rattle.ilplan.specs.declared.function.FunctionInput.{FunctionInput}
use Rattle.ilplan.specs.declared.function.FunctionVariable.{FunctionVariable}
use Rattle.ilplan.specs.declared.place.Place.{Place}
use Rattle.ilplan.specs.Functions.{PlannedFunction, calls, those_in, used_from}
use Rattle.ilplan.specs.Plans.{all_lines}
use Rattle.ilsyms.specs.Faults.{all_uses, slot_places, starting_use, uses_of_function, word_places}
use Rattle.ilsyms.specs.FunctionSteps.{Needs, are_used, begins_with, marked, needs_of}
use Rattle.ilsyms.specs.Resolved.{functions_used, planned_function, planned_input}
use Rattle.ilsyms.specs.Resolved.{planned_instances, planned_variable}
use Rattle.ilsyms.specs.Tasks.{NamedProgram}
use Rattle.ilsyms.specs.Variables.{alone, as_instance, blocks_of, lines_of, slots_of}
use Rattle.ilsyms.proofs.PlannedUses.{all_planned, counted_planned, words_planned}
use Rattle.ilsyms.proofs.UsesAlike.{all_counted, counted_of}

-- ---- from front to back

abbrev one_or_none : Bool → Needs → List Needs
one_or_none mark one = if mark then one ∷ [] else []

one_more : (marks : List Bool) (needs : List Needs) (k : ℕ) (mark : Bool) (one : Needs) → k < length marks
    → k < length needs → mark ≡ get_or marks k mark → one ≡ get_or needs k one
    → marked (take (suc k) marks) (take (suc k) needs)
    ≡ marked (take k marks) (take k needs) ++ one_or_none mark one
one_more [] needs k mark one low high e h = absurd (omega (arith, low))
one_more (m ∷ marks) [] k mark one low high e h = absurd (omega (arith, high))
one_more (m ∷ marks) (n ∷ needs) zero mark one low high e h = (λ i. one_or_none (sym e i) (sym h i))
one_more (m ∷ marks) (n ∷ needs) (suc k) mark one low high e h =
    by m (one_more marks needs k mark one (omega (arith, low)) (omega (arith, high)) e h)
  where
    rest : List Needs
    rest = marked (take (suc k) marks) (take (suc k) needs)

    before : List Needs
    before = marked (take k marks) (take k needs)

    by : (b : Bool) → rest ≡ before ++ one_or_none mark one
        → (if b then n ∷ rest else rest) ≡ (if b then n ∷ before else before) ++ one_or_none mark one
    by true e = ap (λ ns. n ∷ ns) e
    by false e = e

module _ {X : Type 0} (part : Needs → List X) (marks : List Bool) (needs : List Needs) where
  -- what a part of those so far gives
  abbrev pub so_far : ℕ → List X
  so_far k = flat_map part (marked (take k marks) (take k needs))

  pub with_marked : (k : ℕ) (one : Needs) → k < length marks → k < length needs → true ≡ get_or marks k true
      → one ≡ get_or needs k one → so_far (k + 1) ≡ so_far k ++ part one
  with_marked k one low high e h =
      let before = marked (take k marks) (take k needs) in
      let z : k + 1 ≡ suc k = omega arith in
      ap so_far z ∙ ap (λ ns. flat_map part ns) (one_more marks needs k true one low high e h)
      ∙ flat_map-append part before (one ∷ [])
      ∙ ap (λ xs. flat_map part before ++ xs) (append-nil (part one))

  pub without_unmarked : (k : ℕ) (one : Needs) → k < length marks → k < length needs → false ≡ get_or marks k false
      → one ≡ get_or needs k one → so_far (k + 1) ≡ so_far k
  without_unmarked k one low high e h =
      let z : k + 1 ≡ suc k = omega arith in
      ap so_far z
      ∙ ap (λ ns. flat_map part ns)
      (one_more marks needs k false one low high e h ∙ append-nil (marked (take k marks) (take k needs)))

all_of : (marks : List Bool) (needs : List Needs) (k : ℕ) → k ≡ min (length marks) (length needs)
    → marked (take k marks) (take k needs) ≡ marked marks needs
all_of [] needs zero e = refl
all_of [] needs (suc k) e = absurd (omega (arith, e))
all_of (m ∷ marks) [] zero e = refl
all_of (m ∷ marks) [] (suc k) e = absurd (omega (arith, e))
all_of (m ∷ marks) (n ∷ needs) zero e = absurd (omega (arith, e))
all_of (m ∷ marks) (n ∷ needs) (suc k) e =
    ap (λ ns. if m then n ∷ ns else ns) (all_of marks needs k (omega (arith, e)))

pub all_so_far : {X : Type 0} (part : Needs → List X) (marks : List Bool) (needs : List Needs) (k : ℕ)
    → k ≡ min (length marks) (length needs) → so_far part marks needs k ≡ flat_map part (marked marks needs)
all_so_far part marks needs k e = ap (λ ns. flat_map part ns) (all_of marks needs k e)

-- ---- as functions of the plan

module _ (tree : Tree) where
  -- where each function's part is that of the plan's function, so are the parts of those that are used
  module _ {X : Type 0} (part : Needs → List X) (other : PlannedFunction → List X)
      (same : (f : DeclaredFunction) → part (needs_of tree f) ≡ other (planned_function tree f))
      (lines : List (Line Place ℕ)) where
    used_parts : (number : ℕ) (fs : List DeclaredFunction)
        → flat_map part
        (marked (map (λ (f : Option PlannedFunction). is_some f)
        (used_from lines number (map (planned_function tree) fs))) (map (needs_of tree) fs))
        ≡ flat_map other (those_in (used_from lines number (map (planned_function tree) fs)))
    used_parts number [] = refl
    used_parts number (f ∷ fs) =
        by (calls lines number || list_any (λ g. calls g.lines number) (those_in later)) (used_parts (number + 1) fs)
      where
        later : List (Option PlannedFunction)
        later = used_from lines (number + 1) (map (planned_function tree) fs)

        by : (b : Bool)
            → flat_map part (marked (map (λ (f : Option PlannedFunction). is_some f) later) (map (needs_of tree) fs))
            ≡ flat_map other (those_in later)
            → flat_map part
            (marked
            (map (λ (f : Option PlannedFunction). is_some f)
            ((if b then Some (planned_function tree f) else None) ∷ later))
            (needs_of tree f ∷ map (needs_of tree) fs))
            ≡ flat_map other (those_in ((if b then Some (planned_function tree f) else None) ∷ later))
        by true e = (λ i. same f i ++ e i)
        by false e = e

  module _ (instances : List NamedProgram) where
    -- the needs of those that a task uses
    abbrev pub used_needs : List Needs
    used_needs = marked (are_used tree instances) (map (needs_of tree) (declared_functions tree))

    parts : {X : Type 0} (part : Needs → List X) (other : PlannedFunction → List X)
        → ((f : DeclaredFunction) → part (needs_of tree f) ≡ other (planned_function tree f))
        → flat_map part used_needs ≡ flat_map other (functions_used tree instances)
    parts part other same =
        used_parts part other same (all_lines (planned_instances tree instances)) 0 (declared_functions tree)

    pub slots_used : flat_map (λ one. one.slots) used_needs ≡ flat_map slot_places (functions_used tree instances)
    slots_used =
        parts (λ one. one.slots) slot_places
        (λ f. map-append (λ (v : DeclaredVariable). v.name.from) f.inputs f.variables
        ∙ (λ i. sym (map-map (λ (x : FunctionInput). x.name.from) planned_input f.inputs) i
        ++ sym (map-map (λ (x : FunctionVariable). x.name.from) planned_variable f.variables) i))

    pub words_used : flat_map (λ one. one.words) used_needs ≡ flat_map word_places (functions_used tree instances)
    words_used =
        parts (λ one. one.words) word_places
        (λ f. (λ i. replicate (sym (length-map f.variables planned_variable) i) f.function.name.from
        ++ sym (words_planned tree (slots_of tree (alone f)) (blocks_of (alone f)) (as_instance f)) i))

    values_alike : (f : DeclaredFunction) (vs : List DeclaredVariable)
        → all_counted (map (begins_with f.function.name) vs)
        ≡ all_counted (map (starting_use (planned_function tree f)) (map planned_variable vs))
    values_alike f [] = refl
    values_alike f (v ∷ vs) = ap (λ cs. (f.function.name.from, Some v.initial) ∷ cs) (values_alike f vs)

    counted_parts : {N : Type 0} {F : Type 0} (uses : F → List (Use N)) (fs : List F)
        → all_counted (flat_map uses fs) ≡ flat_map (λ f. all_counted (uses f)) fs
    counted_parts uses [] = refl
    counted_parts uses (f ∷ fs) =
        map-append counted_of (uses f) (flat_map uses fs)
        ∙ ap (λ cs. all_counted (uses f) ++ cs) (counted_parts uses fs)

    -- what lines use, and what functions do that are used, counts as in the plan
    pub uses_used : all_counted (uses_of (lines_of instances) ++ flat_map (λ one. one.uses) used_needs)
        ≡ all_counted (all_uses tree instances)
    uses_used =
        map-append counted_of (uses_of (lines_of instances)) (flat_map (λ one. one.uses) used_needs)
        ∙ (λ i. sym (all_planned tree (slots_of tree instances) (blocks_of instances) instances) i ++ functions i)
        ∙ sym (map-append counted_of (flat_map uses_in (all_lines (planned_instances tree instances)))
        (flat_map uses_of_function (functions_used tree instances)))
      where
        one_function : (f : DeclaredFunction)
            → all_counted (needs_of tree f).uses ≡ all_counted (uses_of_function (planned_function tree f))
        one_function f =
            map-append counted_of (map (begins_with f.function.name) f.variables) (uses_of f.function.lines)
            ∙ (λ i. values_alike f f.variables i
            ++ sym (counted_planned tree (slots_of tree (alone f)) (blocks_of (alone f)) (as_instance f)) i)
            ∙ sym (map-append counted_of
            (map (starting_use (planned_function tree f)) (map planned_variable f.variables))
            (flat_map uses_in (planned_function tree f).lines))

        functions : all_counted (flat_map (λ one. one.uses) used_needs)
            ≡ all_counted (flat_map uses_of_function (functions_used tree instances))
        functions =
            counted_parts (λ (one : Needs). one.uses) used_needs
            ∙ parts (λ one. all_counted one.uses) (λ f. all_counted (uses_of_function f)) one_function
            ∙ sym (counted_parts uses_of_function (functions_used tree instances))
