-- The functions of a well-named text are lawful in its plan: each has an input and a result, and its lines name its own
-- variables and the functions before it.
use Rattle.std.proofs.Common.{◌≡◌, ◌∙◌, ℕ, zero, suc, ◌+◌, ◌<◌, ◌≤◌, List, [], ◌∷◌, ◌++◌, map, take, length, get_or}
use Rattle.std.proofs.Common.{refl, sym, ap, subst, arith, inl, inr, append-nil, append_assoc, length-append}
use Rattle.std.specs.Prelude.{All, Some, None, Option, filter_map, option_map, slice_get}
use Rattle.std.specs.List.{AllByRecursion}
use Rattle.std.proofs.Math.ListN.{length-map}
use Rattle.std.proofs.lemmas.Option.{get_or_from_slice_get, slice_get-get_or, slice_get-map}
use Rattle.wordlines.specs.Wirings.{Wiring}
use Rattle.iltypes.specs.Values.{AreOf}
use Rattle.limits.specs.Limits.{most_calls}
use Rattle.ilsource.specs.Names.{folded}
use Rattle.ilsource.specs.Programs.{AreSorted}
use Rattle.ilsource.specs.SourceTrees.{Tree}
use Rattle.ilsource.specs.Words.{AreShallow}
use Rattle.ilsource.specs.declared.instruction.Line.{Line}
use Rattle.ilsource.specs.declared.name.Name.{Name}
use Rattle.ilsource.specs.declared.source.Element.{Element}
use Rattle.ilsource.specs.declared.source.Element.TheVariants.{DerivedType, Function, Program}
use Rattle.ilsource.specs.declared.symbol.Symbol.{Symbol}
use Rattle.ildeclared.specs.declared.fault.NameCause.TheVariants.{BadDeclaration, TooMany}
use Rattle.ildeclared.specs.declared.variable.DeclaredVariable.{DeclaredVariable}
use Rattle.ilscope.specs.Declarations.{DeclaredFunction, declared_function, declared_functions, standing}
use Rattle.ilscope.specs.Faults.{IsBadFunction}
use Rattle.ilscope.proofs.Typed.{IsTypedVariable, declared_typed_functions}
use Rattle.ilscope.proofs.Lists.{at_some}
use Rattle.ilplan.specs.Functions.{PlannedFunction, depth_of, depths_from}
use Rattle.ilplan.specs.Plans.{AreFunctions, AreLinesOf, IsFunction, in_body, inputs_of}
use Rattle.ilplan.specs.declared.place.Place.{Place}
use Rattle.ilsyms.specs.Faults.{IsWellNamed, depths_of}
use Rattle.ilsyms.specs.Resolved.{planned_function, planned_functions, planned_input, planned_variable}
use Rattle.ilsyms.specs.Variables.{alone}
use Rattle.ilsyms.proofs.FunctionLines.{many_slots}
use Rattle.ilsyms.proofs.Lists.{below_end}
use Rattle.ilsyms.proofs.NamedLines.{all_lines_named}
use Rattle.ilsyms.proofs.PlacedLists.{each_at}
use Rattle.ilsyms.proofs.PlanLimits.{few}
use Rattle.ilsyms.proofs.TextBodies.{function_of_text, number_above}

-- one function more
pub functions_more : (before fs : List PlannedFunction) (f : PlannedFunction) → AreFunctions before fs
    → IsFunction (before ++ fs) f → AreFunctions before (fs ++ f ∷ [])
functions_more before [] f are h = (subst (λ (b : List PlannedFunction). IsFunction b f) (append-nil before) h, tt)
functions_more before (g ∷ fs) f are h = (
  are.0,
  functions_more (before ++ g ∷ []) fs f are.1
      (subst (λ (b : List PlannedFunction). IsFunction b f) (sym (append_assoc before (g ∷ []) fs)) h),
)

-- what stands before a number
taken_at : {X : Type 0} (xs : List X) (n k : ℕ) (x : X) → k < n → slice_get xs k ≡ Some x
    → slice_get (take n xs) k ≡ Some x
taken_at [] n k x below e = absurd cc
taken_at (y ∷ xs) zero k x below e = absurd (omega (arith, below))
taken_at (y ∷ xs) (suc n) zero x below e = e
taken_at (y ∷ xs) (suc n) (suc k) x below e = taken_at xs n k x (omega (arith, below)) e

-- an element stands at each number below their count
none_there : {X : Type 0} (xs : List X) (k : ℕ) → k < length xs → ¬ (slice_get xs k ≡ None)
none_there [] k below e = absurd (omega (arith, below))
none_there (x ∷ xs) zero below e = cc
none_there (x ∷ xs) (suc k) below e = none_there xs k (omega (arith, below)) e

not_above : (m n : ℕ) → ¬ (m < n) → n ≤ m
not_above m zero h = omega arith
not_above zero (suc n) h = absurd (h (omega arith))
not_above (suc m) (suc n) h = let rest = not_above m n (λ less. h (omega (arith, less))) in omega (arith, rest)

-- each function has a result
has_result : (spelled : Name → List ℕ) (es above : List Element)
    → AllByRecursion (λ f. 1 ≤ length f.variables) (filter_map (declared_function spelled) (standing above es))
has_result spelled [] above = tt
has_result spelled (DerivedType type ∷ es) above = has_result spelled es (DerivedType type ∷ above)
has_result spelled (Program program ∷ es) above = has_result spelled es (Program program ∷ above)
has_result spelled (Function function ∷ es) above = (omega arith, has_result spelled es (Function function ∷ above))

some_input : (vs : List DeclaredVariable) → ¬ (vs ≡ []) → 1 ≤ length (map planned_input vs)
some_input [] some = absurd (some refl)
some_input (v ∷ vs) some = omega arith

typed : (vs : List DeclaredVariable) → All IsTypedVariable vs
    → AreOf (map (λ v. v.initial) (map planned_variable vs)) (map (λ v. v.value_type) (map planned_variable vs))
typed [] h = tt
typed (v ∷ vs) h = (h 0 v (omega arith), typed vs (λ k d below. h (suc k) d (omega (arith, below))))

module _ (tree : Tree) (wiring : Wiring) (well : IsWellNamed tree wiring) where
  abbrev functions : List DeclaredFunction
  functions = declared_functions tree

  module _ (k : ℕ) (f : DeclaredFunction) (there : slice_get functions k ≡ Some f) where
    not_bad : (place : ℕ) → ¬ IsBadFunction place f
    not_bad place bad =
        well place BadDeclaration (inl (inr (inr (inr (inr (at_some _ functions k f there bad))))))

    few_inputs : length f.inputs ≤ 16
    few_inputs =
        few (λ (v : DeclaredVariable). v.name.from) f.inputs 16
        (λ place e. well place TooMany (inr (inr (inr (inr (inr (inl (at_some _ functions k f there e))))))))

    its_inputs : (j : ℕ) (g : DeclaredFunction) → j < f.functions → slice_get functions j ≡ Some g
        → slice_get (inputs_of (take k (planned_functions tree))) j ≡ Some (length g.inputs)
    its_inputs j g below is =
        let above = number_above tree k f there in
        let planned : slice_get (planned_functions tree) j ≡ Some (planned_function tree g) =
        slice_get-map (planned_function tree) functions j ∙ ap (option_map (planned_function tree)) is
        in
        let taken = taken_at (planned_functions tree) k j (planned_function tree g) (omega (arith, below, above))
        planned
        in
        slice_get-map (λ (h : PlannedFunction). length h.inputs) (take k (planned_functions tree)) j
        ∙ ap (option_map (λ (h : PlannedFunction). length h.inputs)) taken
        ∙ ap (λ n. Some n) (length-map g.inputs planned_input)

    own_lines : AreShallow f.function.lines → AreSorted f.function.lines
        → AreLinesOf (in_body (take k (planned_functions tree)) (planned_function tree f))
        (planned_function tree f).lines
    own_lines shallow sorted =
        let names = in_body (take k (planned_functions tree)) (planned_function tree f) in
        let all = append-nil f.function.lines in
        let inputs = length-map f.inputs planned_input in
        let variables = length-map f.variables planned_variable in
        let many = many_slots tree f in
        subst (λ (lines : List (Line Place ℕ)). AreLinesOf names lines) (append-nil (planned_function tree f).lines)
        (all_lines_named tree wiring well names (alone f) (tt, tt) (omega (arith, inputs, variables, many)) refl
        (function_of_text tree k f there) (its_inputs, tt)
        (subst (λ (lines : List (Line Symbol Name)). AreShallow lines) (sym all) shallow)
        (subst (λ (lines : List (Line Symbol Name)). AreSorted lines) (sym all) sorted))

    pub is_function : AreShallow f.function.lines → AreSorted f.function.lines
        → IsFunction (take k (planned_functions tree)) (planned_function tree f)
    is_function shallow sorted =
        record {
          some_input = some_input f.inputs (λ none. not_bad f.function.name.from (inl (none, refl)));
          most_inputs =
              let inputs = length-map f.inputs planned_input in omega (arith, few_inputs, inputs);
          result =
              let some = each_at (λ (g : DeclaredFunction). 1 ≤ length g.variables) functions k f
              (has_result (folded tree.text) tree.elements []) there in
              let variables = length-map f.variables planned_variable in
              omega (arith, some, variables);
          initials =
              typed f.variables
              (subst (λ (g : DeclaredFunction). All IsTypedVariable g.variables)
              (get_or_from_slice_get functions k f f there)
              (declared_typed_functions tree k f (below_end functions k f there)));
          lines = own_lines shallow sorted;
        }

  -- ---- all functions

  pub few_functions : length functions ≤ 64
  few_functions =
      few (λ (f : DeclaredFunction). f.function.name.from) functions 64
      (λ place e. well place TooMany (inr (inr (inr (inr (inl e))))))

  as_many : (known : List ℕ) (fs : List PlannedFunction) → length (depths_from known fs) ≡ length known + length fs
  as_many known [] = omega arith
  as_many known (f ∷ fs) =
      let rest = as_many (known ++ depth_of known f ∷ []) fs in
      let one = length-append known (depth_of known f ∷ []) in
      omega (arith, rest, one)

  pub shallow_calls : All (λ depth. depth ≤ most_calls) (depths_from [] (planned_functions tree))
  shallow_calls k d below =
      let many = as_many [] (planned_functions tree) in
      let all = length-map functions (planned_function tree) in
      let depth = slice_get-get_or (depths_of tree) k d below in
      by (slice_get functions k) refl (omega (arith, below, many, all)) depth
    where
      not_deep : (f : DeclaredFunction) → slice_get functions k ≡ Some f
          → slice_get (depths_of tree) k ≡ Some (get_or (depths_of tree) k d)
          → ¬ (most_calls < get_or (depths_of tree) k d)
      not_deep f there depth deep =
          well f.function.name.from TooMany
          (inr (inr (inr (inr (inr (inr (record {
            number = k;
            function = f;
            depth = get_or (depths_of tree) k d;
            is = there;
            its = depth;
            deep = deep;
            stands = refl;
          })))))))

      by : (o : Option DeclaredFunction) → slice_get functions k ≡ o → k < length functions
          → slice_get (depths_of tree) k ≡ Some (get_or (depths_of tree) k d)
          → get_or (depths_of tree) k d ≤ most_calls
      by None there within depth = absurd (none_there functions k within there)
      by (Some f) there within depth = not_above most_calls (get_or (depths_of tree) k d) (not_deep f there depth)
