-- A scan of a source program over names and a scan of its task over places leave the same store.
use Rattle.std.proofs.Common.{◌≡◌, ℕ, suc, List, [], ◌∷◌, ◌++◌, append-nil, length, map, refl, sym, ap, ◌∙◌}
use Rattle.std.specs.Prelude.{Option, Some, None, filter_map, slice_get, if◌then◌else◌}
use Rattle.std.specs.List.{enumerate_from}
use Rattle.std.specs.Option.{option_map, option_and_then}
use Rattle.iltypes.specs.declared.value.IlType.{IlType}
use Rattle.iltypes.specs.declared.value.Value.{Value}
use Rattle.ilsource.specs.Functions.{FunctionMeaning, are_of, begun, functions_from, variables_alone}
use Rattle.ilsource.specs.Meaning.{On}
use Rattle.ilsource.specs.Passes.{passes, scan}
use Rattle.ilsource.specs.Renaming.{IsSeen, IsRenamed}
use Rattle.ilsource.proofs.KeptMeaning.{renamed_same, operand_same}
use Rattle.ilsource.specs.SourceTrees.{Tree}
use Rattle.ilblocks.specs.Stores.{Shape, Store}
use Rattle.ildeclared.specs.declared.global.DeclaredGlobal.{DeclaredGlobal}
use Rattle.ildeclared.specs.declared.variable.DeclaredVariable.{DeclaredVariable}
use Rattle.ilscope.specs.Configured.{globals_of}
use Rattle.ilscope.specs.Declarations.{DeclaredFunction, declared_functions}
use Rattle.ilplan.specs.declared.function.FunctionInput.{FunctionInput}
use Rattle.ilplan.specs.declared.function.FunctionVariable.{FunctionVariable}
use Rattle.ilplan.specs.declared.instance.FunctionBlock.{FunctionBlock}
use Rattle.ilplan.specs.declared.slot.Slot.{Slot}
use Rattle.ilplan.specs.Functions.{function_types, starting_values}
use Rattle.ilplan.specs.PlanMeaning.{body_shape, function_value, functions_given, number_same, places_of, plan_scan}
use Rattle.ilscope.specs.SameNames.{same_name}
use Rattle.ilsyms.specs.Meaning.{instances_scan, names_in, place_of, source_body, source_functions, source_scan}
use Rattle.ilsyms.specs.Meaning.{source_value}
use Rattle.ilsyms.specs.Resolved.{label_number, new_places, planned_function, planned_functions, planned_input}
use Rattle.ilsyms.specs.Resolved.{planned_instance, planned_instances, planned_task, planned_variable}
use Rattle.ilsyms.specs.Tasks.{NamedProgram, SourceTask}
use Rattle.ilsyms.specs.Variables.{alone, as_instance, blocks_of, named_slot, own_slot, own_slots, shape_of, slots_in}
use Rattle.ilsyms.specs.Variables.{slots_of}
use Rattle.ilsyms.proofs.LabelRenaming.{labels_kept}

unchanged : (o : Option Store) → o ≡ option_map (λ store. store) o
unchanged None = refl
unchanged (Some store) = refl

then_same : (k l : Store → Option Store) (o q : Option Store)
    → ((store : Store) → k store ≡ l store)
    → o ≡ q → option_and_then k o ≡ option_and_then l q
then_same k l o q e g = ap (option_and_then k) g ∙ go_on q
  where
    go_on : (q : Option Store) → option_and_then k q ≡ option_and_then l q
    go_on None = refl
    go_on (Some store) = e store

module _ (shape : Shape) (tree : Tree) (known : List FunctionMeaning) (slots : List Slot)
    (blocks : List FunctionBlock) where
  seen : (i : NamedProgram)
      → IsSeen (names_in shape tree known slots blocks i) (places_of shape known) (new_places tree slots blocks i)
      (λ store. store)
  seen i = record {
    read = λ s o.
        operand_same (names_in shape tree known slots blocks i) (places_of shape known)
        (place_of tree slots blocks i) (λ store. store) (λ s n. refl) s o;
    write = λ s n v. unchanged _;
    pass = λ s n v. unchanged _;
    call = λ s n. unchanged _;
    give = λ n vs. refl;
  }

  pub instance_same : (i : NamedProgram) (store : Store)
      → passes number_same (places_of shape known) (planned_instance tree slots blocks i).lines On None store
      ≡ passes (same_name tree.text) (names_in shape tree known slots blocks i) i.program.program.lines On None store
  instance_same i store =
      let renamed : IsRenamed (same_name tree.text) number_same (new_places tree slots blocks i)
      i.program.program.lines (planned_instance tree slots blocks i).lines =
      record {
        label = label_number tree.text i.program.program.lines;
        kept = labels_kept tree.text i.program.program.lines;
        is = refl;
      }
      in
      renamed_same (names_in shape tree known slots blocks i) (places_of shape known)
      (new_places tree slots blocks i) (λ store. store) (seen i) (same_name tree.text) number_same
      i.program.program.lines (planned_instance tree slots blocks i).lines renamed None store
      ∙ sym (unchanged _)

  pub instances_same : (is : List NamedProgram) (store : Store)
      → scan number_same (places_of shape known)
      (map (λ i. i.lines) (map (planned_instance tree slots blocks) is)) store
      ≡ instances_scan shape tree known slots blocks is store
  instances_same [] store = refl
  instances_same (i ∷ is) store =
      then_same _ (instances_scan shape tree known slots blocks is) _ _ (λ s. instances_same is s)
      (instance_same i store)

-- ---- functions

map_twice : {X Y Z : Type 0} (g : Y → Z) (h : X → Y) (xs : List X) → map g (map h xs) ≡ map (λ x. g (h x)) xs
map_twice g h [] = refl
map_twice {Z = Z} g h (x ∷ xs) = ap (λ (zs : List Z). g (h x) ∷ zs) (map_twice g h xs)

map_both : {X Y : Type 0} (g : X → Y) (xs ys : List X) → map g (xs ++ ys) ≡ map g xs ++ map g ys
map_both g [] ys = refl
map_both {Y = Y} g (x ∷ xs) ys = ap (λ (zs : List Y). g x ∷ zs) (map_both g xs ys)

map_length : {X Y : Type 0} (g : X → Y) (xs : List X) → length (map g xs) ≡ length xs
map_length g [] = refl
map_length g (x ∷ xs) = ap suc (map_length g xs)

module _ (tree : Tree) (f : DeclaredFunction) where
  -- a function names no global variable
  no_globals : (gs : List (ℕ × DeclaredGlobal)) → filter_map (named_slot tree (alone f)) gs ≡ []
  no_globals [] = refl
  no_globals (g ∷ gs) = no_globals gs

  -- its slots are its own variables
  pub slots_alone : slots_of tree (alone f) ≡ slots_in (as_instance f)
  slots_alone =
      ap (λ (ss : List Slot). ss ++ own_slots (alone f)) (no_globals (enumerate_from 0 (globals_of tree)))
      ∙ append-nil (slots_in (as_instance f))

  types_are : map (λ v. v.value_type) (f.inputs ++ f.variables) ≡ function_types (planned_function tree f)
  types_are =
      map_both (λ (v : DeclaredVariable). v.value_type) f.inputs f.variables
      ∙ (λ i. sym (map_twice (λ (x : FunctionInput). x.value_type) planned_input f.inputs) i
      ++ sym (map_twice (λ (x : FunctionVariable). x.value_type) planned_variable f.variables) i)

  initials_are : map (λ v. v.initial) f.variables ≡ starting_values (planned_function tree f)
  initials_are = sym (map_twice (λ (x : FunctionVariable). x.initial) planned_variable f.variables)

  shape_is : shape_of tree 0 (alone f) ≡ body_shape (planned_function tree f)
  shape_is =
      ap (λ (types : List IlType). record { buses = 0; slots = types; kinds = [] })
      (ap (λ (ss : List Slot). map (λ s. s.value_type) ss) slots_alone
      ∙ map_twice (λ (s : Slot). s.value_type) (own_slot f.function.name) (f.inputs ++ f.variables)
      ∙ types_are)

  -- where those before it give this, a function gives the same over places
  value_at : (known : List FunctionMeaning) (arguments : List Value)
      → source_value tree known f arguments ≡ function_value known (planned_function tree f) arguments
  value_at known arguments =
      let slots = slots_of tree (alone f) in
      let blocks = blocks_of (alone f) in
      let shape = shape_of tree 0 (alone f) in
      let lines = (planned_instance tree slots blocks (as_instance f)).lines in
      let many : length f.inputs ≡ length (map planned_input f.inputs) = sym (map_length planned_input f.inputs) in
      ap (λ (o : Option Store). option_and_then (λ s. slice_get s.slots (length f.inputs)) o)
      (then_same _ (passes number_same (places_of shape known) lines On None) (begun (source_body f) arguments) _
      (λ s. sym (instance_same shape tree known slots blocks (as_instance f) s)) refl)
      ∙ (λ i. option_and_then (λ s. slice_get s.slots (many i))
      (option_and_then (passes number_same (places_of (shape_is i) known) lines On None)
      (if are_of (types_are i) (arguments ++ initials_are i)
      then Some (variables_alone (arguments ++ initials_are i)) else None)))

  value_same : (known : List FunctionMeaning)
      → source_value tree known f ≡ function_value known (planned_function tree f)
  value_same known = λ i arguments. value_at known arguments i

functions_same : (tree : Tree) (known others : List FunctionMeaning) → known ≡ others → (fs : List DeclaredFunction)
    → functions_from (source_value tree) known fs
    ≡ functions_from function_value others (map (planned_function tree) fs)
functions_same tree known others e [] = e
functions_same tree known others e (f ∷ fs) =
    functions_same tree (known ++ source_value tree known f ∷ [])
    (others ++ function_value others (planned_function tree f) ∷ [])
    (ap (λ (m : FunctionMeaning). known ++ m ∷ []) (value_same tree f known)
    ∙ (λ i. e i ++ function_value (e i) (planned_function tree f) ∷ []))
    fs

pub functions_mean_the_same : (tree : Tree) → source_functions tree ≡ functions_given (planned_functions tree)
functions_mean_the_same tree = functions_same tree [] [] refl (declared_functions tree)

-- ---- tasks

pub means_the_same : (tree : Tree) (buses : ℕ) (task : SourceTask) (store : Store)
    → plan_scan buses (planned_functions tree) (planned_task tree task) store ≡ source_scan tree buses task store
means_the_same tree buses task store =
    ap (λ (known : List FunctionMeaning). scan number_same (places_of (shape_of tree buses task.instances) known)
    (map (λ i. i.lines) (planned_instances tree task.instances)) store) (sym (functions_mean_the_same tree))
    ∙ instances_same (shape_of tree buses task.instances) tree (source_functions tree) (slots_of tree task.instances)
    (blocks_of task.instances) task.instances store
