-- What is gathered from all elements of a text, with its configuration, fills its tables.
use mathlib.Core.List.{reverse_aux}
use Rattle.std.proofs.Common.{◌≡◌, ◌∙◌, ℕ, List, [], ◌∷◌, ap, map, refl, subst}
use Rattle.std.specs.Prelude.{Option, filter_map, flat_map}
use Rattle.iltypes.specs.declared.value.IlType.{IlType}
use Rattle.ilsource.specs.Names.{folded, text_of}
use Rattle.ilsource.specs.SourceTrees.{Tree, types_of}
use Rattle.ilsource.specs.declared.declaration.TypeDeclaration.{TypeDeclaration}
use Rattle.ilsource.specs.declared.name.Name.{Name}
use Rattle.ilsource.specs.declared.source.Element.{Element}
use Rattle.ilsource.specs.declared.source.Element.TheVariants.{DerivedType, Function, Program}
use Rattle.ildeclared.specs.DataTypes.{TypeNames, types_below}
use Rattle.ildeclared.specs.Faults.{IsNextOf, OfCause, SomeOf}
use Rattle.ildeclared.specs.Globals.{globals_in, value_types_in}
use Rattle.ildeclared.specs.Kept.{Kept, types_in}
use Rattle.ildeclared.specs.Order.{lesser_of_two}
use Rattle.ildeclared.specs.declared.data_type.DataType.{DataType}
use Rattle.ildeclared.specs.declared.fault.NameCause.TheVariants.{Twice}
use Rattle.ildeclared.specs.declared.found.Found.{Found}
use Rattle.ildeclared.specs.declared.global.DeclaredGlobal.{DeclaredGlobal}
use Rattle.ildeclared.proofs.Least.{both_next, either_next}
use Rattle.ilscope.specs.Configured.{declared_globals_of, globals_of, task_declarations, types_of_text}
use Rattle.ilscope.specs.Declarations.{DeclaredFunction, DeclaredProgram, declared_function, declared_functions}
use Rattle.ilscope.specs.Declarations.{declared_program, declared_programs, name_of, standing}
use Rattle.ilscope.specs.Faults.{IsTwiceIn}
use Rattle.ilscope.specs.ScopeSteps.{AreAllNumbers, AreNumbersOf, AreTablesOf, IsFaultInElements, IsFaultInTables}
use Rattle.ilscope.specs.ScopeSteps.{IsFaultOfElement, IsGathered, IsGlobalOrTaskTwice, IsTwiceNumbered, above_all}
use Rattle.ilscope.specs.ScopeSteps.{block_names, external_names, names_of_function, variable_names}
use Rattle.ilscope.specs.Tables.{lowered}
use Rattle.ilscope.proofs.Spelling.{key_is}

pub spelled_is : (lower text : List ℕ) → lower ≡ lowered text → text_of lower ≡ folded text
spelled_is lower text e = λ i name. (ap (λ (w : List ℕ). text_of w name) e ∙ key_is text name) i

-- the types above what stands below all elements, the nearest first
above_all_is : (above all : List Element) → types_of (above_all above all) ≡ reverse_aux (types_of all) (types_of above)
above_all_is above [] = refl
above_all_is above (DerivedType type ∷ more) = above_all_is (DerivedType type ∷ above) more
above_all_is above (Function function ∷ more) = above_all_is (Function function ∷ above) more
above_all_is above (Program program ∷ more) = above_all_is (Program program ∷ above) more

-- what is gathered from all elements of a text, and what is kept of its configuration
module _ (after : Option Found) (tree : Tree) (lower : List ℕ) (types : Kept (Option DataType))
    (programs : List DeclaredProgram)
    (variables blocks externals : List (Kept ℕ)) (functions : List DeclaredFunction) (own : List (Kept ℕ))
    (least : Option Found) (lower_is : lower ≡ lowered tree.text)
    (gathered : IsGathered after lower tree.elements types programs variables blocks externals functions own
    least) where
  same : text_of lower ≡ folded tree.text
  same = spelled_is lower tree.text lower_is

  pub programs_are : programs ≡ declared_programs tree
  programs_are =
      gathered.declared
      ∙ ap (λ (s : Name → List ℕ). filter_map (declared_program s) (standing [] tree.elements)) same

  pub functions_are : functions ≡ declared_functions tree
  functions_are =
      gathered.functions_declared
      ∙ ap (λ (s : Name → List ℕ). filter_map (declared_function s) (standing [] tree.elements)) same

  pub types_are : types_in lower types ≡ types_of_text tree
  types_are =
      (λ i name. gathered.meant name i)
      ∙ ap (λ (s : Name → List ℕ). types_below s (types_of (above_all [] tree.elements))) same
      ∙ ap (λ (above : List TypeDeclaration). types_below (folded tree.text) above) (above_all_is [] tree.elements)

  numbered : (names : List Name) (numbers : Kept ℕ) → AreNumbersOf (text_of lower) names numbers
      → AreNumbersOf (folded tree.text) names numbers
  numbered names numbers h = subst (λ (s : Name → List ℕ). AreNumbersOf s names numbers) same h

  pub filled : (globals : List DeclaredGlobal) (value_types : List (Option IlType))
      (global_numbers task_numbers program_numbers function_numbers : Kept ℕ) →
      globals ≡ flat_map (globals_in (types_in lower types)) (declared_globals_of tree) →
      value_types ≡ flat_map (value_types_in (types_in lower types)) (declared_globals_of tree) →
      AreNumbersOf (text_of lower) (map (λ g. g.name) globals) global_numbers →
      AreNumbersOf (text_of lower) (map (λ t. t.name) (task_declarations tree)) task_numbers →
      AreNumbersOf (text_of lower) (map (λ p. p.program.name) programs) program_numbers →
      AreNumbersOf (text_of lower) (map (λ f. f.function.name) functions) function_numbers →
      AreTablesOf tree lower types programs variables blocks externals functions own globals value_types global_numbers
      task_numbers program_numbers function_numbers
  filled globals value_types global_numbers task_numbers program_numbers function_numbers g v n t p f =
      let globals_are : globals ≡ globals_of tree =
      g ∙ ap (λ (names : TypeNames). flat_map (globals_in names) (declared_globals_of tree)) types_are
      in
      record {
        text = lower_is;
        meant = types_are;
        declared = programs_are;
        variables_numbered =
            subst (λ (s : Name → List ℕ). AreAllNumbers s variable_names programs variables) same
            gathered.variables_numbered;
        blocks_numbered =
            subst (λ (s : Name → List ℕ). AreAllNumbers s block_names programs blocks) same gathered.blocks_numbered;
        externals_numbered =
            subst (λ (s : Name → List ℕ). AreAllNumbers s external_names programs externals) same
            gathered.externals_numbered;
        functions_declared = functions_are;
        own_numbered =
            subst (λ (s : Name → List ℕ). AreAllNumbers s names_of_function functions own) same gathered.own_numbered;
        global_variables = globals_are;
        global_types =
            v ∙ ap (λ (names : TypeNames). flat_map (value_types_in names) (declared_globals_of tree)) types_are;
        globals_numbered =
            subst (λ (gs : List DeclaredGlobal). AreNumbersOf (folded tree.text) (map (λ g. g.name) gs) global_numbers)
            globals_are (numbered (map (λ g. g.name) globals) global_numbers n);
        tasks_numbered = numbered (map (λ t. t.name) (task_declarations tree)) task_numbers t;
        programs_numbered =
            subst (λ (ps : List DeclaredProgram). AreNumbersOf (folded tree.text) (map (λ p. p.program.name) ps)
            program_numbers) programs_are (numbered (map (λ p. p.program.name) programs) program_numbers p);
        functions_numbered =
            subst (λ (fs : List DeclaredFunction). AreNumbersOf (folded tree.text) (map (λ f. f.function.name) fs)
            function_numbers) functions_are (numbered (map (λ f. f.function.name) functions) function_numbers f);
      }

  pub found_in_tables : (globals : List DeclaredGlobal) (element configured : Option Found) →
      globals ≡ flat_map (globals_in (types_in lower types)) (declared_globals_of tree) →
      IsNextOf after (OfCause Twice (IsTwiceIn (text_of lower) (map name_of tree.elements))) element →
      IsNextOf after (OfCause Twice (IsGlobalOrTaskTwice (text_of lower) globals (task_declarations tree))) configured →
      IsNextOf after (IsFaultInTables tree) (lesser_of_two least (lesser_of_two element configured))
  found_in_tables globals element configured g a b =
      let spelled = folded tree.text in
      let names = map name_of tree.elements in
      let tasks = task_declarations tree in
      let globals_are : globals ≡ globals_of tree =
      g ∙ ap (λ (names : TypeNames). flat_map (globals_in names) (declared_globals_of tree)) types_are
      in
      let of_elements : IsNextOf after (OfCause Twice (IsTwiceIn spelled names)) element =
      subst (λ (s : Name → List ℕ). IsNextOf after (OfCause Twice (IsTwiceIn s names)) element) same a
      in
      let of_these : IsNextOf after (OfCause Twice (IsGlobalOrTaskTwice spelled globals tasks)) configured =
      subst (λ (s : Name → List ℕ). IsNextOf after (OfCause Twice (IsGlobalOrTaskTwice s globals tasks)) configured)
      same b
      in
      let of_all : IsNextOf after (OfCause Twice (IsGlobalOrTaskTwice spelled (globals_of tree) tasks)) configured =
      subst (λ (gs : List DeclaredGlobal). IsNextOf after (OfCause Twice (IsGlobalOrTaskTwice spelled gs tasks))
      configured)
      globals_are of_these
      in
      both_next after (IsFaultInElements tree) (OfCause Twice (IsTwiceNumbered tree)) least
      (lesser_of_two element configured)
      (subst (λ (s : Name → List ℕ). IsNextOf after
      (λ place cause. SomeOf (λ one. IsFaultOfElement s one place cause) (standing [] tree.elements)) least) same
      gathered.fault)
      (either_next after Twice (IsTwiceIn spelled names) (IsGlobalOrTaskTwice spelled (globals_of tree) tasks) element
      configured of_elements of_all)

-- numbers and faults of names, in a text and of a list that are equal to those
pub moved_numbers : (lower l : List ℕ) (names ns : List Name) (numbers : Kept ℕ) → lower ≡ l → names ≡ ns →
    AreNumbersOf (text_of lower) names numbers → AreNumbersOf (text_of l) ns numbers
moved_numbers lower l names ns numbers e f h =
    subst (λ (w : List ℕ). AreNumbersOf (text_of w) ns numbers) e
    (subst (λ (ms : List Name). AreNumbersOf (text_of lower) ms numbers) f h)

pub moved_twice : (after : Option Found) (lower l : List ℕ) (names ns : List Name) (found : Option Found) → lower ≡ l
    → names ≡ ns →
    IsNextOf after (OfCause Twice (IsTwiceIn (text_of lower) names)) found →
    IsNextOf after (OfCause Twice (IsTwiceIn (text_of l) ns)) found
moved_twice after lower l names ns found e f h =
    subst (λ (w : List ℕ). IsNextOf after (OfCause Twice (IsTwiceIn (text_of w) ns)) found) e
    (subst (λ (ms : List Name). IsNextOf after (OfCause Twice (IsTwiceIn (text_of lower) ms)) found) f h)

-- and what is gathered
pub moved_gathered : (after : Option Found) (lower l : List ℕ) (front elements : List Element)
    (types : Kept (Option DataType))
    (programs : List DeclaredProgram) (variables blocks externals : List (Kept ℕ)) (functions : List DeclaredFunction)
    (own : List (Kept ℕ)) (least : Option Found) → lower ≡ l → front ≡ elements →
    IsGathered after lower front types programs variables blocks externals functions own least →
    IsGathered after l elements types programs variables blocks externals functions own least
moved_gathered after lower l front elements types programs variables blocks externals functions own least e f h =
    subst (λ (w : List ℕ). IsGathered after w elements types programs variables blocks externals functions own least) e
    (subst (λ (es : List Element). IsGathered after lower es types programs variables blocks externals functions own
    least) f
    h)
