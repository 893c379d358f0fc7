-- The programs of a task's instances, and a function as one, are bodies of the text.
use Rattle.std.proofs.Common.{◌≡◌, ℕ, zero, suc, ◌+◌, List, [], ◌∷◌, map, length, Bool, true, false, refl, sym, ap}
use Rattle.std.proofs.Common.{◌∙◌, subst, arith, inl, inr, ◌⊎◌}
use Rattle.std.specs.Prelude.{Option, Some, None, slice_get, option_map, option_and_then, filter_map, if◌then◌else◌}
use Rattle.std.specs.List.{AllByRecursion, cons_option}
use Rattle.std.proofs.lemmas.Option.{slice_get-map}
use Rattle.ilsource.specs.Names.{folded}
use Rattle.ilsource.specs.SourceTrees.{Tree, functions_of}
use Rattle.ilsource.specs.declared.configuration.InstanceDeclaration.{InstanceDeclaration}
use Rattle.ilsource.specs.declared.name.Name.{Name}
use Rattle.ilsource.specs.declared.source.Element.{Element}
use Rattle.ilsource.specs.declared.source.Element.TheVariants.{DerivedType, Function, Program}
use Rattle.ilscope.specs.Configured.{program_number}
use Rattle.ilscope.specs.Declarations.{DeclaredFunction, DeclaredProgram, as_program, bodies_of, declared_function}
use Rattle.ilscope.specs.Declarations.{declared_functions, declared_programs, standing}
use Rattle.ilsyms.specs.Tasks.{NamedProgram, SourceTask, instance_named, instances_in, is_in, tasks_of}
use Rattle.ilsyms.specs.Variables.{alone}
use Rattle.ilsyms.proofs.NumberingPlaces.{in_front, past}
use Rattle.ilsyms.proofs.TaskCases.{IsDeclaredTask, IsMainTask, task_is}

module _ (tree : Tree) where
  -- a program of the text, or a function of it as one
  abbrev pub IsProgramOf : NamedProgram → Type 0
  IsProgramOf i = (d : ℕ) × (slice_get (declared_programs tree) d ≡ Some i.program)

  abbrev pub IsFunctionOf : NamedProgram → Type 0
  IsFunctionOf i =
      (k : ℕ) × (f : DeclaredFunction) × (slice_get (declared_functions tree) k ≡ Some f) × (i.program ≡ as_program f)

  abbrev pub IsOfText : NamedProgram → Type 0
  IsOfText i = IsProgramOf i ⊎ IsFunctionOf i

  -- each is one of the bodies
  pub in_bodies : (i : NamedProgram) → IsOfText i → (d : ℕ) × (slice_get (bodies_of tree) d ≡ Some i.program)
  in_bodies i (inl p) =
      (p.0, in_front (declared_programs tree) (map as_program (declared_functions tree)) p.0 i.program p.1)
  in_bodies i (inr f) = (
    length (declared_programs tree) + f.0,
    past (declared_programs tree) (map as_program (declared_functions tree)) f.0
        ∙ slice_get-map as_program (declared_functions tree) f.0
        ∙ ap (option_map as_program) f.2
        ∙ ap (λ (p : DeclaredProgram). Some p) (sym f.3),
  )

  -- ---- of a task

  of_number : (o : Option ℕ) (p : DeclaredProgram) → option_and_then (slice_get (declared_programs tree)) o ≡ Some p
      → (d : ℕ) × (slice_get (declared_programs tree) d ≡ Some p)
  of_number None p e = absurd cc
  of_number (Some k) p e = (k, e)

  declared_of_text : (task : ℕ) (is : List InstanceDeclaration) → AllByRecursion IsOfText (instances_in tree is task)
  declared_of_text task [] = tt
  declared_of_text task (i ∷ is) =
      by (declared_of_text task is) (is_in tree task i)
      (option_and_then (slice_get (declared_programs tree)) (program_number tree i.program)) refl
    where
      by : AllByRecursion IsOfText (instances_in tree is task) → (b : Bool) (o : Option DeclaredProgram)
          → option_and_then (slice_get (declared_programs tree)) (program_number tree i.program) ≡ o
          → AllByRecursion IsOfText
          (cons_option (if b then option_map (instance_named i.name) o else None) (instances_in tree is task))
      by rest false o e = rest
      by rest true None e = rest
      by rest true (Some p) e = (inl (of_number (program_number tree i.program) p e), rest)

  main_of_text : (ps : List DeclaredProgram) (n : ℕ)
      → ((k : ℕ) → slice_get (declared_programs tree) (n + k) ≡ slice_get ps k)
      → AllByRecursion IsOfText (map (λ p. instance_named p.program.name p) ps)
  main_of_text [] n h = tt
  main_of_text (p ∷ ps) n h = (
    inl (n + 0, h 0),
    main_of_text ps (n + 1)
        (λ k. let e : n + 1 + k ≡ n + suc k = omega arith in
        ap (slice_get (declared_programs tree)) e ∙ h (suc k)),
  )

  pub task_of_text : (number : ℕ) (t : SourceTask) → slice_get (tasks_of tree) number ≡ Some t
      → AllByRecursion IsOfText t.instances
  task_of_text number t e = by (task_is tree number t e)
    where
      by : IsDeclaredTask tree number t ⊎ IsMainTask tree number t → AllByRecursion IsOfText t.instances
      by (inl d) =
          subst (λ (s : SourceTask). AllByRecursion IsOfText s.instances) (sym d.is)
          (declared_of_text number d.configuration.instances)
      by (inr m) =
          subst (λ (s : SourceTask). AllByRecursion IsOfText s.instances) (sym m.is)
          (main_of_text (declared_programs tree) 0
          (λ k. let e : 0 + k ≡ k = omega arith in ap (slice_get (declared_programs tree)) e))

  -- ---- of a function

  pub function_of_text : (k : ℕ) (f : DeclaredFunction) → slice_get (declared_functions tree) k ≡ Some f
      → AllByRecursion IsOfText (alone f)
  function_of_text k f e = (inr (k, f, e, refl), tt)

-- the function of a number has so many above it
number_from : (spelled : Name → List ℕ) (es above : List Element) (k : ℕ) (f : DeclaredFunction)
    → slice_get (filter_map (declared_function spelled) (standing above es)) k ≡ Some f
    → f.functions ≡ length (functions_of above) + k
number_from spelled [] above k f e = absurd cc
number_from spelled (DerivedType type ∷ es) above k f e = number_from spelled es (DerivedType type ∷ above) k f e
number_from spelled (Program program ∷ es) above k f e = number_from spelled es (Program program ∷ above) k f e
number_from spelled (Function function ∷ es) above zero f e =
    let many : length (functions_of above) ≡ f.functions = cc in omega (arith, many)
number_from spelled (Function function ∷ es) above (suc k) f e =
    let rest = number_from spelled es (Function function ∷ above) k f e in omega (arith, rest)

pub number_above : (tree : Tree) (k : ℕ) (f : DeclaredFunction) → slice_get (declared_functions tree) k ≡ Some f
    → f.functions ≡ k
number_above tree k f e = let n = number_from (folded tree.text) tree.elements [] k f e in omega (arith, n)
