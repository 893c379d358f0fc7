-- The sets that are kept are those of the tasks that have an instance of a program, and of those that store to a global
-- variable, with each task or program more.
use Rattle.std.proofs.Common.{◌≡◌, ℕ, zero, suc, ◌+◌, ◌<◌, List, [], ◌∷◌, length, map, get_or, refl, sym, ap, ◌∙◌}
use Rattle.std.proofs.Common.{subst, ◌⊎◌, inl, inr, arith}
use Rattle.std.specs.Prelude.{All, Option, Some, None, IsSomeAnd, option_map, slice_get}
use Rattle.std.proofs.Math.ListN.{length-map}
use Rattle.std.proofs.lemmas.List.Elements.{All-cons, All-nil}
use Rattle.std.proofs.lemmas.Option.{get_or_from_slice_get, slice_get-get_or, slice_get-map, slice_get_within}
use Rattle.ilsource.specs.SourceTrees.{Tree}
use Rattle.ildeclared.specs.Faults.{SomeOf}
use Rattle.ildeclared.proofs.FoundOrder.{or_else}
use Rattle.ilscope.specs.Declarations.{declared_programs, DeclaredProgram}
use Rattle.ilscope.specs.UseFaults.{ProgramStores}
use Rattle.ilscope.proofs.Lists.{last_or_before}
use Rattle.ilsyms.specs.Faults.{TaskStores}
use Rattle.ilsyms.specs.TaskSteps.{AreInstances, AreInstancesOfTasks, instance_at}
use Rattle.ilsyms.specs.TaskSetSteps.{AreSetsOf, IsSetOf}
use Rattle.ilsyms.specs.WrittenTwiceSteps.{HasInstance, StoresBefore}
use Rattle.ilsyms.specs.Tasks.{NamedProgram, SourceTask, instance_named, tasks_of}
use Rattle.ilsyms.specs.declared.task_sets.TaskSet.{TaskSet}
use Rattle.ilsyms.specs.declared.task_sets.TaskSet.TheVariants.{Empty}
use Rattle.ilsyms.specs.declared.tasks.TaskInstance.{TaskInstance}

-- empty sets are those of no task
pub empty_are : (R : ℕ → ℕ → Type 0) (sets : List TaskSet) → All (λ s. s ≡ Empty) sets
    → ((number task : ℕ) → ¬ R number task) → AreSetsOf R sets
empty_are R sets all none number set is =
    let same = get_or_from_slice_get sets number set set is in
    let empty = all number set (slice_get_within sets number set is) in
    subst (λ s. IsSetOf (R number) s) (sym empty ∙ same) (none number)

-- the set with a number
pub set_at : (R : ℕ → ℕ → Type 0) (sets read : List TaskSet) (number : ℕ) (d : TaskSet) → AreSetsOf R sets
    → read ≡ sets → number < length read → IsSetOf (R number) (get_or read number d)
set_at R sets read number d are e below =
    are number (get_or read number d)
    (ap (λ (ss : List TaskSet). slice_get ss number) (sym e) ∙ slice_get-get_or read number d below)

-- ---- tasks with an instance of a program

some_mapped : (its : List TaskInstance) (k : ℕ) → SomeOf (λ i. i.program ≡ k) its
    → SomeOf (λ (n : ℕ). n ≡ k) (map (λ i. i.program) its)
some_mapped [] k s = s
some_mapped (i ∷ its) k (inl e) = inl e
some_mapped (i ∷ its) k (inr s) = inr (some_mapped its k s)

mapped_some : (its : List TaskInstance) (k : ℕ) → SomeOf (λ (n : ℕ). n ≡ k) (map (λ i. i.program) its)
    → SomeOf (λ i. i.program ≡ k) its
mapped_some [] k s = s
mapped_some (i ∷ its) k (inl e) = inl e
mapped_some (i ∷ its) k (inr s) = inr (mapped_some its k s)

module _ (tasks : List (List TaskInstance)) (number : ℕ) (its : List TaskInstance)
    (here : slice_get tasks number ≡ Some its) where
  abbrev Added : ℕ → ℕ → Type 0
  Added k task = SomeOf (λ (n : ℕ). n ≡ k) (map (λ i. i.program) its) × (task ≡ number)

  pub instances_to : (k task : ℕ) → HasInstance tasks (number + 1) k task
      → HasInstance tasks number k task ⊎ Added k task
  instances_to k task h =
      or_else (λ low. inl (low, h.1))
      (λ e. let there : slice_get tasks task ≡ Some its = ap (slice_get tasks) e ∙ here in
      inr (
        some_mapped its k (subst (λ (o : Option (List TaskInstance)).
            IsSomeAnd o (λ is. SomeOf (λ i. i.program ≡ k) is)) there h.1),
        e,
      )) (last_or_before task number h.0)

  pub instances_from : (k task : ℕ) → HasInstance tasks number k task ⊎ Added k task
      → HasInstance tasks (number + 1) k task
  instances_from k task (inl h) = (let low = h.0 in omega (arith, low), h.1)
  instances_from k task (inr h) =
      let e = h.1 in
      let there : slice_get tasks task ≡ Some its = ap (slice_get tasks) e ∙ here in (
        omega (arith, e),
        subst (λ (o : Option (List TaskInstance)).
            IsSomeAnd o (λ is. SomeOf (λ i. i.program ≡ k) is)) (sym there) (mapped_some its k h.0),
      )

-- ---- their programs are those of the text

module _ (tree : Tree) where
  pub program_at : (number : ℕ) → number < length (declared_programs tree)
      → (p : DeclaredProgram) × (slice_get (declared_programs tree) number ≡ Some p)
  program_at number below = at (declared_programs tree) number below
    where
      at : (ps : List DeclaredProgram) (i : ℕ) → i < length ps
          → (p : DeclaredProgram) × (slice_get ps i ≡ Some p)
      at [] i low = absurd (omega (arith, low))
      at (p ∷ ps) zero low = (p, refl)
      at (p ∷ ps) (suc i) low = at ps i (omega (arith, low))

  named_there : (i : TaskInstance) (p : NamedProgram) → instance_at tree i ≡ Some p
      → slice_get (declared_programs tree) i.program ≡ Some p.program
  named_there i p e = by (slice_get (declared_programs tree) i.program) refl
    where
      by : (o : Option DeclaredProgram) → slice_get (declared_programs tree) i.program ≡ o
          → o ≡ Some p.program
      by None f =
          let none : instance_at tree i ≡ None = ap (option_map (instance_named i.name)) f in absurd cc
      by (Some q) f =
          let some : instance_at tree i ≡ Some (instance_named i.name q) = ap (option_map (instance_named i.name)) f in
          let same : instance_named i.name q ≡ p = cc in
          ap (λ (x : NamedProgram). Some x.program) same

  pub all_known : (given : List TaskInstance) (instances : List NamedProgram) → AreInstances tree given instances
      → All (λ n. n < length (declared_programs tree)) (map (λ i. i.program) given)
  all_known [] instances are = All-nil _
  all_known (i ∷ given) [] are = absurd (let e = are in cc)
  all_known (i ∷ given) (p ∷ instances) are =
      let first : instance_at tree i ≡ Some p = cc in
      let rest : AreInstances tree given instances = cc in
      All-cons (λ n. n < length (declared_programs tree)) i.program (map (λ x. x.program) given)
      (slice_get_within (declared_programs tree) i.program p.program (named_there i p first))
      (all_known given instances rest)

  module _ (tasks : List (List TaskInstance)) (are : AreInstancesOfTasks tree tasks) where
    -- the task with a number, by its instances and back
    both_there : (number : ℕ) → option_map (map (instance_at tree)) (slice_get tasks number)
        ≡ option_map (λ (t : SourceTask). map Some t.instances) (slice_get (tasks_of tree) number)
    both_there number =
        sym (slice_get-map (map (instance_at tree)) tasks number)
        ∙ ap (λ (xs : List (List (Option NamedProgram))). slice_get xs number) are
        ∙ slice_get-map (λ (t : SourceTask). map Some t.instances) (tasks_of tree) number

    pub task_of_given : (number : ℕ) (given : List TaskInstance) → slice_get tasks number ≡ Some given
        → (task : SourceTask) × (slice_get (tasks_of tree) number ≡ Some task) × AreInstances tree given task.instances
    task_of_given number given here = by (slice_get (tasks_of tree) number) refl
      where
        both : option_map (map (instance_at tree)) (slice_get tasks number)
            ≡ option_map (λ (t : SourceTask). map Some t.instances) (slice_get (tasks_of tree) number)
        both = both_there number

        some : option_map (map (instance_at tree)) (slice_get tasks number) ≡ Some (map (instance_at tree) given)
        some = ap (option_map (map (instance_at tree))) here

        by : (o : Option SourceTask) → slice_get (tasks_of tree) number ≡ o
            → (task : SourceTask) × (slice_get (tasks_of tree) number ≡ Some task)
            × AreInstances tree given task.instances
        by None e =
            let none = both ∙ ap (option_map (λ (t : SourceTask). map Some t.instances)) e in
            absurd (let s = some in cc)
        by (Some task) e =
            let other = both ∙ ap (option_map (λ (t : SourceTask). map Some t.instances)) e in
            let whole : Some (map (instance_at tree) given) ≡ Some (map Some task.instances) = sym some ∙ other in
            (task, e, let same : map (instance_at tree) given ≡ map Some task.instances = cc in same)

    pub given_of_task : (number : ℕ) (task : SourceTask) → slice_get (tasks_of tree) number ≡ Some task
        → (given : List TaskInstance) × (slice_get tasks number ≡ Some given) × AreInstances tree given task.instances
    given_of_task number task here = by (slice_get tasks number) refl
      where
        both : option_map (map (instance_at tree)) (slice_get tasks number)
            ≡ option_map (λ (t : SourceTask). map Some t.instances) (slice_get (tasks_of tree) number)
        both = both_there number

        some : option_map (λ (t : SourceTask). map Some t.instances) (slice_get (tasks_of tree) number)
            ≡ Some (map Some task.instances)
        some = ap (option_map (λ (t : SourceTask). map Some t.instances)) here

        by : (o : Option (List TaskInstance)) → slice_get tasks number ≡ o
            → (given : List TaskInstance) × (slice_get tasks number ≡ Some given)
            × AreInstances tree given task.instances
        by None e =
            let none = sym both ∙ ap (option_map (map (instance_at tree))) e in
            absurd (let s = some in cc)
        by (Some given) e =
            let other = sym both ∙ ap (option_map (map (instance_at tree))) e in
            let whole : Some (map (instance_at tree) given) ≡ Some (map Some task.instances) = sym other ∙ some in
            (given, e, let same : map (instance_at tree) given ≡ map Some task.instances = cc in same)

    -- as many tasks
    pub tasks_as_many : length tasks ≡ length (tasks_of tree)
    tasks_as_many =
        let e = ap (λ (xs : List (List (Option NamedProgram))). length xs) are in
        let one = length-map tasks (map (instance_at tree)) in
        let other = length-map (tasks_of tree) (λ (t : SourceTask). map Some t.instances) in
        omega (arith, e, one, other)

    pub known_at : (number : ℕ) (given : List TaskInstance) → slice_get tasks number ≡ Some given
        → All (λ n. n < length (declared_programs tree)) (map (λ i. i.program) given)
    known_at number given here =
        let found = task_of_given number given here in
        all_known given found.0.instances found.2

    -- ---- tasks that store to a global variable

    module _ (number : ℕ) (p : DeclaredProgram) (here : slice_get (declared_programs tree) number ≡ Some p)
        (bound : ℕ) (all : bound ≡ length tasks) (stored : List ℕ)
        (are_stored : (g : ℕ) → (SomeOf (λ (n : ℕ). n ≡ g) stored → ProgramStores tree g p)
        × (ProgramStores tree g p → SomeOf (λ (n : ℕ). n ≡ g) stored)) where
      abbrev AlsoStores : ℕ → ℕ → Type 0
      AlsoStores g task = SomeOf (λ (n : ℕ). n ≡ g) stored × HasInstance tasks bound number task

      pub stores_to : (g task : ℕ) → StoresBefore tree tasks (number + 1) g task
          → StoresBefore tree tasks number g task ⊎ AlsoStores g task
      stores_to g task s =
          or_else
          (λ low. inl (record {
            number = s.number;
            program = s.program;
            below = low;
            is = s.is;
            stores = s.stores;
            runs = s.runs;
          }))
          (λ e. inr (last e)) (last_or_before s.number number s.below)
        where
          runs_within : (o : Option (List TaskInstance)) → slice_get tasks task ≡ o
              → IsSomeAnd o (λ is. SomeOf (λ i. i.program ≡ s.number) is) → task < bound
          runs_within None e r = absurd r
          runs_within (Some is) e r = let low = slice_get_within tasks task is e in omega (arith, low, all)

          last : s.number ≡ number → AlsoStores g task
          last e =
              let both : Some s.program ≡ Some p = sym s.is ∙ ap (slice_get (declared_programs tree)) e ∙ here in
              let same : s.program ≡ p = cc in (
                (are_stored g).1 (subst (λ (q : DeclaredProgram). ProgramStores tree g q) same s.stores),
                (
                  runs_within (slice_get tasks task) refl s.runs,
                  subst (λ (n : ℕ). IsSomeAnd (slice_get tasks task) (λ is. SomeOf (λ i. i.program ≡ n) is)) e s.runs,
                ),
              )

      pub stores_from : (g task : ℕ) → StoresBefore tree tasks number g task ⊎ AlsoStores g task
          → StoresBefore tree tasks (number + 1) g task
      stores_from g task (inl s) = record {
        number = s.number;
        program = s.program;
        below = let low = s.below in omega (arith, low);
        is = s.is;
        stores = s.stores;
        runs = s.runs;
      }
      stores_from g task (inr s) = record {
        number = number;
        program = p;
        below = omega arith;
        is = here;
        stores = (are_stored g).0 s.0;
        runs = s.1.1;
      }

    stored_by : (g k : ℕ) (p : DeclaredProgram) → slice_get (declared_programs tree) k ≡ Some p
        → ProgramStores tree g p → (given : List TaskInstance) (instances : List NamedProgram)
        → AreInstances tree given instances → SomeOf (λ i. i.program ≡ k) given
        → SomeOf (λ i. ProgramStores tree g i.program) instances
    stored_by g k p is stores [] instances are_its s = absurd s
    stored_by g k p is stores (i ∷ given) [] are_its s = absurd (let e = are_its in cc)
    stored_by g k p is stores (i ∷ given) (q ∷ instances) are_its (inl e) =
        let first : instance_at tree i ≡ Some q = cc in
        let both : Some q.program ≡ Some p =
        sym (named_there i q first) ∙ ap (slice_get (declared_programs tree)) e ∙ is in
        let same : p ≡ q.program = cc in
        inl (subst (λ (x : DeclaredProgram). ProgramStores tree g x) same stores)
    stored_by g k p is stores (i ∷ given) (q ∷ instances) are_its (inr s) =
        let rest : AreInstances tree given instances = cc in
        inr (stored_by g k p is stores given instances rest s)

    program_stores : (g : ℕ) (given : List TaskInstance) (instances : List NamedProgram)
        → AreInstances tree given instances → SomeOf (λ i. ProgramStores tree g i.program) instances
        → (k : ℕ) × (p : DeclaredProgram) × (slice_get (declared_programs tree) k ≡ Some p) × ProgramStores tree g p
        × SomeOf (λ i. i.program ≡ k) given
    program_stores g [] [] are_its s = absurd s
    program_stores g [] (q ∷ instances) are_its s = absurd (let e = are_its in cc)
    program_stores g (i ∷ given) [] are_its s = absurd s
    program_stores g (i ∷ given) (q ∷ instances) are_its (inl s) =
        let first : instance_at tree i ≡ Some q = cc in
        (i.program, q.program, named_there i q first, s, inl refl)
    program_stores g (i ∷ given) (q ∷ instances) are_its (inr s) =
        let rest : AreInstances tree given instances = cc in
        let found = program_stores g given instances rest s in
        (found.0, found.1, found.2, found.3, inr found.4)

    abbrev AtTask : ℕ → ℕ → Type 0
    AtTask g task = IsSomeAnd (slice_get (tasks_of tree) task) (TaskStores tree g)

    pub to_task : (g task : ℕ) → StoresBefore tree tasks (length (declared_programs tree)) g task → AtTask g task
    to_task g task s = by (slice_get tasks task) refl s.runs
      where
        by : (o : Option (List TaskInstance)) → slice_get tasks task ≡ o
            → IsSomeAnd o (λ is. SomeOf (λ i. i.program ≡ s.number) is) → AtTask g task
        by None e r = absurd r
        by (Some given) e r =
            let found = task_of_given task given e in
            subst (λ (o : Option SourceTask). IsSomeAnd o (TaskStores tree g)) (sym found.1)
            (stored_by g s.number s.program s.is s.stores given found.0.instances found.2 r)

    pub from_task : (g task : ℕ) → AtTask g task → StoresBefore tree tasks (length (declared_programs tree)) g task
    from_task g task s = by (slice_get (tasks_of tree) task) refl s
      where
        by : (o : Option SourceTask) → slice_get (tasks_of tree) task ≡ o → IsSomeAnd o (TaskStores tree g)
            → StoresBefore tree tasks (length (declared_programs tree)) g task
        by None e r = absurd r
        by (Some t) e r =
            let found = given_of_task task t e in
            let its = program_stores g found.0 t.instances found.2 r in
            record {
              number = its.0;
              program = its.1;
              below = slice_get_within (declared_programs tree) its.0 its.1 its.2;
              is = its.2;
              stores = its.3;
              runs =
                  subst (λ (o : Option (List TaskInstance)). IsSomeAnd o (λ is. SomeOf (λ i. i.program ≡ its.0) is))
                  (sym found.1) its.4;
            }
