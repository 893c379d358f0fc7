-- What each task of a text is: one that is declared, or `main`.
use Rattle.std.proofs.Common.{◌≡◌, ℕ, zero, suc, ◌+◌, List, [], ◌∷◌, map, refl, sym, ap, ◌∙◌, subst, arith}
use Rattle.std.proofs.Common.{◌⊎◌, inl, inr}
use Rattle.std.specs.Prelude.{Option, Some, None, slice_get, option_map, option_and_then, All, if◌then◌else◌, Bool}
use Rattle.std.specs.Prelude.{true, false}
use Rattle.std.specs.List.{cons_option, enumerate_from}
use Rattle.std.specs.Option.{option_map_or}
use Rattle.std.proofs.lemmas.Option.{slice_get-map, get_or_from_slice_get}
use Rattle.ilsource.specs.Configurations.{Configured}
use Rattle.ilsource.specs.declared.configuration.InstanceDeclaration.{InstanceDeclaration}
use Rattle.ilsource.specs.declared.configuration.TaskDeclaration.{TaskDeclaration}
use Rattle.ilsource.specs.SourceTrees.{Tree}
use Rattle.ilscope.specs.Configured.{program_number}
use Rattle.ilscope.specs.Declarations.{declared_programs, DeclaredProgram}
use Rattle.ilscope.proofs.Typed.{declared_typed_programs, IsTypedVariable}
use Rattle.ilsyms.specs.Tasks.{SourceTask, instance_named, instances_in, is_in, declared_task, main_task, tasks_of}
use Rattle.ilsyms.proofs.Lists.{below_end}
use Rattle.ilsyms.proofs.SlotTypes.{AreTypedInstances}

rows_at : {X : Type 0} (xs : List X) (k n : ℕ)
    → slice_get (enumerate_from k xs) n ≡ option_map (λ x. (k + n, x)) (slice_get xs n)
rows_at [] k n = refl
rows_at (x ∷ xs) k zero = let e : k ≡ k + 0 = omega arith in ap (λ m. Some (m, x)) e
rows_at (x ∷ xs) k (suc n) =
    let e : (k + 1) + n ≡ k + suc n = omega arith in
    rows_at xs (k + 1) n ∙ ap (λ m. option_map (λ y. (m, y)) (slice_get xs n)) e

pub record IsDeclaredTask (tree : Tree) (number : ℕ) (t : SourceTask) : Type 0 where
  pub configuration : Configured
  pub declared : TaskDeclaration
  pub configured : tree.configuration ≡ Some configuration
  pub there : slice_get configuration.tasks number ≡ Some declared
  pub is : t ≡ declared_task tree configuration (number, declared)

pub record IsMainTask (tree : Tree) (number : ℕ) (t : SourceTask) : Type 0 where
  pub none : tree.configuration ≡ None
  pub first : number ≡ 0
  pub is : t ≡ main_task tree

module _ (tree : Tree) where
  abbrev tasks_by : Option Configured → List SourceTask
  tasks_by o = option_map_or (λ c. map (declared_task tree c) (enumerate_from 0 c.tasks)) o (main_task tree ∷ [])

  -- the task of a number that is declared
  pub task_at : (c : Configured) (number : ℕ) → slice_get (map (declared_task tree c) (enumerate_from 0 c.tasks)) number
      ≡ option_map (λ d. declared_task tree c (number, d)) (slice_get c.tasks number)
  task_at c number =
      let e : 0 + number ≡ number = omega arith in
      slice_get-map (declared_task tree c) (enumerate_from 0 c.tasks) number
      ∙ ap (option_map (declared_task tree c))
      (rows_at c.tasks 0 number ∙ ap (λ m. option_map (λ d. (m, d)) (slice_get c.tasks number)) e)
      ∙ twice (slice_get c.tasks number)
    where
      twice : (o : Option TaskDeclaration)
          → option_map (declared_task tree c) (option_map (λ d. (number, d)) o)
          ≡ option_map (λ d. declared_task tree c (number, d)) o
      twice None = refl
      twice (Some d) = refl

  pub task_is : (number : ℕ) (t : SourceTask) → slice_get (tasks_of tree) number ≡ Some t
      → IsDeclaredTask tree number t ⊎ IsMainTask tree number t
  task_is number t e = by tree.configuration refl e
    where
      main : (n : ℕ) → n ≡ number → tree.configuration ≡ None → slice_get (main_task tree ∷ []) n ≡ Some t
          → IsDeclaredTask tree number t ⊎ IsMainTask tree number t
      main zero same none e =
          let is : main_task tree ≡ t = cc in inr (record { none = none; first = sym same; is = sym is })
      main (suc n) same none e = absurd cc

      found : (c : Configured) → tree.configuration ≡ Some c → (o : Option TaskDeclaration)
          → slice_get c.tasks number ≡ o → option_map (λ d. declared_task tree c (number, d)) o ≡ Some t
          → IsDeclaredTask tree number t ⊎ IsMainTask tree number t
      found c configured None there e = absurd cc
      found c configured (Some d) there e =
          let is : declared_task tree c (number, d) ≡ t = cc in
          inl (record { configuration = c; declared = d; configured = configured; there = there; is = sym is })

      by : (o : Option Configured) → tree.configuration ≡ o → slice_get (tasks_by o) number ≡ Some t
          → IsDeclaredTask tree number t ⊎ IsMainTask tree number t
      by None is e = main number refl is e
      by (Some c) is e = found c is (slice_get c.tasks number) refl (sym (task_at c number) ∙ e)

  -- ---- their programs are declared ones

  typed_program : (o : Option ℕ) (p : DeclaredProgram) → option_and_then (slice_get (declared_programs tree)) o ≡ Some p
      → All IsTypedVariable p.variables
  typed_program None p e = absurd cc
  typed_program (Some k) p e =
      let below = below_end (declared_programs tree) k p e in
      subst (λ (q : DeclaredProgram). All IsTypedVariable q.variables)
      (get_or_from_slice_get (declared_programs tree) k p p e)
      (declared_typed_programs tree k p below)

  typed_in : (task : ℕ) (is : List InstanceDeclaration) → AreTypedInstances (instances_in tree is task)
  typed_in task [] = tt
  typed_in task (i ∷ is) =
      by (typed_in task is) (is_in tree task i)
      (option_and_then (slice_get (declared_programs tree)) (program_number tree i.program)) refl
    where
      by : AreTypedInstances (instances_in tree is task) → (b : Bool) (o : Option DeclaredProgram)
          → option_and_then (slice_get (declared_programs tree)) (program_number tree i.program) ≡ o
          → AreTypedInstances
          (cons_option (if b then option_map (instance_named i.name) o else None) (instances_in tree is task))
      by rest false o e = rest
      by rest true None e = rest
      by rest true (Some p) e = (typed_program (program_number tree i.program) p e, rest)

  typed_main : (ps : List DeclaredProgram) → All (λ p. All IsTypedVariable p.variables) ps
      → AreTypedInstances (map (λ p. instance_named p.program.name p) ps)
  typed_main [] h = tt
  typed_main (p ∷ ps) h = (h 0 p (omega arith), typed_main ps (λ k d below. h (suc k) d (omega arith)))

  pub typed : (number : ℕ) (t : SourceTask) → slice_get (tasks_of tree) number ≡ Some t → AreTypedInstances t.instances
  typed number t e = by (task_is number t e)
    where
      by : IsDeclaredTask tree number t ⊎ IsMainTask tree number t → AreTypedInstances t.instances
      by (inl d) =
          subst (λ (s : SourceTask). AreTypedInstances s.instances) (sym d.is)
          (typed_in number d.configuration.instances)
      by (inr m) =
          subst (λ (s : SourceTask). AreTypedInstances s.instances) (sym m.is)
          (typed_main (declared_programs tree) (declared_typed_programs tree))
