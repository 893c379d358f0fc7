-- The fault of a global variable that two tasks store to, by the set of the tasks that do: it has several where two
-- elements at different places have a property.
use Rattle.std.proofs.Common.{◌≡◌, ℕ, ◌+◌, ◌<◌, List, length, take, get_or, sym, ◌∙◌, arith, ◌≢◌, zero, suc, [], ◌∷◌}
use Rattle.std.proofs.Common.{refl, ap, subst, inl, inr}
use Rattle.std.specs.Prelude.{Option, IsSomeAnd, slice_get}
use Rattle.std.specs.List.{enumerate_from}
use Rattle.std.proofs.lemmas.List.FromFn.{get_or-enumerate_from, length-enumerate_from}
use Rattle.ilsource.specs.SourceTrees.{Tree}
use Rattle.ildeclared.specs.Faults.{IsNextOf, OfCause, SomeLater, SomeOf}
use Rattle.ildeclared.specs.Order.{lesser_of_two}
use Rattle.ildeclared.specs.declared.fault.NameCause.TheVariants.{WrittenTwice}
use Rattle.ildeclared.specs.declared.found.Found.{Found}
use Rattle.ildeclared.specs.declared.global.DeclaredGlobal.{DeclaredGlobal}
use Rattle.ildeclared.proofs.Least.{next_of_more}
use Rattle.ilscope.specs.Configured.{globals_of}
use Rattle.ilscope.specs.Declarations.{declared_programs}
use Rattle.ilsyms.specs.Faults.{AreTwoStoring, TaskStores}
use Rattle.ilsyms.specs.TaskSteps.{AreInstancesOfTasks}
use Rattle.ilsyms.specs.TaskSetSteps.{AreSetsOf, IsSetOf}
use Rattle.ilsyms.specs.WrittenTwiceSteps.{StoresBefore}
use Rattle.ilsyms.specs.Tasks.{tasks_of}
use Rattle.ilsyms.specs.declared.task_sets.TaskSet.{TaskSet}
use Rattle.ilsyms.specs.declared.task_sets.TaskSet.TheVariants.{Several, Empty, One}
use Rattle.ilsyms.specs.declared.tasks.TaskInstance.{TaskInstance}
use Rattle.ilsyms.proofs.FaultParts.{of_same}
use Rattle.ilsyms.proofs.WrittenTwiceTasks.{from_task, to_task}

-- ---- two elements with a property

module _ {X : Type 0} (Q : X → Type 0) where
  abbrev At : List X → ℕ → Type 0
  At xs i = IsSomeAnd (slice_get xs i) Q

  abbrev Both : X → X → Type 0
  Both one other = Q one × Q other

  some_at : (x : X) → Q x → (xs : List X) (i : ℕ) → At xs i → SomeOf (Both x) xs
  some_at x q [] i a = absurd a
  some_at x q (y ∷ ys) zero a = inl (q, a)
  some_at x q (y ∷ ys) (suc i) a = inr (some_at x q ys i a)

  pub later_at : (xs : List X) (i j : ℕ) → i ≢ j → At xs i → At xs j → SomeLater Both xs
  later_at [] i j other a b = absurd a
  later_at (x ∷ xs) zero zero other a b = absurd (other refl)
  later_at (x ∷ xs) zero (suc j) other a b = inl (some_at x a xs j b)
  later_at (x ∷ xs) (suc i) zero other a b = inl (some_at x b xs i a)
  later_at (x ∷ xs) (suc i) (suc j) other a b = inr (later_at xs i j (λ e. other (ap suc e)) a b)

  at_some : (x : X) (xs : List X) → SomeOf (Both x) xs → Q x × ((i : ℕ) × At xs i)
  at_some x [] s = absurd s
  at_some x (y ∷ ys) (inl b) = (b.0, (0, b.1))
  at_some x (y ∷ ys) (inr s) = let found = at_some x ys s in (found.0, (suc found.1.0, found.1.1))

  pub at_later : (xs : List X) → SomeLater Both xs → (i : ℕ) × (j : ℕ) × (i ≢ j) × At xs i × At xs j
  at_later [] s = absurd s
  at_later (x ∷ xs) (inl s) =
      let found = at_some x xs s in
      (zero, suc found.1.0, (λ e. absurd (omega (arith, e))), found.0, found.1.1)
  at_later (x ∷ xs) (inr s) =
      let found = at_later xs s in
      (suc found.0, suc found.1, (λ e. found.2 (omega (arith, e))), found.3, found.4)

  module _ (P : ℕ → Type 0) (xs : List X) (to : (i : ℕ) → P i → At xs i) (from : (i : ℕ) → At xs i → P i) where
    pub several_are : (set : TaskSet) → IsSetOf P set → set ≡ Several → SomeLater Both xs
    several_are set s e =
        let two = subst (λ (t : TaskSet). IsSetOf P t) e s in
        later_at xs two.0 two.1 two.4 (to two.0 two.2) (to two.1 two.3)

    pub are_several : (set : TaskSet) → IsSetOf P set → SomeLater Both xs → set ≡ Several
    are_several set s l = by set s
      where
        found : (i : ℕ) × (j : ℕ) × (i ≢ j) × At xs i × At xs j
        found = at_later xs l

        by : (set : TaskSet) → IsSetOf P set → set ≡ Several
        by Empty t = absurd (t found.0 (from found.0 found.3))
        by (One task) t =
            absurd (found.2 (t.1 found.0 (from found.0 found.3) ∙ sym (t.1 found.1 (from found.1 found.4))))
        by Several t = refl

module _ (tree : Tree) (tasks : List (List TaskInstance)) (are : AreInstancesOfTasks tree tasks) (sets : List TaskSet)
    (kept : AreSetsOf (StoresBefore tree tasks (length (declared_programs tree))) sets) where
  -- a fault of the global variable, with its number, that two tasks store to
  abbrev pub IsTwo : ℕ × DeclaredGlobal → ℕ → Type 0
  IsTwo g place = AreTwoStoring tree g.0 × (place ≡ g.1.name.from)

  -- the fault of one of them
  pub two_at : (after : Option Found) (number : ℕ) (global : DeclaredGlobal) (set : TaskSet) (o : Option Found)
      → IsSetOf (StoresBefore tree tasks (length (declared_programs tree)) number) set
      → IsNextOf after (OfCause WrittenTwice (λ place. (set ≡ Several) × (place ≡ global.name.from))) o
      → IsNextOf after (OfCause WrittenTwice (IsTwo (number, global))) o
  two_at after number global set o is h =
      let P = StoresBefore tree tasks (length (declared_programs tree)) number in
      let to = to_task tree tasks are number in
      let from = from_task tree tasks are number in
      of_same after WrittenTwice (λ place. (set ≡ Several) × (place ≡ global.name.from)) (IsTwo (number, global)) o
      (λ place f. (several_are (TaskStores tree number) P (tasks_of tree) to from set is f.0, f.1))
      (λ place f. (are_several (TaskStores tree number) P (tasks_of tree) to from set is f.0, f.1)) h

  -- with one global variable more
  pub two_more : (after : Option Found) (i : ℕ) (global : DeclaredGlobal) (set : TaskSet) (a b : Option Found)
      → i < length (globals_of tree) → global ≡ get_or (globals_of tree) i global
      → IsSetOf (StoresBefore tree tasks (length (declared_programs tree)) i) set
      → IsNextOf after (λ place cause. SomeOf (λ g. OfCause WrittenTwice (IsTwo g) place cause)
      (take i (enumerate_from 0 (globals_of tree)))) a
      → IsNextOf after (OfCause WrittenTwice (λ place. (set ≡ Several) × (place ≡ global.name.from))) b
      → IsNextOf after (λ place cause. SomeOf (λ g. OfCause WrittenTwice (IsTwo g) place cause)
      (take (i + 1) (enumerate_from 0 (globals_of tree)))) (lesser_of_two a b)
  two_more after i global set a b below is its h k =
      let numbered = enumerate_from 0 (globals_of tree) in
      let many = length-enumerate_from 0 (globals_of tree) in
      let one : ℕ × DeclaredGlobal = (i, global) in
      let zero_more : 0 + i ≡ i = omega arith in
      let same : one ≡ get_or numbered i one =
      sym (get_or-enumerate_from 0 (globals_of tree) i one below ∙ (λ j. (zero_more j, sym is j))) in
      next_of_more after (λ g. OfCause WrittenTwice (IsTwo g)) numbered i one a b (omega (arith, below, many)) same
      h (two_at after i global set b its k)
