-- Sets of tasks: those of either set, those of the same tasks, and sets to which tasks are added.
use Rattle.std.proofs.Common.{◌≡◌, ◌≢◌, ℕ, zero, suc, ◌+◌, ◌<◌, List, [], ◌∷◌, ◌++◌, Bool, true, false, ◌||◌, length}
use Rattle.std.proofs.Common.{take, get_or, refl, sym, ap, ◌∙◌, subst, ◌⊎◌, inl, inr, arith}
use Rattle.std.specs.Prelude.{Option, Some, None, slice_get, slice_set, option_map, ◌==◌, if◌then◌else◌}
use Rattle.std.proofs.lemmas.Bool.Decides.{Decides-eqb}
use Rattle.std.proofs.lemmas.List.Folds.{list_any-append}
use Rattle.std.proofs.lemmas.Option.{slice_get-get_or}
use Rattle.ildeclared.specs.Faults.{SomeOf}
use Rattle.ildeclared.proofs.FoundOrder.{or_else}
use Rattle.ildeclared.proofs.Least.{take_more}
use Rattle.ilsyms.specs.TaskSetSteps.{AreSetsOf, IsSetOf, is_among, union, with_tasks}
use Rattle.ilsyms.specs.declared.task_sets.TaskSet.{TaskSet}
use Rattle.ilsyms.specs.declared.task_sets.TaskSet.TheVariants.{Empty, One, Several}
use Rattle.ilsyms.proofs.Lists.{either, or_true, or_false}

-- tasks that are added again change nothing
pub added_again : (set tasks : TaskSet) → union (union set tasks) tasks ≡ union set tasks
added_again Empty Empty = refl
added_again Empty (One b) = rw ((Decides-eqb b b).1 refl) refl
added_again Empty Several = refl
added_again (One a) Empty = refl
added_again (One a) (One b) = either (a == b) (λ t. rw (t, t) refl) (λ f. rw (f) refl)
added_again (One a) Several = refl
added_again Several Empty = refl
added_again Several (One b) = refl
added_again Several Several = refl

module _ (P Q : ℕ → Type 0) where
  -- the set of the same tasks
  pub set_same : ((task : ℕ) → P task → Q task) → ((task : ℕ) → Q task → P task) → (set : TaskSet) → IsSetOf P set
      → IsSetOf Q set
  set_same to from Empty s = λ task q. s task (from task q)
  set_same to from (One task) s = (to task s.0, λ other q. s.1 other (from other q))
  set_same to from Several s = (s.0, s.1, to s.0 s.2, to s.1 s.3, s.4)

  abbrev Either : ℕ → Type 0
  Either task = P task ⊎ Q task

  -- the tasks of either set
  pub set_union : (one other : TaskSet) → IsSetOf P one → IsSetOf Q other → IsSetOf (λ t. P t ⊎ Q t) (union one other)
  set_union Empty Empty s t = λ task q. or_else (s task) (t task) q
  set_union Empty (One b) s t = (inr t.0, λ task q. or_else (λ p. absurd (s task p)) (t.1 task) q)
  set_union Empty Several s t = (t.0, t.1, inr t.2, inr t.3, t.4)
  set_union (One a) Empty s t = (inl s.0, λ task q. or_else (s.1 task) (λ p. absurd (t task p)) q)
  set_union (One a) (One b) s t =
      either (a == b)
      (λ e. rw e (let same : a ≡ b = (Decides-eqb a b).0 e in
      (inl s.0, λ task q. or_else (s.1 task) (λ p. t.1 task p ∙ sym same) q)))
      (λ f. rw f (a, b, inl s.0, inr t.0, λ e. let t : a == b ≡ true = (Decides-eqb a b).1 e in absurd cc))
  set_union (One a) Several s t = (t.0, t.1, inr t.2, inr t.3, t.4)
  set_union Several Empty s t = (s.0, s.1, inl s.2, inl s.3, s.4)
  set_union Several (One b) s t = (s.0, s.1, inl s.2, inl s.3, s.4)
  set_union Several Several s t = (s.0, s.1, inl s.2, inl s.3, s.4)

-- what is read where something was written, and elsewhere
pub written : {X : Type 0} (xs : List X) (i : ℕ) (x : X) → i < length xs → slice_get (slice_set xs i x) i ≡ Some x
written [] i x below = absurd (omega arith)
written (y ∷ ys) zero x below = refl
written (y ∷ ys) (suc i) x below = written ys i x (omega arith)

pub elsewhere : {X : Type 0} (xs : List X) (i k : ℕ) (x : X) → i ≢ k → slice_get (slice_set xs i x) k ≡ slice_get xs k
elsewhere [] i k x other = refl
elsewhere (y ∷ ys) zero zero x other = absurd (other refl)
elsewhere (y ∷ ys) zero (suc k) x other = refl
elsewhere (y ∷ ys) (suc i) zero x other = refl
elsewhere (y ∷ ys) (suc i) (suc k) x other = elsewhere ys i k x (λ e. other (ap suc e))

-- a number more among numbers
among_more : (ns : List ℕ) (n k : ℕ) → is_among k (ns ++ n ∷ []) ≡ (is_among k ns || (n == k || false))
among_more ns n k = list_any-append (λ its. its == k) ns (n ∷ [])

module _ (ns : List ℕ) (n : ℕ) (tasks : TaskSet) where
  with_it : (set : TaskSet) → with_tasks (ns ++ n ∷ []) tasks n set ≡ union (with_tasks ns tasks n set) tasks
  with_it set =
      ap (λ b. if b then union set tasks else set)
      (among_more ns n n ∙ ap (λ b. is_among n ns || (b || false)) ((Decides-eqb n n).1 refl) ∙ or_true (is_among n ns))
      ∙ by (is_among n ns)
    where
      by : (b : Bool) → union set tasks ≡ union (if b then union set tasks else set) tasks
      by true = sym (added_again set tasks)
      by false = refl

  without_it : (k : ℕ) → n == k ≡ false → (o : Option TaskSet)
      → option_map (with_tasks (ns ++ n ∷ []) tasks k) o ≡ option_map (with_tasks ns tasks k) o
  without_it k f o =
      ap (λ b. option_map (λ set. if b then union set tasks else set) o)
      (among_more ns n k ∙ ap (λ b. is_among k ns || (b || false)) f ∙ or_false (is_among k ns))

-- with one number more
module _ (sets old : List TaskSet) (numbers : List ℕ) (i n : ℕ) (tasks d new : TaskSet) (below : i < length numbers)
    (is : n ≡ get_or numbers i n) (there : n < length sets) (added : new ≡ union (get_or sets n d) tasks)
    (before : (k : ℕ) → slice_get sets k ≡ option_map (with_tasks (take i numbers) tasks k) (slice_get old k)) where
  at_it : (o : Option TaskSet) → slice_get old n ≡ o
      → Some new ≡ option_map (with_tasks (take i numbers ++ n ∷ []) tasks n) o
  at_it None e =
      let got = slice_get-get_or sets n d there in
      let none : slice_get sets n ≡ None = before n ∙ ap (option_map (with_tasks (take i numbers) tasks n)) e in
      absurd cc
  at_it (Some set) e =
      let got = slice_get-get_or sets n d there in
      let some : slice_get sets n ≡ Some (with_tasks (take i numbers) tasks n set) =
      before n ∙ ap (option_map (with_tasks (take i numbers) tasks n)) e in
      let same : get_or sets n d ≡ with_tasks (take i numbers) tasks n set = cc in
      ap (λ s. Some s) (added ∙ ap (λ s. union s tasks) same ∙ sym (with_it (take i numbers) n tasks set))

  pub added_more : (k : ℕ) → slice_get (slice_set sets n new) k
      ≡ option_map (with_tasks (take (i + 1) numbers) tasks k) (slice_get old k)
  added_more k =
      rw (take_more numbers i n below is)
      (either (n == k)
      (λ t. subst (λ m. slice_get (slice_set sets n new) m
      ≡ option_map (with_tasks (take i numbers ++ n ∷ []) tasks m) (slice_get old m)) ((Decides-eqb n k).0 t)
      (written sets n new there ∙ at_it (slice_get old n) refl))
      (λ f. elsewhere sets n k new (λ e. let t : n == k ≡ true = (Decides-eqb n k).1 e in absurd cc)
      ∙ before k ∙ sym (without_it (take i numbers) n tasks k f (slice_get old k))))

-- a number is among numbers where the test says so
among : (ns : List ℕ) (k : ℕ) → is_among k ns ≡ true → SomeOf (λ (n : ℕ). n ≡ k) ns
among [] k t = absurd cc
among (n ∷ ns) k t = either (n == k) (λ e. inl ((Decides-eqb n k).0 e)) (λ f. inr (among ns k (rw f at t)))

not_among : (ns : List ℕ) (k : ℕ) → is_among k ns ≡ false → ¬ SomeOf (λ (n : ℕ). n ≡ k) ns
not_among [] k f s = s
not_among (n ∷ ns) k f (inl e) = let t : n == k ≡ true = (Decides-eqb n k).1 e in absurd (let g = rw t at f in cc)
not_among (n ∷ ns) k f (inr s) =
    either (n == k) (λ t. absurd (let g = rw t at f in cc)) (λ e. not_among ns k (rw e at f) s)

-- where tasks are added to the sets with the numbers, the tasks of each are those of before, and these
module _ (R S : ℕ → ℕ → Type 0) (T : ℕ → Type 0) (numbers : List ℕ) (tasks : TaskSet) (old new : List TaskSet)
    (these : IsSetOf T tasks) (before : AreSetsOf R old)
    (added : (k : ℕ) → slice_get new k ≡ option_map (with_tasks numbers tasks k) (slice_get old k))
    (to : (k task : ℕ) → S k task → R k task ⊎ (SomeOf (λ (n : ℕ). n ≡ k) numbers × T task))
    (from : (k task : ℕ) → R k task ⊎ (SomeOf (λ (n : ℕ). n ≡ k) numbers × T task) → S k task) where
  one_set : (k : ℕ) (set : TaskSet) → IsSetOf (R k) set → (b : Bool) → is_among k numbers ≡ b
      → IsSetOf (S k) (if b then union set tasks else set)
  one_set k set s true e =
      let some = among numbers k e in
      set_same (λ t. R k t ⊎ T t) (S k) (λ t q. from k t (or_else inl (λ y. inr (some, y)) q))
      (λ t q. or_else inl (λ y. inr y.1) (to k t q)) (union set tasks) (set_union (R k) T set tasks s these)
  one_set k set s false e =
      set_same (R k) (S k) (λ t r. from k t (inl r))
      (λ t q. or_else (λ r. r) (λ y. absurd (not_among numbers k e y.0)) (to k t q)) set s

  pub sets_more : AreSetsOf S new
  sets_more k set is = by (slice_get old k) refl
    where
      by : (o : Option TaskSet) → slice_get old k ≡ o → IsSetOf (S k) set
      by None e =
          let none : slice_get new k ≡ None = added k ∙ ap (option_map (with_tasks numbers tasks k)) e in
          absurd cc
      by (Some one) e =
          let some : slice_get new k ≡ Some (with_tasks numbers tasks k one) =
          added k ∙ ap (option_map (with_tasks numbers tasks k)) e in
          let same : with_tasks numbers tasks k one ≡ set = cc in
          subst (λ s. IsSetOf (S k) s) same (one_set k one (before k one e) (is_among k numbers) refl)
