-- The program instances of tasks: those whose programs are there stand for what is given, and those of one task come
-- among all that are declared, one declaration after another.
use Rattle.std.proofs.Common.{◌≡◌, ℕ, zero, suc, ◌+◌, ◌<◌, ◌≤◌, List, [], ◌∷◌, ◌++◌, map, take, length, get_or, Bool}
use Rattle.std.proofs.Common.{true, false, ◌≢◌, refl, sym, ap, ◌∙◌, arith, append-nil, subst}
use Rattle.std.specs.Prelude.{Option, Some, None, slice_get, filter_map, option_map, option_and_then, ◌==◌}
use Rattle.std.specs.Prelude.{if◌then◌else◌}
use Rattle.std.specs.List.{cons_option, enumerate_from}
use Rattle.std.specs.Option.{option_map_or}
use Rattle.std.proofs.lemmas.Simd.{map-map}
use Rattle.std.proofs.lemmas.Bool.Decides.{Decides-eqb}
use Rattle.std.proofs.lemmas.Bool.{false_from_ne_true}
use Rattle.std.proofs.lemmas.List.{take_more}
use Rattle.std.proofs.lemmas.List.Elements.{filter_map-append}
use Rattle.std.proofs.Math.ListN.{length-map}
use Rattle.std.proofs.lemmas.Option.{slice_get-map, slice_get-get_or, get_or_from_slice_get}
use Rattle.ilsource.specs.Configurations.{Configured}
use Rattle.ilsource.specs.declared.configuration.InstanceDeclaration.{InstanceDeclaration}
use Rattle.ilsource.specs.declared.name.Name.{Name}
use Rattle.ilsource.specs.SourceTrees.{Tree}
use Rattle.ildeclared.proofs.Least.{take_more as take_one_more}
use Rattle.ilscope.specs.Configured.{program_number, task_number}
use Rattle.ilscope.specs.Declarations.{declared_programs, DeclaredProgram}
use Rattle.ilsyms.specs.declared.tasks.Assigned.{Assigned}
use Rattle.ilsyms.specs.TaskSteps.{instance_at, numbered, assigned, given_to, AreInstances, AreThere, instances_of}
use Rattle.ilsyms.specs.Tasks.{NamedProgram, instance_named, instances_in, declared_task, tasks_of, SourceTask}
use Rattle.ilsyms.specs.Tasks.{main_task}
use Rattle.ilsyms.specs.declared.tasks.TaskInstance.{TaskInstance}
use Rattle.ilsyms.proofs.Lists.{first_there, below_end}

-- ---- instances whose programs are there

some_of_all : (given : List (Option NamedProgram)) (is : List NamedProgram) → given ≡ map Some is
    → filter_map (λ o. o) given ≡ is
some_of_all given is e = ap (filter_map (λ o. o)) e ∙ all is
  where
    all : (xs : List NamedProgram) → filter_map (λ o. o) (map Some xs) ≡ xs
    all [] = refl
    all (x ∷ xs) = ap (λ ys. x ∷ ys) (all xs)

kept : (tree : Tree) (given : List TaskInstance)
    → filter_map (λ o. o) (map (instance_at tree) given) ≡ instances_of tree given
kept tree [] = refl
kept tree (i ∷ given) = ap (cons_option (instance_at tree i)) (kept tree given)

-- what is given are these instances and no others
pub instances_are : (tree : Tree) (given : List TaskInstance) (is : List NamedProgram) → AreInstances tree given is
    → instances_of tree given ≡ is
instances_are tree given is e = sym (kept tree given) ∙ some_of_all (map (instance_at tree) given) is e

pub there : (tree : Tree) (given : List TaskInstance) (is : List NamedProgram) → AreInstances tree given is
    → AreThere tree given
there tree given is e = subst (λ (js : List NamedProgram). AreInstances tree given js)
    (sym (instances_are tree given is e)) e

module _ (tree : Tree) (given : List TaskInstance) (is_there : AreThere tree given) where
  pub as_many : length (instances_of tree given) ≡ length given
  as_many =
      let e = ap (λ (xs : List (Option NamedProgram)). length xs) is_there in
      let one = length-map given (instance_at tree) in
      let other : length (map Some (instances_of tree given)) ≡ length (instances_of tree given) =
      length-map (instances_of tree given) (λ i. Some i) in
      omega (arith, e, one, other)

  module _ (k : ℕ) (d : TaskInstance) (below : k < length given) where
    abbrev one : TaskInstance
    one = get_or given k d

    both : option_map Some (slice_get (instances_of tree given) k) ≡ Some (instance_at tree one)
    both =
        sym (slice_get-map (λ i. Some i) (instances_of tree given) k)
        ∙ ap (λ (xs : List (Option NamedProgram)). slice_get xs k) (sym is_there)
        ∙ slice_get-map (instance_at tree) given k
        ∙ ap (option_map (instance_at tree)) (slice_get-get_or given k d below)

    -- its program is there
    pub program_there : (p : DeclaredProgram) × (slice_get (declared_programs tree) one.program ≡ Some p)
    program_there = by (slice_get (declared_programs tree) one.program) (slice_get (instances_of tree given) k) both
      where
        by : (o : Option DeclaredProgram) (q : Option NamedProgram)
            → option_map Some q ≡ Some (option_map (instance_named one.name) o) → (p : DeclaredProgram) × (o ≡ Some p)
        by (Some p) q e = (p, refl)
        by None None e = absurd cc
        by None (Some i) e = absurd cc

    pub number_there : one.program < length (declared_programs tree)
    number_there = below_end (declared_programs tree) one.program program_there.0 program_there.1

    -- and the instance is that of this program
    pub instance_there : (p : DeclaredProgram) → slice_get (declared_programs tree) one.program ≡ Some p
        → slice_get (instances_of tree given) k ≡ Some (instance_named one.name p)
    instance_there p e =
        by (slice_get (instances_of tree given) k) (both ∙ ap (λ o. Some (option_map (instance_named one.name) o)) e)
      where
        by : (q : Option NamedProgram) → option_map Some q ≡ Some (Some (instance_named one.name p))
            → q ≡ Some (instance_named one.name p)
        by None e = absurd cc
        by (Some i) e = cc

    pub taken_more : (p : DeclaredProgram) → slice_get (declared_programs tree) one.program ≡ Some p
        → take (k + 1) (instances_of tree given) ≡ take k (instances_of tree given) ++ instance_named one.name p ∷ []
    taken_more p e =
        let is = instances_of tree given in
        let got = instance_there p e in
        take_one_more is k (instance_named one.name p) (below_end is k (instance_named one.name p) got)
        (sym (get_or_from_slice_get is k (instance_named one.name p) (instance_named one.name p) got))

    pub stands : (p : DeclaredProgram) → slice_get (declared_programs tree) one.program ≡ Some p
        → instance_named one.name p ≡ get_or (instances_of tree given) k (instance_named one.name p)
    stands p e =
        sym (get_or_from_slice_get (instances_of tree given) k (instance_named one.name p) (instance_named one.name p)
        (instance_there p e))

    pub among : k < length (instances_of tree given)
    among = omega (arith, below, as_many)

-- ---- what is kept of a list, one element after another

module _ {X Y : Type 0} (f : X → Option Y) (xs : List X) (i : ℕ) (d : X) (below : i < length xs) where
  more : filter_map f (take (i + 1) xs) ≡ filter_map f (take i xs) ++ cons_option (f (get_or xs i d)) []
  more = ap (filter_map f) (take_more xs i d below) ∙ filter_map-append f (take i xs) (get_or xs i d ∷ [])

  pub one_more : (so_far after : List Y) (y : Y) → so_far ≡ filter_map f (take i xs) → f (get_or xs i d) ≡ Some y
      → after ≡ so_far ++ y ∷ [] → after ≡ filter_map f (take (i + 1) xs)
  one_more so_far after y e here h =
      h ∙ ap (λ ys. ys ++ y ∷ []) e
      ∙ sym (more ∙ ap (λ o. filter_map f (take i xs) ++ cons_option o []) here)

  pub no_more : (so_far after : List Y) → so_far ≡ filter_map f (take i xs) → f (get_or xs i d) ≡ None
      → after ≡ so_far → after ≡ filter_map f (take (i + 1) xs)
  no_more so_far after e here h =
      h ∙ e ∙ sym (more ∙ ap (λ o. filter_map f (take i xs) ++ cons_option o []) here
      ∙ append-nil (filter_map f (take i xs)))

pub given : (task : ℕ) (a : Assigned) → a.task ≡ task → given_to task a ≡ Some a.instance
given task a e = let is : (a.task == task) ≡ true = (Decides-eqb a.task task).1 e in rw is refl

pub not_given : (task : ℕ) (a : Assigned) → a.task ≢ task → given_to task a ≡ None
not_given task a e =
    let is : (a.task == task) ≡ false = false_from_ne_true (a.task == task) (λ t. e ((Decides-eqb a.task task).0 t)) in
    rw is refl

-- ---- what depends on numbers alone

rows_from : {X E : Type 0} (g : ℕ → E) (xs : List X) (k n : ℕ) → n < length xs
    → map (λ x. g x.0) (take (suc n) (enumerate_from k xs))
    ≡ map (λ x. g x.0) (take n (enumerate_from k xs)) ++ g (k + n) ∷ []
rows_from g [] k n below = absurd (omega (arith, below))
rows_from g (x ∷ xs) k zero below = let e : k ≡ k + 0 = omega arith in ap (λ m. g m ∷ []) e
rows_from g (x ∷ xs) k (suc n) below =
    let e : (k + 1) + n ≡ k + suc n = omega arith in
    let rest = rows_from g xs (k + 1) n (omega (arith, below)) in
    ap (λ es. g k ∷ es) (rest ∙ ap (λ m. map (λ x. g x.0) (take n (enumerate_from (k + 1) xs)) ++ g m ∷ []) e)

pub row_more : {X E : Type 0} (g : ℕ → E) (xs : List X) (n : ℕ) → n < length xs
    → map (λ x. g x.0) (take (n + 1) (enumerate_from 0 xs))
    ≡ map (λ x. g x.0) (take n (enumerate_from 0 xs)) ++ g n ∷ []
row_more g xs n below =
    let e : n + 1 ≡ suc n = omega arith in
    let z : 0 + n ≡ n = omega arith in
    ap (λ m. map (λ x. g x.0) (take m (enumerate_from 0 xs))) e ∙ rows_from g xs 0 n below
    ∙ ap (λ m. map (λ x. g x.0) (take n (enumerate_from 0 xs)) ++ g m ∷ []) z

pub rows_all : {X : Type 0} (xs : List X) (k n : ℕ) → length xs ≤ n → take n (enumerate_from k xs) ≡ enumerate_from k xs
rows_all [] k zero h = refl
rows_all [] k (suc n) h = refl
rows_all (x ∷ xs) k zero h = absurd (omega (arith, h))
rows_all (x ∷ xs) k (suc n) h = ap (λ es. (k, x) ∷ es) (rows_all xs (k + 1) n (omega (arith, h)))

-- ---- the instances of one task

module _ (tree : Tree) (task : ℕ) where
  abbrev Stand : List Assigned → List NamedProgram → Type 0
  Stand given instances = map (instance_at tree) (filter_map (given_to task) given) ≡ map Some instances

  named_there : (name : Name) (k : ℕ) → program_number tree name ≡ Some k
      → (p : DeclaredProgram) × (slice_get (declared_programs tree) k ≡ Some p)
  named_there name k e = first_there _ (declared_programs tree) k e

  stand_more : (i : InstanceDeclaration) (given : List Assigned) (rest : List NamedProgram) → Stand given rest
      → (o q : Option ℕ)
      → ((k : ℕ) → q ≡ Some k → (p : DeclaredProgram) × (slice_get (declared_programs tree) k ≡ Some p))
      → Stand (cons_option (option_and_then (λ number. option_map (numbered i number) q) o) given)
      (cons_option
      (if option_map_or (λ number. number == task) o false
      then option_map (instance_named i.name) (option_and_then (slice_get (declared_programs tree)) q) else None)
      rest)
  stand_more i given rest e None q there = e
  stand_more i given rest e (Some n) None there = by (n == task)
    where
      by : (b : Bool) → Stand given (cons_option (if b then None else None) rest)
      by true = e
      by false = e
  stand_more i given rest e (Some n) (Some k) there = by (n == task)
    where
      one : Assigned
      one = numbered i n k

      by : (b : Bool)
          → map (instance_at tree) (cons_option (if b then Some one.instance else None)
          (filter_map (given_to task) given))
          ≡ map Some
          (cons_option (if b then option_map (instance_named i.name) (slice_get (declared_programs tree) k) else None)
          rest)
      by false = e
      by true =
          let p = there k refl in
          let is = p.1 in
          rw is (λ j. Some (instance_named i.name p.0) ∷ e j)

  pub instances_stand : (is : List InstanceDeclaration)
      → Stand (filter_map (assigned tree) is) (instances_in tree is task)
  instances_stand [] = refl
  instances_stand (i ∷ is) =
      stand_more i (filter_map (assigned tree) is) (instances_in tree is task) (instances_stand is)
      (option_and_then (task_number tree) i.task) (program_number tree i.program) (λ k. named_there i.program k)

pub declared_rows : (tree : Tree) (c : Configured) → tree.configuration ≡ Some c
    → map (λ t. map Some t.instances) (tasks_of tree)
    ≡ map (λ t. map Some (instances_in tree c.instances t.0)) (enumerate_from 0 c.tasks)
declared_rows tree c e =
    ap
    (λ o. map (λ (t : SourceTask). map Some t.instances)
    (option_map_or (λ (d : Configured). map (declared_task tree d) (enumerate_from 0 d.tasks)) o (main_task tree ∷ [])))
    e
    ∙ map-map (λ t. map Some t.instances) (declared_task tree c) (enumerate_from 0 c.tasks)
