-- The scans of a legal history came to what the source program means.
use Rattle.std.proofs.Common.{◌≡◌, ℕ, List, [], ◌∷◌, ◌++◌, Option, Some, None, refl, sym, ap, ◌∙◌, subst}
use Rattle.std.proofs.lemmas.Option.{slice_get-map}
use Rattle.std.specs.Prelude.{slice_get, option_map}
use Rattle.iltypes.specs.declared.value.Value.{Value}
use Rattle.ilblocks.specs.Stores.{Lasting, Store}
use Rattle.wordlines.specs.Wirings.{Wiring}
use Rattle.ilsource.specs.SourceTrees.{Tree}
use Rattle.ilplan.specs.Plans.{Planned, PlannedTask}
use Rattle.ilplan.specs.PlanMeaning.{plan_scan}
use Rattle.ilplan.specs.Beginnings.{plan_with}
use Rattle.ilplan.proofs.BegunScans.{begun_task}
use Rattle.ilsyms.specs.Meaning.{source_scan}
use Rattle.ilsyms.specs.Resolved.{plan_of_tree, planned_functions, planned_task}
use Rattle.ilsyms.specs.Tasks.{SourceTask, tasks_of}
use Rattle.plantevents.specs.Scans.{Scan, store_of}
use Rattle.plantevents.specs.declared.event.Event.{Event}
use Rattle.plantevents.specs.declared.event.Event.TheVariants.{Commit}
use Rattle.plantevents.specs.Plants.{Plant}
use Rattle.plantevents.specs.Legal.{Allowed, AreLegal, IsCommit}
use Rattle.livekeep.specs.KeptFiles.{KeptEntry}
use Rattle.livekeep.specs.KeptPlans.{IsKeptPlan, global_firsts, task_firsts}
use Rattle.plantload.specs.MeantScans.{IsAsMeant, AreAsMeant}

-- a task of the plan is one of the source program
planned : (tree : Tree) (t : ℕ) (o : Option SourceTask) (task : PlannedTask)
    → option_map (planned_task tree) o ≡ Some task → (s : SourceTask) × (o ≡ Some s) × (planned_task tree s ≡ task)
planned tree t (Some s) task is = let same : planned_task tree s ≡ task = cc in (s, refl, same)
planned tree t None task is = absurd (cc)

-- an event may follow its front
legal_at : (p : Plant) (later front : List Event) (e : Event) → AreLegal p (later ++ e ∷ front) → Allowed p front e
legal_at p [] front e legal = legal.0
legal_at p (x ∷ later) front e legal = legal_at p later front e legal.1

abbrev pub SameMeaning : Type 0
SameMeaning = (tree : Tree) (buses : ℕ) (task : SourceTask) (store : Store)
    → plan_scan buses (planned_functions tree) (planned_task tree task) store ≡ source_scan tree buses task store

-- each task of the plan is one of the source program, and means the same
pub record IsTaskOf (plan : Planned) (tree : Tree) (wiring : Wiring) (t : ℕ) (task : PlannedTask) : Type 0 where
  pub source : SourceTask
  pub there : slice_get (tasks_of tree) t ≡ Some source
  pub means : (store : Store)
      → plan_scan plan.buses plan.functions task store ≡ source_scan tree wiring.buses source store

abbrev pub AreTasksOf : Planned → Tree → Wiring → Type 0
AreTasksOf plan tree wiring = (t : ℕ) (task : PlannedTask) → slice_get plan.tasks t ≡ Some task
    → IsTaskOf plan tree wiring t task

-- the tasks of the source program's plan
tree_tasks : (tree : Tree) (wiring : Wiring) → SameMeaning → AreTasksOf (plan_of_tree tree wiring) tree wiring
tree_tasks tree wiring same t task is =
    let source = planned tree t (slice_get (tasks_of tree) t) task
    (sym (slice_get-map (planned_task tree) (tasks_of tree) t) ∙ is) in
    record {
      source = source.0;
      there = source.1;
      means = λ store.
          sym (ap (λ (x : PlannedTask). plan_scan wiring.buses (planned_functions tree) x store) source.2)
          ∙ same tree wiring.buses source.0 store;
    }

pub own_tasks : (plan : Planned) (tree : Tree) (wiring : Wiring) → SameMeaning → plan ≡ plan_of_tree tree wiring
    → AreTasksOf plan tree wiring
own_tasks plan tree wiring same is =
    subst (λ (p : Planned). AreTasksOf p tree wiring) (sym is) (tree_tasks tree wiring same)

-- those of the same plan that begins with other values
begun_tasks : (own : Planned) (globals : List Value) (begins : List Lasting) (tree : Tree) (wiring : Wiring)
    → AreTasksOf own tree wiring → AreTasksOf (plan_with own globals begins) tree wiring
begun_tasks own globals begins tree wiring are t begun is =
    let b = begun_task own.tasks begins t begun is in
    let source = are t b.task b.there in
    record {
      source = source.source;
      there = source.there;
      means = λ store. b.means own.buses own.functions store ∙ source.means store;
    }

pub kept_tasks : (kept : List KeptEntry) (own plan : Planned) (tree : Tree) (wiring : Wiring) → SameMeaning
    → own ≡ plan_of_tree tree wiring → IsKeptPlan kept own plan → AreTasksOf plan tree wiring
kept_tasks kept own plan tree wiring same is begins =
    subst (λ (p : Planned). AreTasksOf p tree wiring) (sym begins)
    (begun_tasks own (global_firsts own kept) (task_firsts own kept) tree wiring
    (own_tasks own tree wiring same is))

scan_meant : (p : Plant) (tree : Tree) (wiring : Wiring) → AreTasksOf p.plan tree wiring
    → (front : List Event) (w n : ℕ) (result : Scan) → IsCommit p front w n result
    → IsAsMeant tree wiring.buses front w n result
scan_meant p tree wiring are front w n result commit =
    let meant = commit.meant in let store = store_of commit.running.snapshot in
    let source = are commit.running.task meant.task meant.is_task in
    record {
      running = commit.running;
      is_open = commit.is_open;
      number = commit.place;
      task = source.source;
      is_task = source.there;
      meant = sym (source.means store) ∙ meant.meant;
    }

pub scans_meant : (p : Plant) (tree : Tree) (wiring : Wiring) → AreTasksOf p.plan tree wiring
    → (h : List Event) → AreLegal p h → AreAsMeant tree wiring.buses h
scans_meant p tree wiring are h legal later front w n result is =
    scan_meant p tree wiring are front w n result
    (legal_at p later front (Commit w n result) (subst (AreLegal p) is legal))
