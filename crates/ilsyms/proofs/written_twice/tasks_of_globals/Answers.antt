use Rattle.std.proofs.Common.{◌≡◌, ◌<◌, ◌+◌, ℕ, List, length, refl, sym, ap, ◌∙◌, subst, arith}
use Rattle.std.specs.Prelude.{◌↔◌}
use Rattle.ildeclared.specs.Faults.{SomeOf}
use Rattle.ilscope.specs.Declarations.{declared_programs}
use Rattle.ilscope.specs.UseFaults.{ProgramStores}
use Rattle.ilsyms.specs.TaskSetSteps.{AreSetsOf}
use Rattle.ilsyms.specs.WrittenTwiceSteps.{HasInstance, StoresBefore}
use Rattle.ilsyms.specs.declared.task_sets.TaskSet.{TaskSet}
use Rattle.ilsyms.proofs.WrittenTwiceTasks.{empty_are, program_at, set_at, stores_from, stores_to}
use Rattle.ilsyms.proofs.Lists.{written_back}
use Rattle.ilsyms.proofs.TaskSets.{sets_more}
use Rattle.ilsyms.proofs.written_twice.tasks_of_globals.Goals as goal

pub loop-number-init : goal.loop-number-init
loop-number-init c =
    record {
      count = c.in_ok-sets.ensures.count ∙ ap (λ gs. length gs) c.globals.ensures.value;
      sets =
          empty_are (StoresBefore c.args.scope.now.tree c.args.tasks.now 0) c.in_ok-sets.sets.items
          c.in_ok-sets.ensures.empty (λ number task h. let low = h.below in absurd (omega (arith, low)));
    }

pub loop-number-preserved : goal.loop-number-preserved
loop-number-preserved c =
    let tree = c.args.scope.now.tree in
    let tasks = c.args.tasks.now in
    let number = c.loop-number.number in
    let sets = c.in_ok-programs.programs.items in
    let listed = c.deref-tasks-items.ensures.value in
    let test : number < length sets = rw (sym listed) c.loop-number-test.true in
    let below : number < length (declared_programs tree) = rw (sym c.in_ok-programs.ensures.count) test in
    let program = program_at tree number below in
    let many = ap (λ (ss : List TaskSet). length ss) c.deref_mut.ensures.value in
    let same = c.add_tasks.auto.sets ∙ many in
    let whole = written_back c.loop-number.sets.items c.add_tasks.new.sets c.loop-number.sets.len
    (sym c.deref_mut.ensures.len ∙ many) same in
    let tested = HasInstance tasks (length tasks) number in
    let stored : (g : ℕ) → SomeOf (λ (n : ℕ). n ≡ g) c.deref.result.now ↔ ProgramStores tree g program.0 =
    subst (λ (ns : List ℕ). (g : ℕ) → SomeOf (λ (n : ℕ). n ≡ g) ns ↔ ProgramStores tree g program.0)
    (sym c.deref.ensures.value) (c.in_ok-stored.ensures.stored program.0 program.1) in
    record {
      count = ap (λ (ss : List TaskSet). length ss) whole ∙ same ∙ c.loop-number.invariant.count;
      sets =
          subst (λ (ss : List TaskSet). AreSetsOf (StoresBefore tree tasks (number + 1)) ss) (sym whole)
          (sets_more (StoresBefore tree tasks number) (StoresBefore tree tasks (number + 1)) tested c.deref.result.now _
          c.deref_mut.result.now c.add_tasks.new.sets
          (set_at (HasInstance tasks (length tasks)) sets c.deref-tasks-items.result.now number _
          c.in_ok-programs.ensures.sets listed c.loop-number-test.true)
          (subst (λ (ss : List TaskSet). AreSetsOf (StoresBefore tree tasks number) ss)
          (sym c.deref_mut.ensures.value) c.loop-number.invariant.sets)
          c.add_tasks.ensures
          (stores_to tree tasks c.requires number program.0 program.1 (length tasks) refl c.deref.result.now stored)
          (stores_from tree tasks c.requires number program.0 program.1 (length tasks) refl c.deref.result.now stored));
    }

pub returns-clause-sets : goal.returns-clause-sets
returns-clause-sets c =
    let tree = c.args.scope.now.tree in
    let all : length c.deref-tasks-items.result.now ≡ length (declared_programs tree) =
    ap (λ (ss : List TaskSet). length ss) c.deref-tasks-items.ensures.value ∙ c.in_ok-programs.ensures.count in
    let end = c.loop-number.auto.number-end in
    let last = c.loop-number-test.false in
    let number : c.loop-number.number ≡ length (declared_programs tree) = omega (arith, all, end, last) in
    subst (λ (n : ℕ). AreSetsOf (StoresBefore tree c.args.tasks.now n) c.loop-number.sets.items) number
    c.loop-number.invariant.sets
