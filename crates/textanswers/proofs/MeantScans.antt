-- What the scans of a task's code leave is what the scans of its source program mean.
use Rattle.std.proofs.Common.{◌≡◌, ℕ, zero, suc, ◌≤◌, List, [], ◌∷◌, length, Option, Some, sym, ap, ◌∙◌, subst, arith}
use Rattle.std.proofs.Common.{◌++◌, ◌*◌, length-append, refl}
use Rattle.std.specs.Prelude.{slice_get, map, All, IfSome}
use Rattle.std.proofs.lemmas.List.{length-map, length-take, map-append}
use Rattle.std.proofs.lemmas.List.Elements.{All-nil, All-append, All-cons}
use Rattle.iltypes.specs.declared.value.IlType.{IlType}
use Rattle.iltypes.specs.declared.value.Value.{Value}
use Rattle.iltypes.specs.Values.{AreOf}
use Rattle.wordlines.specs.Wirings.{Wiring}
use Rattle.gearcmd.specs.declared.requests.Request.{Request}
use Rattle.ilblocks.specs.Stores.{Lasting, Store, store_at}
use Rattle.ilsource.specs.SourceTrees.{Tree}
use Rattle.ilplan.specs.declared.slot.Slot.{Slot}
use Rattle.ilplan.specs.Plans.{Planned, PlannedTask, first_values, types_of}
use Rattle.plantload.specs.Meaning.{source_scan}
use Rattle.plantload.specs.Resolved.{planned_task}
use Rattle.plantload.specs.Tasks.{SourceTask, tasks_of}
use Rattle.ilcode.specs.Listings.{lasting_types, slots_end}
use Rattle.ilcompile.specs.Meant.{IsMeant}
use Rattle.ilverify.specs.Verdicts.{Accepted}
use Rattle.ilmachine.specs.Scans.{IsScan}
use Rattle.ilcompile.specs.Loaded.{AreCodes, IsCodeOf, Loaded}
use Rattle.plantload.specs.Loading.{AreMeant, IsPlanOfText, IsSetup}
use Rattle.ilcompile.proofs.CodeLemmas.{all_last, code_at}
use Rattle.textanswers.specs.Taking.{Taking}
use Rattle.textanswers.specs.Answered.{IsMeantTask, IsStepped, ScansMean}
use Rattle.textanswers.specs.Stepping.{ScansTo, AreScansOf, HasTask, lasting_at_first, run_of}

-- one value for each type
as_long : (values : List Value) (types : List IlType) → AreOf values types → length values ≡ length types
as_long [] [] h = refl
as_long (v ∷ values) (t ∷ types) h = let more = as_long values types h.1 in omega (arith, more)
as_long [] (t ∷ types) h = absurd h
as_long (v ∷ values) [] h = absurd h

-- a task of a plan is that of a task of the source program
record IsPlanned (tree : Tree) (sources : List SourceTask) (number : ℕ) (task : PlannedTask) : Type 0 where
  pub source : SourceTask
  pub is : slice_get sources number ≡ Some source
  pub planned : task ≡ planned_task tree source

planned_at : (tree : Tree) (sources : List SourceTask) (number : ℕ) (task : PlannedTask)
    → slice_get (map (planned_task tree) sources) number ≡ Some task → IsPlanned tree sources number task
planned_at tree [] number task e = absurd (cc)
planned_at tree (s ∷ sources) zero task e = record { source = s; is = refl; planned = cc }
planned_at tree (s ∷ sources) (suc k) task e =
    let rest = planned_at tree sources k task e in
    record { source = rest.source; is = rest.is; planned = rest.planned }

abbrev AreFew : Accepted → List Taking → Type 0
AreFew code each = All (λ taken. taken.steps ≤ code.bound) each

abbrev requests_of : List Taking → List (List Request)
requests_of each = map (λ taken. taken.requests) each

-- what some scans take and leave
record IsLeft (tree : Tree) (buses : ℕ) (task : SourceTask) (code : Accepted) (every scans : ℕ) (from : Lasting)
    (each : List Taking) (to : Lasting) : Type 0 where
  means : ScansMean tree buses task every scans from (requests_of each) to
  lasting : length to.slots ≡ length (lasting_types code.code)
  many : length each ≡ scans
  few : AreFew code each

module _ (tree : Tree) (buses : ℕ) (task : SourceTask) (code : Accepted)
    (meant : IsMeant (source_scan tree buses task) code.code) where
  one_scan : (from after : Store) (steps : ℕ) → IsScan code from steps after
      → source_scan tree buses task from ≡ Some after
  one_scan from after steps scan = meant.means from after steps scan.lasting scan.run

  -- and as many variables as last are left
  left_lasting : (from after : Store) (steps : ℕ) → IsScan code from steps after
      → length after.slots ≡ length (lasting_types code.code)
  left_lasting from after steps scan =
      let n = slots_end code.code 0 in
      let end = as_long scan.run.end.slots code.code.slots scan.in_types.slots in
      let left = ap (λ (s : Store). length s.slots) scan.run.left in
      omega (arith, end, left, length-take n scan.run.end.slots, length-take n code.code.slots)

  few_more : (before : List Taking) (last : Taking) → AreFew code before → last.steps ≤ code.bound
      → AreFew code (before ++ last ∷ [])
  few_more before last are is =
      let IsFew = λ (taken : Taking). taken.steps ≤ code.bound in
      All-append IsFew before (last ∷ []) are (All-cons IsFew last [] is (All-nil IsFew))

  -- the requests of one scan more
  asked_more : (each before : List Taking) (last : Taking) (requests : List Request) → each ≡ before ++ last ∷ []
      → last.requests ≡ requests → requests_of each ≡ requests_of before ++ requests ∷ []
  asked_more each before last requests all is =
      let asked = λ (taken : Taking). taken.requests in
      ap requests_of all ∙ map-append asked before (last ∷ [])
      ∙ ap (λ (rs : List Request). requests_of before ++ rs ∷ []) is

  left : (every scans : ℕ) (from : Lasting) (each : List Taking) (to : Lasting)
      → length from.slots ≡ length (lasting_types code.code)
      → ScansTo code every scans from each to → IsLeft tree buses task code every scans from each to
  left every zero from each to fit h = record {
    means = (ap requests_of h.0, h.1);
    lasting = ap (λ (l : Lasting). length l.slots) h.1 ∙ fit;
    many = ap (λ (ts : List Taking). length ts) h.0;
    few = subst (AreFew code) (sym h.0) (All-nil (λ (taken : Taking). taken.steps ≤ code.bound));
  }
  left every (suc scans) from each to fit h =
      let before = left every scans from h.0 h.1 fit h.3 in
      let last = h.4 in
      let long = length-append h.0 (h.2 ∷ []) in
      let all = ap (λ (ts : List Taking). length ts) h.5 in
      let earlier = before.many in
      let asked = asked_more each h.0 h.2 last.after.requests h.5 last.requests in
      let meant_last = one_scan (store_at h.1 (scans * every)) last.after h.2.steps last.scan in
      record {
        means = (requests_of h.0, h.1, last.after, before.means, meant_last, asked, last.left);
        lasting = ap (λ (l : Lasting). length l.slots) last.left
            ∙ left_lasting (store_at h.1 (scans * every)) last.after h.2.steps last.scan;
        many = omega (arith, long, all, earlier);
        few = subst (AreFew code) (sym h.5) (few_more h.0 h.2 before.few last.scan.few);
      }

-- a plan with its tasks' codes is the setup of the text that the plan is of
pub setup_is : (wiring : Wiring) (bytes : List ℕ) (plan : Planned) (setup : Loaded) → IsPlanOfText wiring bytes plan
    → setup.plan ≡ plan → AreCodes plan setup.codes → IsSetup wiring bytes setup
setup_is wiring bytes plan setup p same codes = record {
  plan = subst (λ (x : Planned). IsPlanOfText wiring bytes x) (sym same) p;
  codes = subst (λ (x : Planned). AreCodes x setup.codes) (sym same) codes;
}

typed_at : (o : Option PlannedTask) (t : PlannedTask) → o ≡ Some t
    → IfSome o (λ t. AreOf (first_values t) (types_of t)) → AreOf (first_values t) (types_of t)
typed_at o t is h = rw is at h

code_is : (o : Option PlannedTask) (t : PlannedTask) (plan : Planned) (code : Accepted) → o ≡ Some t
    → IfSome o (λ t. IsCodeOf plan t code) → IsCodeOf plan t code
code_is o t plan code is h = rw is at h

module _ (wiring : Wiring) (bytes : List ℕ) (setup : Loaded) (is : IsSetup wiring bytes setup)
    (all_meant : AreMeant is.plan.tree wiring.buses setup.codes) (number scans every : ℕ)
    (each : List Taking) (to : Lasting)
    (typed : IfSome (slice_get setup.plan.tasks number) (λ t. AreOf (first_values t) (types_of t)))
    (r : AreScansOf setup number scans every each to) where
  abbrev tree : Tree
  tree = is.plan.tree

  of_tree : IsPlanned tree (tasks_of tree) number r.task
  of_tree =
      let tasks = ap (λ (p : Planned). slice_get p.tasks number) is.plan.resolved in
      planned_at tree (tasks_of tree) number r.task (sym tasks ∙ r.is)

  abbrev task : SourceTask
  task = of_tree.source

  firsts : AreOf (first_values r.task) (types_of r.task)
  firsts = typed_at (slice_get setup.plan.tasks number) r.task r.is typed

  coded : IsCodeOf setup.plan r.task r.code
  coded =
      let there = code_at setup.plan setup.codes number r.code is.codes r.coded in
      code_is (slice_get setup.plan.tasks number) r.task setup.plan r.code r.is there

  -- all of the task's variables last
  lasting : lasting_types r.code.code ≡ types_of r.task
  lasting = all_last setup.plan r.task r.code coded

  meant : IsMeant (source_scan tree wiring.buses task) r.code.code
  meant = all_meant number task r.code of_tree.is r.coded

  done : IsLeft tree wiring.buses task r.code every scans (lasting_at_first r.task) each to
  done =
      let typed = as_long (first_values r.task) (types_of r.task) firsts in
      let last = ap (λ (ts : List IlType). length ts) lasting in
      left tree wiring.buses task r.code meant every scans (lasting_at_first r.task) each to (typed ∙ sym last) r.run

  pub has_task : HasTask (run_of setup number each to)
  has_task =
      let last = ap (λ (ts : List IlType). length ts) lasting in
      let each_typed = length-map r.task.slots (λ (s : Slot). s.value_type) in
      record { task = r.task; is = r.is; valued = done.lasting ∙ last ∙ each_typed }

  pub stepped : (name : Option (List ℕ)) → IsMeantTask setup.plan name number
      → IsStepped wiring bytes name scans every (run_of setup number each to)
  stepped name called =
      let Begun = λ (t : PlannedTask).
      ScansMean tree wiring.buses task every scans (lasting_at_first t) (requests_of each) to in
      record {
        loaded = is;
        called = called;
        task = task;
        is = of_tree.is;
        means = subst Begun of_tree.planned done.means;
        many = done.many;
        runs = r;
        few = done.few;
      }
