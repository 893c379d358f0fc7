-- Scans of a task of a text have one answer at most.
use Rattle.std.proofs.Common.{◌≡◌, ℕ, zero, suc, ◌*◌, List, [], ◌∷◌, ◌++◌}
use Rattle.std.proofs.Common.{Option, Some, None, Result, Ok, Err, sym, ap, ◌∙◌, subst, arith, inl, inr}
use Rattle.std.proofs.lemmas.Bool.{cases_lt}
use Rattle.ilblocks.specs.Stores.{Lasting, Store, lasting_of, store_at}
use Rattle.ilplan.specs.Plans.{Planned, PlannedTask}
use Rattle.ilverify.specs.Verdicts.{Accepted}
use Rattle.ilmachine.proofs.ScanEnds.{one_scan}
use Rattle.wordlines.specs.Wirings.{Wiring}
use Rattle.ilcompile.specs.Loaded.{Loaded}
use Rattle.plantload.specs.Loading.{IsLoadFault, IsPlanOfText}
use Rattle.plantload.specs.declared.fault.LoadFault.{LoadFault}
use Rattle.plantload.specs.declared.fault.LoadFault.TheVariants as load_faults
use Rattle.plantload.proofs.OneAnswer.{no_fault, same_fault, same_plan, same_setup, none_against}
use Rattle.textanswers.specs.Taking.{Taking}
use Rattle.textanswers.specs.declared.stop.Stop.{Stop}
use Rattle.textanswers.specs.declared.stop.Stop.TheVariants.{Memory, Binding, Load, NoTask}
use Rattle.textanswers.specs.Answered.{IsAfterName, IsChecked, IsFirstCalled, IsMeantTask, IsStep, IsStepped, NoneIsMeant}
use Rattle.textanswers.specs.Stepping.{AreScansOf, IsScanAt, Run, ScansTo, lasting_at_first}

-- ---- scans

same_scan : (code : Accepted) (moment : ℕ) (from : Lasting) (s t : Taking) (a b : Lasting)
    → IsScanAt code moment from s a → IsScanAt code moment from t b → (s ≡ t) × (a ≡ b)
same_scan code moment from s t a b h g =
    let ends = one_scan code (store_at from moment) h.after g.after s.steps t.steps h.scan g.scan in
    let moments : s.moment ≡ t.moment = h.at_moment ∙ sym g.at_moment in
    let asked = ap (λ (store : Store). store.requests) ends.1 in
    let requests : s.requests ≡ t.requests = h.requests ∙ asked ∙ sym g.requests in
    let left = ap lasting_of ends.1 in
    (λ i. record { moment = moments i; steps = ends.0 i; requests = requests i }, h.left ∙ left ∙ sym g.left)

-- what two runs of the same scans took and left
same_scans : (code : Accepted) (every scans : ℕ) (from : Lasting) (s t : List Taking) (a b : Lasting)
    → ScansTo code every scans from s a → ScansTo code every scans from t b → (s ≡ t) × (a ≡ b)
same_scans code every zero from s t a b h g = (h.0 ∙ sym g.0, h.1 ∙ sym g.1)
same_scans code every (suc scans) from s t a b h g =
    let before = same_scans code every scans from h.0 g.0 h.1 g.1 h.3 g.3 in
    let moment = scans * every in
    let its = subst (λ (l : Lasting). IsScanAt code moment l h.2 a) before.1 h.4 in
    let last = same_scan code moment g.1 h.2 g.2 a b its g.4 in
    let fronts = ap (λ (ts : List Taking). ts ++ h.2 ∷ []) before.0 in
    let ends = ap (λ (x : Taking). g.0 ++ x ∷ []) last.0 in
    (h.5 ∙ fronts ∙ ends ∙ sym g.5, last.1)

same_runs : (setup : Loaded) (number scans every : ℕ) (s t : List Taking) (a b : Lasting)
    → AreScansOf setup number scans every s a → AreScansOf setup number scans every t b → (s ≡ t) × (a ≡ b)
same_runs setup number scans every s t a b h g =
    let mine = h.is in
    let its = g.is in
    let my_code = h.coded in
    let its_code = g.coded in
    let task : h.task ≡ g.task = cc in
    let code : h.code ≡ g.code = cc in
    let moved : ScansTo g.code every scans (lasting_at_first g.task) s a =
    subst (λ (u : PlannedTask). ScansTo g.code every scans (lasting_at_first u) s a) task
    (subst (λ (c : Accepted). ScansTo c every scans (lasting_at_first h.task) s a) code h.run) in
    same_scans g.code every scans (lasting_at_first g.task) s t a b moved g.run

-- ---- the task of a name

same_task : (plan : Planned) (name : List ℕ) (j k : ℕ) → IsFirstCalled plan name j → IsFirstCalled plan name k → j ≡ k
same_task plan name j k h g =
    elim (cases_lt j k) as (λ _. j ≡ k) [
      | inl lt ↦ absurd (g.first j lt h.is)
      | inr ge ↦ elim (cases_lt k j) as (λ _. j ≡ k) [
        | inl gt ↦ absurd (h.first k gt g.is)
        | inr le ↦ omega (arith, ge, le)
      ]
    ]

none_meant : (plan : Planned) (name : Option (List ℕ)) (task : ℕ) → IsMeantTask plan name task → ¬ NoneIsMeant plan name
none_meant plan (Some name) task called none = none task called.within called.is
none_meant plan None task called none = none called.1

same_meant : (plan : Planned) (name : Option (List ℕ)) (j k : ℕ) → IsMeantTask plan name j → IsMeantTask plan name k → j ≡ k
same_meant plan (Some name) j k h g = same_task plan name j k h g
same_meant plan None j k h g = h.0 ∙ sym g.0

-- ---- answers

module _ (wiring : Wiring) (bytes : List ℕ) where
  pub one_check : (a b : Result Loaded Stop) → IsChecked wiring bytes a → IsChecked wiring bytes b → a ≡ b
  one_check (Ok a) (Ok b) h g = ap Ok (same_setup wiring bytes a b h g)
  one_check (Ok a) (Err (Load y)) h g = absurd (no_fault wiring bytes a y h g)
  one_check (Ok a) (Err Memory) h g = absurd g
  one_check (Ok a) (Err (Binding y)) h g = absurd g
  one_check (Ok a) (Err (NoTask y)) h g = absurd g
  one_check (Err (Load x)) (Ok b) h g = absurd (no_fault wiring bytes b x g h)
  one_check (Err (Load x)) (Err (Load y)) h g = ap (λ (f : LoadFault). Err (Load f)) (same_fault wiring bytes x y h g)
  one_check (Err (Load x)) (Err Memory) h g = absurd g
  one_check (Err (Load x)) (Err (Binding y)) h g = absurd g
  one_check (Err (Load x)) (Err (NoTask y)) h g = absurd g
  one_check (Err Memory) b h g = absurd h
  one_check (Err (Binding x)) b h g = absurd h
  one_check (Err (NoTask x)) b h g = absurd h

  module _ (name : Option (List ℕ)) (scans every : ℕ) where
    abbrev IsRun : Run → Type 0
    IsRun made = IsStepped wiring bytes name scans every made

    -- no task of the text's plan is meant
    abbrev HasNone : Type 0
    HasNone = (plan : Planned) × IsPlanOfText wiring bytes plan × NoneIsMeant plan name

    same_steps : (a b : Run) → IsRun a → IsRun b → a ≡ b
    same_steps a b h g =
        let setup : a.setup ≡ b.setup = same_setup wiring bytes a.setup b.setup h.loaded g.loaded in
        let called = subst (λ (s : Loaded). IsMeantTask s.plan name a.task) setup h.called in
        let task : a.task ≡ b.task = same_meant b.setup.plan name a.task b.task called g.called in
        let mine = subst (λ (s : Loaded). AreScansOf s a.task scans every a.each a.left) setup h.runs in
        let runs = subst (λ (k : ℕ). AreScansOf b.setup k scans every a.each a.left) task mine in
        let left = same_runs b.setup b.task scans every a.each b.each a.left b.left runs g.runs in
        λ i. record { setup = setup i; task = task i; each = left.0 i; left = left.1 i }

    none_called : (plan : Planned) (task : ℕ) → IsPlanOfText wiring bytes plan → IsMeantTask plan name task → ¬ HasNone
    none_called plan task is called none =
        let same : plan ≡ none.0 = same_plan wiring bytes plan none.0 is none.1 in
        let its : IsMeantTask none.0 name task = subst (λ (x : Planned). IsMeantTask x name task) same called in
        none_meant none.0 name task its none.2

    -- where no task of a plan is meant, none of a setup of the text is
    no_task : (a : Run) → IsRun a → ¬ HasNone
    no_task a h none = none_called a.setup.plan a.task h.loaded.plan h.called none

    -- nor is a fault of the text reported before that
    no_task_or_fault : (fault : LoadFault) → IsLoadFault wiring bytes fault → IsAfterName name fault → ¬ HasNone
    no_task_or_fault load_faults.Memory f after none = f
    no_task_or_fault (load_faults.Text x) f after none = none_against wiring bytes none.0 (load_faults.Text x) none.1 f
    no_task_or_fault (load_faults.Name x) f after none = none_against wiring bytes none.0 (load_faults.Name x) none.1 f
    no_task_or_fault (load_faults.Code refused) f after none = none_called refused.plan after.0 f.0 after.1 none

    pub one_step : (a b : Result Run Stop) → IsStep wiring bytes name scans every a
        → IsStep wiring bytes name scans every b → a ≡ b
    one_step (Ok a) (Ok b) h g = ap Ok (same_steps a b h g)
    one_step (Ok a) (Err (Load y)) h g = absurd (no_fault wiring bytes a.setup y h.loaded g.0)
    one_step (Ok a) (Err (NoTask y)) h g = absurd (no_task a h g.1)
    one_step (Ok a) (Err Memory) h g = absurd g
    one_step (Ok a) (Err (Binding y)) h g = absurd g
    one_step (Err (Load x)) (Ok b) h g = absurd (no_fault wiring bytes b.setup x g.loaded h.0)
    one_step (Err (Load x)) (Err (Load y)) h g =
        ap (λ (f : LoadFault). Err (Load f)) (same_fault wiring bytes x y h.0 g.0)
    one_step (Err (Load x)) (Err (NoTask y)) h g = absurd (no_task_or_fault x h.0 h.1 g.1)
    one_step (Err (Load x)) (Err Memory) h g = absurd g
    one_step (Err (Load x)) (Err (Binding y)) h g = absurd g
    one_step (Err (NoTask x)) (Ok b) h g = absurd (no_task b g h.1)
    one_step (Err (NoTask x)) (Err (Load y)) h g = absurd (no_task_or_fault y g.0 g.1 h.1)
    one_step (Err (NoTask x)) (Err (NoTask y)) h g = ap (λ (n : Option (List ℕ)). Err (NoTask n)) (h.0 ∙ sym g.0)
    one_step (Err (NoTask x)) (Err Memory) h g = absurd g
    one_step (Err (NoTask x)) (Err (Binding y)) h g = absurd g
    one_step (Err Memory) b h g = absurd h
    one_step (Err (Binding x)) b h g = absurd h
