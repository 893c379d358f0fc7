-- A text is loaded as one thing at most: its setup, or the one fault that stands against it.
use Rattle.std.proofs.Common.{◌≡◌, ℕ, List, [], ◌∷◌, Result, Ok, Err, refl, sym, ap, ap₂, ◌∙◌, subst, arith}
use Rattle.std.proofs.Common.{inl, inr}
use Rattle.std.specs.List.{AllZip}
use Rattle.std.proofs.lemmas.Bool.{cases_lt}
use Rattle.wordlines.specs.Wirings.{Wiring}
use Rattle.ilsource.specs.SourceTrees.{Tree}
use Rattle.iltext.proofs.Sources.{is_one, is_one_fault, is_no_fault}
use Rattle.ildeclared.specs.declared.fault.NameFault.TheVariants as name_faults
use Rattle.ilsyms.specs.Faults.{IsFault}
use Rattle.ilplan.specs.Plans.{Planned, PlannedTask}
use Rattle.ilsyms.specs.Resolved.{plan_of_tree}
use Rattle.ilscope.specs.Reports.{ReportsLeast}
use Rattle.ilscope.proofs.OneFault.{one_report}
use Rattle.ilcode.specs.Listings.{Listing}
use Rattle.ilcode.specs.Paths.{IsBound}
use Rattle.ilcode.proofs.RunPaths.{one_bound}
use Rattle.ilverify.specs.declared.refusal.Refusal.{Refusal}
use Rattle.ilverify.specs.Certificates.{IsRefusal}
use Rattle.ilverify.specs.Verdicts.{Accepted}
use Rattle.ilverify.proofs.Verdict.{accepted_apart, same_refusal}
use Rattle.ilcompile.specs.Loaded.{AreCodes, IsCodeOf, Loaded, listing_for}
use Rattle.plantload.specs.RefusedTasks.{Refused}
use Rattle.plantload.specs.Loading.{IsFirstRefused, IsLoadFault, IsLoaded, IsPlanFault, IsPlanOfText, IsSetup}
use Rattle.plantload.specs.declared.fault.LoadFault.{LoadFault}
use Rattle.plantload.specs.declared.fault.LoadFault.TheVariants.{Memory, Text, Name, Code}
use Rattle.ilcompile.proofs.CodeLemmas.{certified_at}

-- ---- codes

-- a task has one code
same_code : (plan : Planned) (t : PlannedTask) (a b : Accepted) → IsCodeOf plan t a → IsCodeOf plan t b → a ≡ b
same_code plan t a b h g =
    let code : a.code ≡ b.code = h.laid ∙ sym g.laid in
    let mine = subst (λ (l : Listing). IsBound l a.bound) code h.bound in
    let bound : a.bound ≡ b.bound = one_bound b.code a.bound b.bound mine g.bound in
    λ i. record { code = code i; bound = bound i }

codes_same : (plan : Planned) (tasks : List PlannedTask) (a b : List Accepted) → AllZip (IsCodeOf plan) tasks a
    → AllZip (IsCodeOf plan) tasks b → a ≡ b
codes_same plan [] [] [] h g = refl
codes_same plan [] [] (y ∷ b) h g = absurd g
codes_same plan [] (x ∷ a) b h g = absurd h
codes_same plan (t ∷ tasks) [] b h g = absurd h
codes_same plan (t ∷ tasks) (x ∷ a) [] h g = absurd g
codes_same plan (t ∷ tasks) (x ∷ a) (y ∷ b) h g =
    let first = same_code plan t x y h.0 g.0 in
    let others = codes_same plan tasks a b h.1 g.1 in
    ap₂ (λ (c : Accepted) (cs : List Accepted). c ∷ cs) first others

pub same_codes : (plan : Planned) (a b : List Accepted) → AreCodes plan a → AreCodes plan b → a ≡ b
same_codes plan a b h g = codes_same plan plan.tasks a b h g

-- where all tasks have codes, none is refused
pub none_refused : (plan : Planned) (codes : List Accepted) (k : ℕ) (refusal : Refusal) → AreCodes plan codes
    → IsFirstRefused plan k refusal → ⊥
none_refused plan codes k refusal h f =
    accepted_apart (listing_for plan f.task) (certified_at plan codes k f.task h f.is) refusal f.refused

-- a plan has one first task that is refused
same_number : (plan : Planned) (j k : ℕ) (r q : Refusal) → IsFirstRefused plan j r → IsFirstRefused plan k q → j ≡ k
same_number plan j k r q f g =
    elim (cases_lt j k) as (λ _. j ≡ k) [
      | inl lt ↦ absurd (accepted_apart (listing_for plan f.task) (g.before j f.task lt f.is) r f.refused)
      | inr ge ↦ elim (cases_lt k j) as (λ _. j ≡ k) [
        | inl gt ↦ absurd (accepted_apart (listing_for plan g.task) (f.before k g.task gt g.is) q g.refused)
        | inr le ↦ omega (arith, ge, le)
      ]
    ]

same_reason : (plan : Planned) (k : ℕ) (r q : Refusal) → IsFirstRefused plan k r → IsFirstRefused plan k q → r ≡ q
same_reason plan k r q f g =
    let mine = f.is in
    let its = g.is in
    let task : g.task ≡ f.task = cc in
    let its_refusal = subst (λ (t : PlannedTask). IsRefusal (listing_for plan t) q) task g.refused in
    same_refusal (listing_for plan f.task) r q f.refused its_refusal

pub same_refused : (plan : Planned) (j k : ℕ) (r q : Refusal) → IsFirstRefused plan j r → IsFirstRefused plan k q
    → (j ≡ k) × (r ≡ q)
same_refused plan j k r q f g =
    let number = same_number plan j k r q f g in
    (number, same_reason plan k r q (subst (λ (n : ℕ). IsFirstRefused plan n r) number f) g)

-- ---- texts

module _ (wiring : Wiring) (bytes : List ℕ) where
  pub same_plan : (a b : Planned) → IsPlanOfText wiring bytes a → IsPlanOfText wiring bytes b → a ≡ b
  same_plan a b h g =
      let tree : h.tree ≡ g.tree = is_one bytes h.tree g.tree h.spelled g.spelled in
      h.resolved ∙ ap (λ (t : Tree). plan_of_tree t wiring) tree ∙ sym g.resolved

  pub same_setup : (a b : Loaded) → IsSetup wiring bytes a → IsSetup wiring bytes b → a ≡ b
  same_setup a b h g =
      let plan : a.plan ≡ b.plan = same_plan a.plan b.plan h.plan g.plan in
      let mine = subst (λ (p : Planned). AreCodes p a.codes) plan h.codes in
      let codes : a.codes ≡ b.codes = same_codes b.plan a.codes b.codes mine g.codes in
      λ i. record { plan = plan i; codes = codes i }

  -- bytes with a plan have no fault of texts and names
  pub none_against : (plan : Planned) (fault : LoadFault) → IsPlanOfText wiring bytes plan
      → IsPlanFault wiring bytes fault → ⊥
  none_against plan Memory h f = f
  none_against plan (Text fault) h f = is_no_fault bytes h.tree fault h.spelled f
  none_against plan (Name name_faults.Memory) h f = f.2
  none_against plan (Name (name_faults.At line col cause)) h f =
      let tree : f.0 ≡ h.tree = is_one bytes f.0 h.tree f.1 h.spelled in
      h.named f.2.0 cause (subst (λ (t : Tree). IsFault t wiring f.2.0 cause) tree f.2.1.is)
  none_against plan (Code refused) h f = f

  pub same_plan_fault : (a b : LoadFault) → IsPlanFault wiring bytes a → IsPlanFault wiring bytes b → a ≡ b
  same_plan_fault Memory b h g = absurd h
  same_plan_fault (Code refused) b h g = absurd h
  same_plan_fault (Text x) Memory h g = absurd g
  same_plan_fault (Text x) (Code refused) h g = absurd g
  same_plan_fault (Text x) (Text y) h g = ap Text (is_one_fault bytes x y h g)
  same_plan_fault (Text x) (Name y) h g = absurd (is_no_fault bytes g.0 x g.1 h)
  same_plan_fault (Name x) Memory h g = absurd g
  same_plan_fault (Name x) (Code refused) h g = absurd g
  same_plan_fault (Name x) (Text y) h g = absurd (is_no_fault bytes h.0 y h.1 g)
  same_plan_fault (Name x) (Name y) h g =
      let tree : h.0 ≡ g.0 = is_one bytes h.0 g.0 h.1 g.1 in
      let mine = subst (λ (t : Tree). ReportsLeast t.text (IsFault t wiring) x) tree h.2 in
      ap Name (one_report g.0.text (IsFault g.0 wiring) x y mine g.2)

  -- bytes with a setup have no fault
  pub no_fault : (setup : Loaded) (fault : LoadFault) → IsSetup wiring bytes setup → IsLoadFault wiring bytes fault → ⊥
  no_fault setup Memory h f = f
  no_fault setup (Text fault) h f = none_against setup.plan (Text fault) h.plan f
  no_fault setup (Name fault) h f = none_against setup.plan (Name fault) h.plan f
  no_fault setup (Code refused) h f =
      let plan : setup.plan ≡ refused.plan = same_plan setup.plan refused.plan h.plan f.0 in
      none_refused refused.plan setup.codes refused.task refused.refusal
      (subst (λ (p : Planned). AreCodes p setup.codes) plan h.codes) f.1

  -- bytes have one first task that is refused
  pub same_refused_task : (a b : Refused) → IsPlanOfText wiring bytes a.plan → IsFirstRefused a.plan a.task a.refusal
      → IsPlanOfText wiring bytes b.plan → IsFirstRefused b.plan b.task b.refusal → a ≡ b
  same_refused_task a b p f q g =
      let plan : a.plan ≡ b.plan = same_plan a.plan b.plan p q in
      let mine = subst (λ (x : Planned). IsFirstRefused x a.task a.refusal) plan f in
      let rest : (a.task ≡ b.task) × (a.refusal ≡ b.refusal) =
      same_refused b.plan a.task b.task a.refusal b.refusal mine g in
      λ i. record { plan = plan i; task = rest.0 i; refusal = rest.1 i }

  pub same_fault : (a b : LoadFault) → IsLoadFault wiring bytes a → IsLoadFault wiring bytes b → a ≡ b
  same_fault Memory b h g = absurd h
  same_fault (Text x) Memory h g = absurd g
  same_fault (Text x) (Text y) h g = same_plan_fault (Text x) (Text y) h g
  same_fault (Text x) (Name y) h g = same_plan_fault (Text x) (Name y) h g
  same_fault (Text x) (Code b) h g = absurd (none_against b.plan (Text x) g.0 h)
  same_fault (Name x) Memory h g = absurd g
  same_fault (Name x) (Text y) h g = same_plan_fault (Name x) (Text y) h g
  same_fault (Name x) (Name y) h g = same_plan_fault (Name x) (Name y) h g
  same_fault (Name x) (Code b) h g = absurd (none_against b.plan (Name x) g.0 h)
  same_fault (Code a) Memory h g = absurd g
  same_fault (Code a) (Text y) h g = absurd (none_against a.plan (Text y) h.0 g)
  same_fault (Code a) (Name y) h g = absurd (none_against a.plan (Name y) h.0 g)
  same_fault (Code a) (Code b) h g = ap Code (same_refused_task a b h.0 h.1 g.0 g.1)

  pub one_answer : (a b : Result Loaded LoadFault) → IsLoaded wiring bytes a → IsLoaded wiring bytes b → a ≡ b
  one_answer (Ok a) (Ok b) h g = ap Ok (same_setup a b h g)
  one_answer (Ok a) (Err b) h g = absurd (no_fault a b h g)
  one_answer (Err a) (Ok b) h g = absurd (no_fault b a g h)
  one_answer (Err a) (Err b) h g = ap Err (same_fault a b h g)
