use Rattle.std.proofs.Common.{◌≡◌, ℕ, ◌∙◌, Option, Some, List, ap, subst, sym}
use Rattle.std.specs.Prelude.{IfSome, slice_get}
use Rattle.std.specs.Arc.{arc_value}
use Rattle.std.proofs.lemmas.Result.{IfOk-weaker}
use Rattle.iltypes.specs.declared.value.IlType.{IlType}
use Rattle.iltypes.specs.declared.value.Value.{Value}
use Rattle.iltypes.specs.Values.{AreOf}
use Rattle.ilblocks.specs.declared.kind.BlockKind.{BlockKind}
use Rattle.ilblocks.specs.Stores.{Lasting, blocks_at_first}
use Rattle.ilplan.specs.Plans.{Planned, PlannedTask, first_values, kinds_of}
use Rattle.ilcode.specs.Listings.{Listing, lasting_types}
use Rattle.ilverify.specs.Verdicts.{Accepted}
use Rattle.ilcompile.specs.Loaded.{Loaded, IsCodeOf}
use Rattle.ilcompile.proofs.CodeLemmas.{all_last}
use Rattle.textanswers.specs.Stepping.{ScansTo, lasting, lasting_at_first}
use Rattle.textanswers.proofs.answers.run.Goals as goal

of_task : (setup : Loaded) (plan : Planned) (number : ℕ) (t : PlannedTask) (code : Accepted) → plan ≡ setup.plan
    → slice_get plan.tasks number ≡ Some t
    → IfSome (slice_get setup.plan.tasks number) (λ t. IsCodeOf setup.plan t code) → IsCodeOf setup.plan t code
of_task setup plan number t code same is coded =
    let there : slice_get setup.plan.tasks number ≡ Some t =
    subst (λ (p : Planned). slice_get p.tasks number ≡ Some t) same is in
    subst (λ (o : Option PlannedTask). IfSome o (λ t. IsCodeOf setup.plan t code)) there coded

-- all variables of the task last
pub make-requires : goal.make-requires
make-requires c =
    let setup = c.args.setup.now in
    let t = c.task-of_task.result.now in
    let code = arc_value c.code.result.now in
    let of = of_task setup c.plan.result.now c.args.task t code c.plan.ensures.value c.task-of_task.ensures.value
    c.code.ensures.of_task in
    let first : c.deref.result.now ≡ first_values t = c.deref.ensures.value ∙ c.in_ok-first.ensures in
    subst (λ (vs : List Value). AreOf vs (lasting_types code.code)) (sym first)
    (subst (λ (ts : List IlType). AreOf (first_values t) ts) (sym (all_last setup.plan t code of))
    c.task-of_task.ensures.typed)

-- the code is that of the task, so its block instances are the task's
pub returns-clause-made : goal.returns-clause-made
returns-clause-made c =
    let setup = c.args.setup.now in
    let t = c.task-of_task.result.now in
    let code = arc_value c.code.result.now in
    let is : slice_get setup.plan.tasks c.args.task ≡ Some t =
    subst (λ (p : Planned). slice_get p.tasks c.args.task ≡ Some t) c.plan.ensures.value c.task-of_task.ensures.value in
    let of = of_task setup c.plan.result.now c.args.task t code c.plan.ensures.value c.task-of_task.ensures.value
    c.code.ensures.of_task in
    let kinds : code.code.kinds ≡ kinds_of t = ap (λ (l : Listing). l.kinds) of.laid in
    let first : c.deref.result.now ≡ first_values t = c.deref.ensures.value ∙ c.in_ok-first.ensures in
    let begins : lasting c.deref.result.now (blocks_at_first code.code.kinds) ≡ lasting_at_first t =
    ap (λ (vs : List Value). lasting vs (blocks_at_first code.code.kinds)) first
    ∙ ap (λ (ks : List BlockKind). lasting (first_values t) (blocks_at_first ks)) kinds in
    IfOk-weaker c.make.result _ _ (λ made run. record {
      task = t;
      is = is;
      code = code;
      coded = c.code.ensures.value;
      run =
          subst (λ (l : Lasting). ScansTo code c.args.every c.args.scans l made.each.items made.left.lasting) begins run;
    }) c.make.ensures
