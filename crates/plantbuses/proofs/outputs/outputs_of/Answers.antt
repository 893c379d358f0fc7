use Rattle.std.proofs.Common.{◌≡◌, ◌<◌, ◌+◌, ◌-◌, ℕ, length, ap, ◌∙◌, subst, arith}
use Rattle.std.proofs.lemmas.List.{get_or_read}
use Rattle.gearcmd.specs.declared.requests.TaskKind.TheVariants.{Cyclic}
use Rattle.plantbuses.specs.OutputSteps.{planned, output_for, AreAllFree}
use Rattle.plantbuses.proofs.LocatedLevels.{AreOutputsFrom, outputs_start, outputs_turn, outputs_done}
use Rattle.plantbuses.proofs.outputs.outputs_of.Goals as goal

pub loop-global-init : goal.loop-global-init
loop-global-init c =
    let plan = c.args.plan.now in
    outputs_start (planned plan) c.globals-global.result c.in_ok-outputs.outputs.items
    (let e = c.globals-global.ensures.value in omega arith)
    (subst (λ (n : ℕ). AreAllFree n c.in_ok-outputs.outputs.items) c.buses.ensures.value c.in_ok-outputs.ensures)

pub loop-global-preserved : goal.loop-global-preserved
loop-global-preserved c =
    let p = planned c.args.plan.now in let n = c.loop-global.global - 1 in
    let kinds = c.in_ok-kinds.kinds.items in
    let before = c.loop-global.outputs.items in let after = c.note_global.new.outputs.items in
    let lt : n < length p.plan.globals = omega arith in
    let next : c.loop-global.global ≡ n + 1 = omega arith in
    let kind = get_or_read kinds n c.index.result.now (let m = c.in_ok-kinds.ensures.many in omega arith)
    c.index.ensures Cyclic ∙ c.in_ok-kinds.ensures.each n lt in
    outputs_turn p n c.index.result.now before after lt (ap (output_for n) kind) c.note_global.ensures.levels
    c.note_global.ensures.noted
    (subst (λ (m : ℕ). AreOutputsFrom p m before) next c.loop-global.invariant)

pub returns : goal.returns
returns c =
    let p = planned c.args.plan.now in let outputs = c.loop-global.outputs.items in
    let zero : c.loop-global.global ≡ 0 = omega arith in
    outputs_done p outputs (subst (λ (m : ℕ). AreOutputsFrom p m outputs) zero c.loop-global.invariant)
