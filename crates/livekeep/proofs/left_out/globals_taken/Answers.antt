use Rattle.std.proofs.Common.{ℕ, List, ◌++◌, take, sym, ap, ◌∙◌}
use Rattle.std.specs.Prelude.{flat_map}
use Rattle.livekeep.specs.KeptFiles.{KeptEntry}
use Rattle.livekeep.specs.KeptPlans.{global_taken}
use Rattle.livekeep.proofs.TakenLists.{flat_at}
use Rattle.livekeep.proofs.left_out.globals_taken.Goals as goal

pub loop-global-preserved : goal.loop-global-preserved
loop-global-preserved c =
    let plan = c.args.plan.now in let kept = c.args.kept.now.values in let i = c.loop-global.global in
    let g = c.global.result.now in
    let given = global_taken plan.text kept in
    c.in_ok-take_global.ensures
    ∙ (ap (λ (l : List KeptEntry). l ++ global_taken c.text.result.now kept g) c.loop-global.invariant
    ∙ (ap (λ (text : List ℕ). flat_map given (take i plan.globals) ++ global_taken text kept g) c.text.ensures.value
    ∙ sym (flat_at given plan.globals i g c.global.ensures.value)))
