use Rattle.std.proofs.Common.{ℕ, List, [], ◌∷◌, ◌++◌, map, take, sym, ap, ◌∙◌}
use Rattle.iltypes.specs.declared.value.Value.{Value}
use Rattle.livekeep.specs.KeptPlans.{global_first}
use Rattle.livekeep.proofs.TakenLists.{map_at}
use Rattle.livekeep.proofs.first_values.globals_first.Goals as goal

pub loop-global-preserved : goal.loop-global-preserved
loop-global-preserved c =
    let plan = c.args.plan.now in let kept = c.args.kept.now.values in let i = c.loop-global.global in
    let g = c.global.result.now in
    let first = global_first plan.text kept in
    let value = c.global_first.ensures ∙ ap (λ (text : List ℕ). global_first text kept g) c.text.ensures.value in
    c.in_ok-push.ensures.items
    ∙ (ap (λ (l : List Value). l ++ c.global_first.result ∷ []) c.loop-global.invariant
    ∙ (ap (λ (v : Value). map first (take i plan.globals) ++ v ∷ []) value
    ∙ sym (map_at first plan.globals i g c.global.ensures.value)))
