use Rattle.std.proofs.Common.{◌≡◌, ◌<◌, List, false, get_or, length, sym, ap, ◌∙◌, arith}
use Rattle.std.specs.Prelude.{slice_index_or, slice_set}
use Rattle.std.proofs.lemmas.List.{get_or_default}
use Rattle.iltypes.specs.declared.value.Value.TheVariants as values
use Rattle.ilplan.specs.declared.global.Global.{Global as GlobalVariable}
use Rattle.ilplan.specs.Beginnings.{global_with}
use Rattle.ilplan.proofs.Beginnings.{none_with, with_more, with_past}
use Rattle.ilplan.proofs.plan.begin_globals.Goals as goal

pub loop-i-init : goal.loop-i-init
loop-i-init c = sym (none_with global_with c.args.globals.now.items)

pub loop-i-preserved : goal.loop-i-preserved
loop-i-preserved c =
    let i = c.loop-i.i in let xs = c.args.globals.now.items in let ys = c.args.values.now in
    let x = c.index_mut-global.result.now in
    let v = slice_index_or ys i (values.Bool false) in
    let here : i < length xs = omega arith in
    let there : i < length ys = omega arith in
    let is : x ≡ get_or xs i x =
    c.index_mut-global.ensures.value
    ∙ (ap (λ (l : List GlobalVariable). get_or l i x) c.loop-i.invariant ∙ with_past global_with xs ys i x) in
    ap (λ (l : List GlobalVariable). slice_set l i (global_with x v)) c.loop-i.invariant
    ∙ with_more global_with xs ys i x v here there is (get_or_default ys i (values.Bool false) v there)
