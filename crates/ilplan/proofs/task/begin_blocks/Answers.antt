use Rattle.std.proofs.Common.{◌≡◌, ◌<◌, List, get_or, length, sym, ap, ◌∙◌, arith}
use Rattle.std.specs.Prelude.{slice_set}
use Rattle.std.proofs.lemmas.List.{take_all}
use Rattle.ilblocks.specs.Calls.{Block}
use Rattle.ilplan.specs.Beginnings.{each_with}
use Rattle.ilplan.proofs.Beginnings.{all_in_place, in_place, none_with, with_more, with_past}
use Rattle.ilplan.proofs.task.begin_blocks.Goals as goal

pub loop-i-init : goal.loop-i-init
loop-i-init c = sym (none_with in_place c.args.states.now.items)

pub loop-i-preserved : goal.loop-i-preserved
loop-i-preserved c =
    let i = c.loop-i.i in let xs = c.args.states.now.items in let ys = c.args.firsts.now in
    let x = c.index_mut.result.now in let v = c.index-firsts-i.result in
    let here : i < length xs = omega arith in
    let there : i < length ys = omega arith in
    let is : x ≡ get_or xs i x =
    c.index_mut.ensures.value
    ∙ (ap (λ (l : List Block). get_or l i x) c.loop-i.invariant ∙ with_past in_place xs ys i x) in
    ap (λ (b : Block). slice_set c.loop-i.states.items i b) c.copy_of.ensures
    ∙ (ap (λ (l : List Block). slice_set l i v) c.loop-i.invariant
    ∙ with_more in_place xs ys i x v here there is c.index-firsts-i.is)

pub returns : goal.returns
returns c =
    let i = c.loop-i.i in let xs = c.args.states.now.items in let ys = c.args.firsts.now in
    c.loop-i.invariant
    ∙ (ap (λ (l : List Block). each_with in_place xs l) (take_all i ys (omega arith)) ∙ all_in_place xs ys c.requires)
