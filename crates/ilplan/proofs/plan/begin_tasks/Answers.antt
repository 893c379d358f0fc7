use Rattle.std.proofs.Common.{◌≡◌, ◌<◌, List, get_or, length, take, sym, ap, ◌∙◌, refl, arith}
use Rattle.std.specs.Prelude.{slice_set}
use Rattle.std.proofs.lemmas.List.{take_all}
use Rattle.std.proofs.lemmas.Option.{slice_get_read}
use Rattle.std.proofs.lemmas.Slice.Zip.{AllZip-long}
use Rattle.ilblocks.specs.Stores.{Lasting}
use Rattle.ilplan.specs.Plans.{PlannedTask}
use Rattle.ilplan.specs.Beginnings.{each_with, task_with}
use Rattle.ilplan.specs.BeginningSteps.{FitsTask}
use Rattle.ilplan.proofs.Beginnings.{length_with, none_with, with_more, with_past, zip_at}
use Rattle.ilplan.proofs.plan.begin_tasks.Goals as goal

pub loop-i-init : goal.loop-i-init
loop-i-init c = sym (none_with task_with c.args.tasks.now.items)

pub index_mut-requires : goal.index_mut-requires
index_mut-requires c =
    let xs = c.args.tasks.now.items in
    let long = ap length c.loop-i.invariant ∙ length_with task_with xs (take c.loop-i.i c.args.firsts.now) in
    omega arith

pub offset_bounds-firsts-i : goal.offset_bounds-firsts-i
offset_bounds-firsts-i c =
    let long = AllZip-long FitsTask c.args.tasks.now.items c.args.firsts.now c.requires in omega arith

pub bounds-firsts-i : goal.bounds-firsts-i
bounds-firsts-i c =
    let long = AllZip-long FitsTask c.args.tasks.now.items c.args.firsts.now c.requires in omega arith

pub begin_with-requires-clause-values : goal.begin_with-requires-clause-values
begin_with-requires-clause-values c =
    let i = c.loop-i.i in let xs = c.args.tasks.now.items in let ys = c.args.firsts.now in
    let x = c.index_mut.result.now in let v = c.index-firsts-i.result in
    let here : i < length xs = omega arith in
    let long = AllZip-long FitsTask xs ys c.requires in
    let there : i < length ys = omega arith in
    let is : x ≡ get_or xs i x =
    c.index_mut.ensures.value
    ∙ (ap (λ (l : List PlannedTask). get_or l i x) c.loop-i.invariant ∙ with_past task_with xs ys i x) in
    (zip_at FitsTask xs ys i x v c.requires (slice_get_read xs (length xs) i x refl here is)
    (slice_get_read ys (length ys) i v refl there c.index-firsts-i.is)).values

pub begin_with-requires-clause-blocks : goal.begin_with-requires-clause-blocks
begin_with-requires-clause-blocks c =
    let i = c.loop-i.i in let xs = c.args.tasks.now.items in let ys = c.args.firsts.now in
    let x = c.index_mut.result.now in let v = c.index-firsts-i.result in
    let here : i < length xs = omega arith in
    let long = AllZip-long FitsTask xs ys c.requires in
    let there : i < length ys = omega arith in
    let is : x ≡ get_or xs i x =
    c.index_mut.ensures.value
    ∙ (ap (λ (l : List PlannedTask). get_or l i x) c.loop-i.invariant ∙ with_past task_with xs ys i x) in
    (zip_at FitsTask xs ys i x v c.requires (slice_get_read xs (length xs) i x refl here is)
    (slice_get_read ys (length ys) i v refl there c.index-firsts-i.is)).blocks

pub loop-i-preserved : goal.loop-i-preserved
loop-i-preserved c =
    let i = c.loop-i.i in let xs = c.args.tasks.now.items in let ys = c.args.firsts.now in
    let x = c.index_mut.result.now in let v = c.index-firsts-i.result in
    let here : i < length xs = omega arith in
    let long = AllZip-long FitsTask xs ys c.requires in
    let there : i < length ys = omega arith in
    let is : x ≡ get_or xs i x =
    c.index_mut.ensures.value
    ∙ (ap (λ (l : List PlannedTask). get_or l i x) c.loop-i.invariant ∙ with_past task_with xs ys i x) in
    ap (λ (t : PlannedTask). slice_set c.loop-i.tasks.items i t) c.begin_with.ensures
    ∙ (ap (λ (l : List PlannedTask). slice_set l i (task_with x v)) c.loop-i.invariant
    ∙ with_more task_with xs ys i x v here there is c.index-firsts-i.is)

pub returns : goal.returns
returns c =
    let i = c.loop-i.i in let xs = c.args.tasks.now.items in let ys = c.args.firsts.now in
    let long = AllZip-long FitsTask xs ys c.requires in
    c.loop-i.invariant ∙ ap (λ (l : List Lasting). each_with task_with xs l) (take_all i ys (omega arith))
