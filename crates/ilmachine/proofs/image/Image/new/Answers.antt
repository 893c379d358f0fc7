use Rattle.std.proofs.Common.{◌≡◌, ◌∙◌, ◌<◌, ℕ, List, ap, sym, subst, length, map, arith, Vec, Global}
use Rattle.std.specs.Prelude.{All}
use Rattle.std.proofs.lemmas.List.{length-map}
use Rattle.iltypes.specs.declared.value.Value.{Value}
use Rattle.ilmachine.specs.declared.external.External.{External}
use Rattle.ilmachine.specs.declared.slots.TaskSlot.{TaskSlot}
use Rattle.ilmachine.specs.Images.{TaskImage, image_of}
use Rattle.ilmachine.specs.ImageSteps.{HasGlobals}
use Rattle.ilmachine.specs.TaskRows.{TaskRow, shown, ready_task}
use Rattle.ilmachine.specs.RowSteps.{IsIndex, layouts_of, lists_of}
use Rattle.ilmachine.proofs.RowOpening.{all_have, rows_known, shown_again, made_kept}
use Rattle.ilmachine.proofs.image.Image.new.Goals as goal

pub rows_of-requires : goal.rows_of-requires
rows_of-requires c =
    subst (λ (gs : List Value). All (λ (t : TaskImage). HasGlobals t.layout gs) c.args.tasks.now)
    (sym c.deref.ensures.value) (all_have c.args.types.items c.args.globals.items c.args.tasks.now c.requires)

pub index_of-requires : goal.index_of-requires
index_of-requires c =
    let gs = c.args.globals.items in
    let rows = c.in_ok-tasks.tasks.items in
    let is = c.in_ok-tasks.ensures
    ∙ ap (λ (g : List Value). map (ready_task g) c.args.tasks.now) c.deref.ensures.value in
    let known = rows_known c.args.types.items gs c.args.tasks.now rows c.requires is in
    let long : length gs ≡ c.len.result = omega (arith, c.len.ensures, c.args.globals.ok.0) in
    subst (λ (ts : List TaskRow). All (λ (t : TaskRow). All (λ (e : External). e.global < c.len.result)
    t.layout.externals) ts) (sym c.deref-2.ensures.value)
    (subst (λ (n : ℕ). All (λ (t : TaskRow). All (λ (e : External). e.global < n) t.layout.externals) rows) long known)

pub invariant_of-result : goal.invariant_of-result
invariant_of-result c =
    let gs = c.args.globals.items in
    let rows = c.in_ok-tasks.tasks.items in
    let items = λ (v : Vec TaskSlot Global). v.items in
    let index = lists_of items c.in_ok-index.index.items in
    let is = c.in_ok-tasks.ensures
    ∙ ap (λ (g : List Value). map (ready_task g) c.args.tasks.now) c.deref.ensures.value in
    let long : c.len.result ≡ length gs = omega (arith, c.len.ensures, c.args.globals.ok.0) in
    made_kept c.args.types.items gs c.args.tasks.now rows index c.requires is
    (subst (λ (ts : List TaskRow). IsIndex (layouts_of ts) index) c.deref-2.ensures.value c.in_ok-index.ensures.slots)
    (length-map c.in_ok-index.index.items items ∙ c.in_ok-index.ensures.each ∙ long)

pub returns : goal.returns
returns c =
    let gs = c.args.globals.items in
    let is = c.in_ok-tasks.ensures
    ∙ ap (λ (g : List Value). map (ready_task g) c.args.tasks.now) c.deref.ensures.value in
    ap (image_of c.args.types.items gs) (ap (map shown) is ∙ shown_again gs c.args.tasks.now)
