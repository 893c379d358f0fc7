use Rattle.std.proofs.Common.{◌∙◌, Option, Some, ap, sym, subst, length, arith}
use Rattle.std.specs.Prelude.{IfSome, option_map}
use Rattle.std.proofs.lemmas.List.{length-map}
use Rattle.ilmachine.specs.Images.{TaskImage, ProcessImage, IsImage, IsTaskImage}
use Rattle.ilmachine.specs.TaskRows.{shown}
use Rattle.ilmachine.proofs.RowTaking.{row_read, shown_typed, task_shown}
use Rattle.ilmachine.proofs.image.Image.externals.Goals as goal

pub index-named-requires : goal.index-named-requires
index-named-requires c =
    let f = c.self.inside in
    let n = ap (λ (i : ProcessImage). length i.tasks) c.self.view_is in
    let m = length-map f.tasks.items shown in
    let h = c.requires in
    omega (arith, n, m, h, f.tasks.ok.0)

pub returns-clause-value : goal.returns-clause-value
returns-clause-value c =
    let f = c.self.inside in
    let t = c.index-named.result.now in
    let read = row_read f.types.items f.globals.items f.tasks.items c.args.self.now c.args.task t c.self.view_is
    c.requires c.index-named.ensures in
    ap (option_map (λ (u : TaskImage). u.layout.externals))
    (task_shown f.types.items f.globals.items f.tasks.items c.args.self.now c.args.task t c.self.view_is read)
    ∙ ap Some (sym c.externals.ensures.value)

pub returns-clause-image : goal.returns-clause-image
returns-clause-image c = subst IsImage c.self.view_is c.self.invariant.image

pub returns-clause-own : goal.returns-clause-own
returns-clause-own c =
    let f = c.self.inside in
    let t = c.index-named.result.now in
    let read = row_read f.types.items f.globals.items f.tasks.items c.args.self.now c.args.task t c.self.view_is
    c.requires c.index-named.ensures in
    subst (λ (o : Option TaskImage). IfSome o IsTaskImage)
    (sym (task_shown f.types.items f.globals.items f.tasks.items c.args.self.now c.args.task t c.self.view_is read))
    (shown_typed t c.row-typed.ensures.in_types)
