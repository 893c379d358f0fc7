use Rattle.std.proofs.Common.{◌∙◌, Some, ap, sym, subst, length, arith}
use Rattle.std.specs.Prelude.{option_map}
use Rattle.std.proofs.lemmas.List.{length-map}
use Rattle.ilmachine.specs.Images.{TaskImage, ProcessImage, IsImage, stored_slots}
use Rattle.ilmachine.specs.TaskRows.{shown}
use Rattle.ilmachine.proofs.RowTaking.{row_read, task_shown}
use Rattle.ilmachine.proofs.image.Image.stores.Goals as goal

pub index-requires : goal.index-requires
index-requires c =
    let f = c.self.inside in
    let n = ap (λ (i : ProcessImage). length i.tasks) c.self.view_is in
    let m = length-map f.tasks.items shown in
    let h = c.requires in
    omega (arith, n, m, h, f.tasks.ok.0)

pub returns-clause-value : goal.returns-clause-value
returns-clause-value c =
    let f = c.self.inside in
    let t = c.index.result.now in
    let read = row_read f.types.items f.globals.items f.tasks.items c.args.self.now c.args.task t c.self.view_is
    c.requires c.index.ensures in
    ap (option_map (λ (u : TaskImage). stored_slots u.layout.externals))
    (task_shown f.types.items f.globals.items f.tasks.items c.args.self.now c.args.task t c.self.view_is read)
    ∙ ap Some (sym c.stores.ensures.value)

pub returns-clause-image : goal.returns-clause-image
returns-clause-image c = subst IsImage c.self.view_is c.self.invariant.image
