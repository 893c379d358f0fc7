use Rattle.std.proofs.Common.{◌∙◌, List, Some, ap, sym, subst, length, arith, Vec, Global}
use Rattle.std.specs.Prelude.{slice_get}
use Rattle.std.proofs.lemmas.List.{length-map}
use Rattle.std.proofs.lemmas.Result.{IfOk-weaker}
use Rattle.iltypes.specs.declared.value.Value.{Value}
use Rattle.iltypes.specs.Values.{AreOf}
use Rattle.ilverify.specs.Listings.{lasting_types}
use Rattle.ilmachine.specs.declared.slots.TaskSlot.{TaskSlot}
use Rattle.ilmachine.specs.Images.{ProcessImage}
use Rattle.ilmachine.specs.Snapshots.{ScanStart}
use Rattle.ilmachine.specs.TaskRows.{shown}
use Rattle.ilmachine.specs.RowSteps.{lists_of}
use Rattle.ilmachine.proofs.RowTaking.{row_read, taken}
use Rattle.ilmachine.proofs.image.Image.take.Goals as goal

pub index-taken-requires : goal.index-taken-requires
index-taken-requires c =
    let f = c.self.inside in
    let n = ap (λ (i : ProcessImage). length i.tasks) c.self.view_is in
    let m = length-map f.tasks.items shown in
    let h = c.requires in
    omega (arith, n, m, h, f.tasks.ok.0)

pub begin-requires : goal.begin-requires
begin-requires c =
    let t = c.index-taken.result.now in
    let row = c.in_ok-copy.ensures ∙ c.row.ensures.value in
    subst (λ (vs : List Value). AreOf vs (lasting_types t.layout.verified.code)) (sym row) c.row.ensures.in_types.values

pub returns : goal.returns
returns c =
    let f = c.self.inside in
    let t = c.index-taken.result.now in
    let index = lists_of (λ (v : Vec TaskSlot Global). v.items) f.index.items in
    let read = row_read f.types.items f.globals.items f.tasks.items c.args.self.now c.args.task t c.self.view_is
    c.requires c.index-taken.ensures in
    let of = taken f.types.items f.globals.items f.tasks.items index c.args.self.now c.args.task t c.self.invariant
    c.self.view_is read in
    let row = c.in_ok-copy.ensures ∙ c.row.ensures.value in
    record {
      verified = IfOk-weaker c.begin.result _ _
          (λ s e. of.verified ∙ ap Some (sym (ap (λ (s : ScanStart). s.verified) e))) c.begin.ensures;
      values = IfOk-weaker c.begin.result _ _
          (λ s e slot. ap (λ (s : ScanStart). slice_get s.lasting.slots slot) e
          ∙ ap (λ (vs : List Value). slice_get vs slot) row ∙ of.values slot) c.begin.ensures;
      blocks = IfOk-weaker c.begin.result _ _
          (λ s e. of.blocks ∙ ap Some (sym (ap (λ (s : ScanStart). s.lasting.blocks) e))) c.begin.ensures;
      moment = IfOk-weaker c.begin.result _ _ (λ s e. ap (λ (s : ScanStart). s.moment) e) c.begin.ensures;
    }
