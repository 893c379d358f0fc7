use Rattle.std.proofs.Common.{◌≡◌, ◌∙◌, ◌<◌, ℕ, List, Some, ap, sym, subst, length, arith, Vec, Global}
use Rattle.std.specs.Prelude.{All, slice_get}
use Rattle.std.proofs.lemmas.List.{length-map}
use Rattle.std.proofs.lemmas.Result.{IfOk-weaker}
use Rattle.iltypes.specs.declared.value.Value.{Value}
use Rattle.iltypes.specs.Values.{AreOf}
use Rattle.ilverify.specs.Listings.{lasting_types}
use Rattle.ilmachine.specs.declared.overriding.Override.{Override}
use Rattle.ilmachine.specs.declared.slots.TaskSlot.{TaskSlot}
use Rattle.ilmachine.specs.Images.{ProcessImage}
use Rattle.ilmachine.specs.Snapshots.{ScanStart}
use Rattle.ilmachine.specs.TaskRows.{shown}
use Rattle.ilmachine.specs.RowSteps.{MaySet, lists_of, row_under, slots_at}
use Rattle.ilmachine.proofs.Overrides.{AreAllowed}
use Rattle.ilmachine.proofs.RowTaking.{row_read, taken, taken_under, are_known, overrides_fit, under_in_types}
use Rattle.ilmachine.proofs.image.Image.take_with.Goals as goal

pub index-taken-requires : goal.index-taken-requires
index-taken-requires c =
    let f = c.self.inside in
    let n = ap (λ (i : ProcessImage). length i.tasks) c.self.view_is in
    let m = length-map f.tasks.items shown in
    let h = c.requires.task in
    omega (arith, n, m, h, f.tasks.ok.0)

pub put_overrides-requires : goal.put_overrides-requires
put_overrides-requires c =
    let f = c.self.inside in
    let task = c.args.task in
    let overrides = c.args.overrides.now in
    let items = λ (v : Vec TaskSlot Global). v.items in
    let index = lists_of items f.index.items in
    let t = c.index-taken.result.now in
    let read = row_read f.types.items f.globals.items f.tasks.items c.args.self.now task t c.self.view_is
    c.requires.task c.index-taken.ensures in
    let allowed = subst (λ (i : ProcessImage). AreAllowed i.types overrides) (sym c.self.view_is) c.requires.in_types in
    let row = c.in_ok-row.ensures ∙ c.row.ensures.value in
    let typed = subst (λ (vs : List Value). AreOf vs (lasting_types t.layout.verified.code)) (sym row)
    c.row.ensures.in_types.values in
    let known = are_known f.types.items f.globals.items f.tasks.items index overrides c.self.invariant allowed in
    let fit = overrides_fit f.types.items f.globals.items f.tasks.items index task t overrides c.in_ok-row.row
    c.self.invariant read allowed typed in
    let long = length-map f.index.items items ∙ sym (ap length c.deref.ensures.value) in
    record {
      known = subst (λ (n : ℕ). All (λ (o : Override). o.global < n) overrides) long known;
      kinds = subst (λ (ix : List (Vec TaskSlot Global)). All (λ (o : Override). All (λ (one : TaskSlot).
          one.task ≡ task → MaySet c.in_ok-row.row one.slot o.value) (slots_at (lists_of items ix) o.global)) overrides)
          (sym c.deref.ensures.value) fit;
    }

pub begin-requires : goal.begin-requires
begin-requires c =
    let f = c.self.inside in
    let task = c.args.task in
    let overrides = c.args.overrides.now in
    let items = λ (v : Vec TaskSlot Global). v.items in
    let index = lists_of items f.index.items in
    let t = c.index-taken.result.now in
    let slots = lasting_types t.layout.verified.code in
    let read = row_read f.types.items f.globals.items f.tasks.items c.args.self.now task t c.self.view_is
    c.requires.task c.index-taken.ensures in
    let allowed = subst (λ (i : ProcessImage). AreAllowed i.types overrides) (sym c.self.view_is) c.requires.in_types in
    let row = c.put_overrides.ensures
    ∙ ap (λ (ix : List (Vec TaskSlot Global)). row_under (lists_of items ix) task overrides c.in_ok-row.row)
    c.deref.ensures.value
    ∙ ap (row_under index task overrides) (c.in_ok-row.ensures ∙ c.row.ensures.value) in
    subst (λ (vs : List Value). AreOf vs slots) (sym row)
    (under_in_types f.types.items f.globals.items f.tasks.items index task t overrides c.self.invariant read allowed
    c.row.ensures.in_types)

pub returns : goal.returns
returns c =
    let f = c.self.inside in
    let task = c.args.task in
    let overrides = c.args.overrides.now in
    let items = λ (v : Vec TaskSlot Global). v.items in
    let index = lists_of items f.index.items in
    let t = c.index-taken.result.now in
    let read = row_read f.types.items f.globals.items f.tasks.items c.args.self.now task t c.self.view_is
    c.requires.task c.index-taken.ensures in
    let allowed = subst (λ (i : ProcessImage). AreAllowed i.types overrides) (sym c.self.view_is) c.requires.in_types in
    let of = taken f.types.items f.globals.items f.tasks.items index c.args.self.now task t c.self.invariant
    c.self.view_is read in
    let row = c.put_overrides.ensures
    ∙ ap (λ (ix : List (Vec TaskSlot Global)). row_under (lists_of items ix) task overrides c.in_ok-row.row)
    c.deref.ensures.value
    ∙ ap (row_under index task overrides) (c.in_ok-row.ensures ∙ c.row.ensures.value) in
    record {
      verified = IfOk-weaker c.begin.result _ _
          (λ s e. of.verified ∙ ap Some (sym (ap (λ (s : ScanStart). s.verified) e))) c.begin.ensures;
      values = IfOk-weaker c.begin.result _ _
          (λ s e slot. ap (λ (s : ScanStart). slice_get s.lasting.slots slot) e
          ∙ ap (λ (vs : List Value). slice_get vs slot) row
          ∙ taken_under f.types.items f.globals.items f.tasks.items index c.args.self.now task t overrides
          c.self.invariant c.self.view_is read allowed slot) c.begin.ensures;
      blocks = IfOk-weaker c.begin.result _ _
          (λ s e. of.blocks ∙ ap Some (sym (ap (λ (s : ScanStart). s.lasting.blocks) e))) c.begin.ensures;
      moment = IfOk-weaker c.begin.result _ _ (λ s e. ap (λ (s : ScanStart). s.moment) e) c.begin.ensures;
    }
