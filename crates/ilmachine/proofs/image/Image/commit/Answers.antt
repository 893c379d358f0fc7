use Rattle.std.proofs.Common.{◌≡◌, ◌∙◌, ◌≤◌, List, ap, sym, subst, length, arith, Vec, Global}
use Rattle.std.specs.Prelude.{slice_set}
use Rattle.std.specs.List.{AllZip}
use Rattle.std.proofs.lemmas.List.{length-map}
use Rattle.iltypes.specs.Values.{AreOf}
use Rattle.ilblocks.specs.Calls.{IsBlockOf}
use Rattle.ilblocks.proofs.Blocks.{as_long}
use Rattle.ilverify.specs.Listings.{lasting_types}
use Rattle.ilmachine.specs.declared.slots.TaskSlot.{TaskSlot}
use Rattle.ilmachine.specs.Images.{TaskLayout, ProcessImage, layout_of, value_of, blocks_of, written_in}
use Rattle.ilmachine.specs.TaskRows.{TaskRow, shown, shown_image}
use Rattle.ilmachine.specs.RowSteps.{IsIndex, IsKept, layouts_of, lists_of}
use Rattle.ilmachine.proofs.ImagePlaces.{externals_fit}
use Rattle.ilmachine.proofs.Commits.{committed, layout_stays, written, kept, blocks_are, other_blocks}
use Rattle.ilmachine.proofs.RowSlots.{read_there}
use Rattle.ilmachine.proofs.RowCommits.{leaving, storable, IsStored, layout_read, task_within, after_commit, scanned}
use Rattle.ilmachine.proofs.RowCommits.{commit_kept}
use Rattle.ilmachine.proofs.image.Image.commit.Goals as goal

pub store-requires : goal.store-requires
store-requires c =
    let f = c.self.inside in
    let vs = c.args.values.now in
    let items = λ (v : Vec TaskSlot Global). v.items in
    let index = lists_of items f.index.items in
    let h = leaving f.types.items f.globals.items f.tasks.items index c.args.self.now c.args.task vs c.args.blocks.items
    c.self.invariant c.self.view_is c.requires in
    record {
      each = ap length c.deref.ensures.value ∙ sym (length-map f.index.items items) ∙ c.self.invariant.each;
      storable = storable f.types.items f.globals.items f.tasks.items index c.args.task vs c.args.blocks.items
          c.self.invariant h;
      ready = c.self.invariant.ready;
      indexed = subst (λ (ix : List (Vec TaskSlot Global)). IsIndex (layouts_of f.tasks.items) (lists_of items ix))
          (sym c.deref.ensures.value) c.self.invariant.indexed;
    }

pub index_mut-requires : goal.index_mut-requires
index_mut-requires c =
    let f = c.self.inside in
    let index = lists_of (λ (v : Vec TaskSlot Global). v.items) f.index.items in
    let h = leaving f.types.items f.globals.items f.tasks.items index c.args.self.now c.args.task c.args.values.now
    c.args.blocks.items c.self.invariant c.self.view_is c.requires in
    let within = task_within c.store.new.tasks.items f.tasks.items c.args.task h.of.layout c.store.ensures.layouts
    h.layout in
    omega (arith, within, c.store.new.tasks.ok.0)

pub keep-requires : goal.keep-requires
keep-requires c =
    let f = c.self.inside in
    let vs = c.args.values.now in
    let index = lists_of (λ (v : Vec TaskSlot Global). v.items) f.index.items in
    let h = leaving f.types.items f.globals.items f.tasks.items index c.args.self.now c.args.task vs c.args.blocks.items
    c.self.invariant c.self.view_is c.requires in
    let same = layout_read c.store.new.tasks.items f.tasks.items c.args.task c.index_mut.result.now h.of.layout
    c.store.ensures.layouts h.layout c.index_mut.ensures.value in
    let slots = lasting_types h.of.layout.verified.code in
    let fit = externals_fit f.types.items slots h.of.layout.externals h.lawful.typed in
    let filled = as_long vs slots h.lasting.values in
    let enough : length h.of.layout.externals ≤ length vs = omega (arith, fit, filled) in
    record {
      values = subst (λ (l : TaskLayout). AreOf vs (lasting_types l.verified.code)) (sym same) h.lasting.values;
      externals = subst (λ (l : TaskLayout). length l.externals ≤ length vs) (sym same) enough;
      blocks = subst (λ (l : TaskLayout). AllZip (IsBlockOf l.verified.code.buses) c.args.blocks.items
          l.verified.code.kinds) (sym same) h.lasting.blocks;
    }

pub invariant_of-self : goal.invariant_of-self
invariant_of-self c =
    let f = c.self.inside in
    let vs = c.args.values.now in
    let blocks = c.args.blocks.items in
    let task = c.args.task in
    let gs = c.store.new.globals.items in
    let after = c.store.new.tasks.items in
    let index = lists_of (λ (v : Vec TaskSlot Global). v.items) f.index.items in
    let h = leaving f.types.items f.globals.items f.tasks.items index c.args.self.now task vs blocks c.self.invariant
    c.self.view_is c.requires in
    let read = c.index_mut.result.now in
    let s : IsStored f.globals.items gs f.tasks.items after task vs = record {
      written = c.store.ensures.globals;
      layouts = c.store.ensures.layouts;
      shown = c.store.ensures.shown;
      ready = c.store.ensures.ready;
    } in
    let same = layout_read after f.tasks.items task read h.of.layout s.layouts h.layout c.index_mut.ensures.value in
    let within = task_within after f.tasks.items task h.of.layout s.layouts h.layout in
    let is = read_there after task read within c.index_mut.ensures.value in
    subst (λ (t : TaskRow). IsKept f.types.items gs (slice_set after task t) index) (sym c.keep.ensures)
    (commit_kept f.types.items f.globals.items gs f.tasks.items after index task vs blocks read c.self.invariant h s is
    same)

pub returns : goal.returns
returns c =
    let f = c.self.inside in
    let vs = c.args.values.now in
    let blocks = c.args.blocks.items in
    let task = c.args.task in
    let globals = f.globals.items in
    let gs = c.store.new.globals.items in
    let after = c.store.new.tasks.items in
    let index = lists_of (λ (v : Vec TaskSlot Global). v.items) f.index.items in
    let h = leaving f.types.items globals f.tasks.items index c.args.self.now task vs blocks c.self.invariant
    c.self.view_is c.requires in
    let read = c.index_mut.result.now in
    let s : IsStored globals gs f.tasks.items after task vs = record {
      written = c.store.ensures.globals;
      layouts = c.store.ensures.layouts;
      shown = c.store.ensures.shown;
      ready = c.store.ensures.ready;
    } in
    let same = layout_read after f.tasks.items task read h.of.layout s.layouts h.layout c.index_mut.ensures.value in
    let within = task_within after f.tasks.items task h.of.layout s.layouts h.layout in
    let is = read_there after task read within c.index_mut.ensures.value in
    let image = shown_image f.types.items globals f.tasks.items in
    let t = shown h.of in
    let done = scanned f.types.items globals f.tasks.items index task vs blocks c.self.invariant h in
    let new : shown_image f.types.items gs (slice_set after task c.keep.new.self) ≡ committed image task t vs blocks =
    ap (λ (u : TaskRow). shown_image f.types.items gs (slice_set after task u)) c.keep.ensures
    ∙ after_commit f.types.items globals gs f.tasks.items after task vs blocks read h s (s.ready.rows task read is)
    same in
    record {
      layout = ap layout_of new ∙ layout_stays image task t vs blocks done.is ∙ ap layout_of c.self.view_is;
      written = λ slot variable w. ap (λ (i : ProcessImage). value_of i variable) new
          ∙ written image task slot t vs blocks variable done
          (ap (λ (i : ProcessImage). written_in (layout_of i) task slot) c.self.view_is ∙ w);
      kept = λ variable n. ap (λ (i : ProcessImage). value_of i variable) new
          ∙ kept image task t vs blocks variable done.is
          (λ slot e. n slot (sym (ap (λ (i : ProcessImage). written_in (layout_of i) task slot) c.self.view_is) ∙ e))
          ∙ ap (λ (i : ProcessImage). value_of i variable) c.self.view_is;
      blocks = ap (λ (i : ProcessImage). blocks_of i task) new ∙ blocks_are image task t vs blocks done.is;
      others = λ other n. ap (λ (i : ProcessImage). blocks_of i other) new
          ∙ other_blocks image task other t vs blocks n
          ∙ ap (λ (i : ProcessImage). blocks_of i other) c.self.view_is;
    }
