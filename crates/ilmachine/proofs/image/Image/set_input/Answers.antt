use Rattle.std.proofs.Common.{◌∙◌, List, ap, sym, subst, length, map, arith, Vec, Global}
use Rattle.std.specs.Prelude.{slice_get, slice_set}
use Rattle.std.proofs.lemmas.List.{length-map}
use Rattle.std.proofs.lemmas.Option.{slice_get_within}
use Rattle.iltypes.specs.declared.value.Value.{Value}
use Rattle.iltypes.specs.Values.{IsOf}
use Rattle.ilblocks.proofs.Blocks.{as_long, value_at}
use Rattle.ilmachine.specs.declared.slots.TaskSlot.{TaskSlot}
use Rattle.ilmachine.specs.Images.{ProcessImage, TaskImage, image_of, layout_of, value_of, blocks_of}
use Rattle.ilmachine.specs.Snapshots.{MayHave}
use Rattle.ilmachine.specs.TaskRows.{shown}
use Rattle.ilmachine.specs.RowSteps.{IsIndex, layouts_of, lists_of}
use Rattle.ilmachine.proofs.ImagePlaces.{there}
use Rattle.ilmachine.proofs.Commits.{get_set_same, set_kept}
use Rattle.ilmachine.proofs.RowCommits.{may_give, input_kept}
use Rattle.ilmachine.proofs.image.Image.set_input.Goals as goal

pub give-requires : goal.give-requires
give-requires c =
    let f = c.self.inside in
    let items = λ (v : Vec TaskSlot Global). v.items in
    let may = subst (λ (i : ProcessImage). MayHave i.types c.args.global c.args.value) (sym c.self.view_is)
    c.requires in
    let t = there (slice_get f.types.items c.args.global) (IsOf c.args.value) may in
    let within = slice_get_within f.types.items c.args.global t.of t.is in
    let long = as_long f.globals.items f.types.items c.self.invariant.image.globals in
    record {
      there = omega arith;
      each = ap length c.deref.ensures.value ∙ sym (length-map f.index.items items) ∙ c.self.invariant.each;
      fits = may_give f.types.items f.globals.items f.tasks.items c.args.global c.args.value c.self.invariant.image may;
      ready = c.self.invariant.ready;
      indexed = subst (λ (ix : List (Vec TaskSlot Global)). IsIndex (layouts_of f.tasks.items) (lists_of items ix))
          (sym c.deref.ensures.value) c.self.invariant.indexed;
    }

pub invariant_of-self : goal.invariant_of-self
invariant_of-self c =
    let f = c.self.inside in
    let index = lists_of (λ (v : Vec TaskSlot Global). v.items) f.index.items in
    let may = subst (λ (i : ProcessImage). MayHave i.types c.args.global c.args.value) (sym c.self.view_is)
    c.requires in
    input_kept f.types.items f.globals.items c.give.new.globals.items f.tasks.items c.give.new.tasks.items index
    c.args.global c.args.value c.self.invariant may c.give.ensures.globals c.give.ensures.layouts c.give.ensures.shown
    c.give.ensures.ready

pub returns : goal.returns
returns c =
    let f = c.self.inside in
    let types = f.types.items in
    let globals = f.globals.items in
    let gs = c.give.new.globals.items in
    let may = subst (λ (i : ProcessImage). MayHave i.types c.args.global c.args.value) (sym c.self.view_is)
    c.requires in
    let t = there (slice_get types c.args.global) (IsOf c.args.value) may in
    let old = value_at globals types c.args.global t.of c.self.invariant.image.globals t.is in
    record {
      layout = ap (λ (ts : List TaskImage). layout_of (image_of types gs ts)) c.give.ensures.shown
          ∙ ap layout_of c.self.view_is;
      written = ap (λ (xs : List Value). slice_get xs c.args.global) c.give.ensures.globals
          ∙ get_set_same globals c.args.global c.args.value old.value old.is;
      kept = λ variable n.
          ap (λ (xs : List Value). value_of (image_of types xs (map shown c.give.new.tasks.items)) variable)
          c.give.ensures.globals
          ∙ ap (λ (ts : List TaskImage). value_of (image_of types (slice_set globals c.args.global c.args.value) ts)
          variable) c.give.ensures.shown
          ∙ set_kept types globals (map shown f.tasks.items) c.args.global c.args.value variable n
          ∙ ap (λ (i : ProcessImage). value_of i variable) c.self.view_is;
      blocks = λ task. ap (λ (ts : List TaskImage). blocks_of (image_of types gs ts) task) c.give.ensures.shown
          ∙ ap (λ (i : ProcessImage). blocks_of i task) c.self.view_is;
    }
