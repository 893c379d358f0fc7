use Rattle.std.proofs.Common.{◌≡◌, List, Option, Some, refl, sym, ap, ◌∙◌, subst}
use Rattle.std.specs.Prelude.{IfSome, slice_get}
use Rattle.std.specs.Option.{IsSomeAnd}
use Rattle.iltypes.specs.declared.value.Value.{Value}
use Rattle.iltypes.specs.Values.{AreOf}
use Rattle.ilcode.specs.Listings.{lasting_types}
use Rattle.ilmachine.specs.Verdicts.{Accepted}
use Rattle.ilblocks.specs.Calls.{Block}
use Rattle.ilmachine.specs.Images.{TaskImage, IsTaskImage, layout_of}
use Rattle.ilmachine.proofs.ImagePlaces.{with_task, layout_at}
use Rattle.plant.proofs.Written.{IsCommitted, is_ended, image_committed}
use Rattle.plant.proofs.writes.write_scan.Goals as goal

pub returns : goal.returns
returns c = λ p w n running h follows busy of_task.
    let image = c.args.image.now in
    let t = c.args.task in
    let scan = c.args.scan in
    let parts = c.into_parts-snapshot.ensures in
    let code = λ (v : Accepted). v ≡ scan.snapshot.verified in
    let here = with_task image t code (subst (λ (o : Option Accepted). IsSomeAnd o code) (sym c.requires) refl) in
    let own : IsTaskImage here.of = subst (λ (o : Option TaskImage). IfSome o IsTaskImage) here.is
    c.externals-own.ensures.own in
    let typed = subst (λ (a : Accepted). AreOf scan.after.slots (lasting_types a.code)) (sym here.holds)
    (subst (λ (vs : List Value). AreOf vs (lasting_types scan.snapshot.verified.code)) parts.values
    parts.in_types.values) in
    let ended = is_ended image t here.of scan.after.slots c.externals-own.ensures.image here.is own.values typed in
    let done : IsCommitted image c.commit.new.self t scan.after.slots scan.after.blocks = record {
      same = c.commit.ensures.layout;
      written = λ slot v from.
          c.commit.ensures.written slot v from ∙ ap (λ (vs : List Value). slice_get vs slot) parts.values;
      kept = c.commit.ensures.kept;
      here = c.commit.ensures.blocks ∙ ap (λ (bs : List Block). Some bs) parts.blocks;
      others = c.commit.ensures.others;
    } in
    image_committed p w n t running scan h image c.commit.new.self here.of follows busy of_task ended done
    (λ v. c.what_a_scan_writes.ensures (layout_of image) t here.of.layout v scan.after.slots
    (layout_at image t here.of here.is) ended.externals)
