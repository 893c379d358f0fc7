use Rattle.std.proofs.Common.{◌∙◌, Option, List, refl, ap, sym, subst, length, arith}
use Rattle.std.specs.Prelude.{slice_get}
use Rattle.std.proofs.lemmas.Option.{slice_get_read}
use Rattle.std.specs.Option.{IsSomeAnd}
use Rattle.iltypes.specs.declared.value.IlType.{IlType}
use Rattle.iltypes.specs.declared.value.Value.{Value}
use Rattle.iltypes.specs.Values.{IsOf}
use Rattle.ilblocks.proofs.Stores.{type_at}
use Rattle.ilmachine.specs.Images.{ProcessImage, IsImage}
use Rattle.ilmachine.proofs.image.Image.value.Goals as goal

pub returns-clause-in_type : goal.returns-clause-in_type
returns-clause-in_type c =
    let image = c.args.self.now in
    let whole = subst IsImage c.self.view_is c.self.invariant.image in
    let same = ap (λ (i : ProcessImage). i.globals) c.self.view_is in
    let long = ap length same in
    let is = slice_get_read c.self.inside.globals.items (length c.self.inside.globals.items) c.args.global
    c.index.result.now refl (omega (arith, long, c.requires)) c.index.ensures in
    let t = type_at image.globals image.types c.args.global c.index.result.now whole.globals
    (ap (λ (gs : List Value). slice_get gs c.args.global) (sym same) ∙ is) in
    subst (λ (o : Option IlType). IsSomeAnd o (IsOf c.index.result.now)) (sym t.is) t.typed
