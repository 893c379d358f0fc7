use Rattle.std.proofs.Common.{ℤ, drop, sym, subst, ap, ◌∙◌, to_z, of_z}
use Rattle.std.specs.Int.{w64}
use Rattle.std.proofs.lemmas.Int.{to_z-of_z}
use Rattle.std.proofs.lemmas.List.{drop-drop}
use Rattle.ilcodefile.specs.FieldSteps.{HoldsType}
use Rattle.ilcodefile.proofs.FieldLaws.{slot_read}
use Rattle.ilcodefile.proofs.fields.slot_at.Goals as goal

pub returns-clause-exact : goal.returns-clause-exact
returns-clause-exact c =
    λ t more fits e.
    let kind = c.tag_at-kind.result.0 in
    let lo = c.whole_at-lo.result.0 in
    let hi = c.whole_at-hi.result.0 in
    let read = slot_read c.args.bytes.now more c.tag_at-kind.result.1.now c.whole_at-lo.result.1.now
    c.whole_at-hi.result.1.now kind lo hi
    c.tag_at-kind.ensures.value c.tag_at-kind.ensures.rest c.whole_at-lo.ensures.value c.whole_at-lo.ensures.rest
    c.whole_at-hi.ensures.value c.whole_at-hi.ensures.rest t fits e in
    let low = to_z-of_z w64 lo (search) in
    let high = to_z-of_z w64 hi (search) in
    let held = subst (λ (z : ℤ). HoldsType t kind z hi) (sym low) read.0 in
    let all = subst (λ (z : ℤ). HoldsType t kind (to_z w64 (of_z w64 lo)) z) (sym high) held in
    (c.type_of.ensures.exact t all, read.1)

pub returns-clause-rest : goal.returns-clause-rest
returns-clause-rest c =
    c.whole_at-hi.ensures.rest ∙ ap (drop 8) (c.whole_at-lo.ensures.rest ∙ ap (drop 8) c.tag_at-kind.ensures.rest)
    ∙ ap (drop 8) (drop-drop 8 8 c.args.bytes.now) ∙ drop-drop 8 16 c.args.bytes.now
