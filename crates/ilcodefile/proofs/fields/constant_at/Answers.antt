use Rattle.std.proofs.Common.{ℤ, drop, sym, subst, ap, ◌∙◌}
use Rattle.std.specs.Int.{w64}
use Rattle.std.proofs.lemmas.Int.{to_z-of_z}
use Rattle.std.proofs.lemmas.List.{drop-drop}
use Rattle.ilcodefile.specs.FieldSteps.{Holds}
use Rattle.ilcodefile.proofs.FieldLaws.{constant_read}
use Rattle.ilcodefile.proofs.fields.constant_at.Goals as goal

pub returns-clause-exact : goal.returns-clause-exact
returns-clause-exact c =
    λ v more fits e.
    let kind = c.tag_at-kind.result.0 in
    let number = c.whole_at-number.result.0 in
    let read = constant_read c.args.bytes.now more c.tag_at-kind.result.1.now c.whole_at-number.result.1.now
    kind number c.tag_at-kind.ensures.value c.tag_at-kind.ensures.rest
    c.whole_at-number.ensures.value c.whole_at-number.ensures.rest v fits e in
    let again = to_z-of_z w64 number (search) in
    (c.constant_of.ensures.exact v (subst (λ (z : ℤ). Holds v kind z) (sym again) read.0), read.1)

pub returns-clause-rest : goal.returns-clause-rest
returns-clause-rest c =
    c.whole_at-number.ensures.rest ∙ ap (drop 8) c.tag_at-kind.ensures.rest ∙ drop-drop 8 8 c.args.bytes.now
