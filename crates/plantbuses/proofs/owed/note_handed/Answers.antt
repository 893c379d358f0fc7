use Rattle.std.proofs.Common.{ℕ, false, length, ◌<◌, refl, sym, ap, ◌∙◌, subst, arith}
use Rattle.std.proofs.lemmas.Bool.{and_right}
use Rattle.std.proofs.lemmas.List.{get_or_read}
use Rattle.std.specs.Prelude.{slice_set}
use Rattle.plantevents.specs.declared.event.Origin.{Origin}
use Rattle.plantevents.specs.declared.event.Origin.TheVariants.{Output}
use Rattle.plantbuses.specs.AddressSets.{one_if}
use Rattle.plantbuses.specs.HandingSteps.{IsOfClass}
use Rattle.plantbuses.specs.OwedSteps.{no_levels}
use Rattle.plantbuses.proofs.OwedChanges.{IsHanded, owed_handed, queued_handed, output_handed}
use Rattle.plantbuses.proofs.owed.note_handed.Goals as goal

pub note-requires : goal.note-requires
note-requires c = (subst (IsOfClass c.args.next.class) c.in-Output.is c.requires.class).0

pub returns : goal.returns
returns c = λ p t h first follows.
    let items = c.args.owed.now.items in let b = c.args.bus in let class = c.args.next.class in
    let after = c.note.new.self in
    let lt : c.from.result < length items = let e = c.from.ensures in let k = c.requires.known in omega arith in
    let read = get_or_read items c.from.result c.index_mut.result.now lt c.index_mut.ensures.value no_levels in
    let last = slice_set items c.from.result after in
    let level = Output c.in-Output.address c.in-Output.level in
    let made : IsHanded c.from.result level items last =
    output_handed c.from.result c.in-Output.address c.in-Output.level items c.index_mut.result.now after lt read
    (λ k. c.note.ensures.here k ∙ ap one_if (and_right _ false refl)) c.note.ensures.others in
    owed_handed p b c.args.next.origin t h items last first
    (subst (λ (o : Origin). IsHanded b o items last) (sym c.in-Output.is)
    (subst (λ (n : ℕ). IsHanded n level items last) c.from.ensures made)) follows

pub returns-in_default : goal.returns-in_default
returns-in_default c = λ p t h first follows.
    let items = c.args.owed.now.items in let b = c.args.bus in
    owed_handed p b c.args.next.origin t h items items first
    (subst (λ (o : Origin). IsHanded b o items items) (sym c.in_default.is) (queued_handed b c.in_default.field-0 items))
    follows
