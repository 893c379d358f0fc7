use Rattle.std.proofs.Common.{◌≡◌, ap, false, [], ◌∷◌, List, slice_set, ◌∙◌, sym}
use Rattle.ilcode.specs.declared.word.Word.TheVariants as words
use Rattle.ilcode.specs.declared.word.Target.TheVariants as targets
use Rattle.ilverify.specs.declared.entry.Entry.{Entry}
use Rattle.ilverify.specs.declared.known.Known.{Known}
use Rattle.ilverify.specs.Operands.{type_of_variable}
use Rattle.refusalscode.proofs.Onward.{onward, stored_is}
use Rattle.refusalscode.proofs.known.stored_slot_is_known_anew.Goals as goal

pub returns : goal.returns
returns c =
    onward c.args.code.now c.args.place c.args.met c.args.entry.now (words.Store false (targets.Slot 0))
    (λ after. after.slots ≡ c.args.stored ∷ []) _ c.after_word.result c.after_word.ensures
    (λ ways is. is)
    (λ (after : Entry) is.
    let kept = ap (λ (e : Entry). e.slots) is.1.is in
    let there = ap (λ (slots : List Known). slice_set slots 0 is.1.stored) c.requires.before in
    let same = stored_is c.args.entry.now.result (type_of_variable c.args.code.now (targets.Slot 0)) c.args.stored
    is.1.stored c.requires.stored is.1.written in
    kept ∙ (there ∙ ap (λ (known : Known). known ∷ []) (sym same)))
