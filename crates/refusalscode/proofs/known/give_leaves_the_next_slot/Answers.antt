use Rattle.std.proofs.Common.{◌≡◌, ap, slice_get, ◌∙◌}
use Rattle.ilcode.specs.declared.word.Word.TheVariants as words
use Rattle.ilcode.specs.declared.word.WordOperand.TheVariants as operands
use Rattle.ilverify.specs.declared.entry.Entry.{Entry}
use Rattle.refusalscode.proofs.Onward.{onward, next_slot_stays}
use Rattle.refusalscode.proofs.known.give_leaves_the_next_slot.Goals as goal

pub returns : goal.returns
returns c =
    onward c.args.code.now c.args.place c.args.met c.args.entry.now (words.Give (operands.Constant 0) 0)
    (λ after. slice_get after.slots 1 ≡ slice_get c.args.entry.now.slots 1) _ c.after_word.result c.after_word.ensures
    (λ ways is. is)
    (λ (after : Entry) is. ap (λ (e : Entry). slice_get e.slots 1) is.2.is
    ∙ next_slot_stays c.args.entry.now.slots is.2.stored)
